-- Laws behind pinning: one qubit pinned, free or blocked, as the definition has it, and how far the loop over the qubits has
-- come.
-- Assumes nothing.
use mathlib.Core.Path.{◌≡◌, refl, sym, ap, ◌∙◌}
use Prim.Native.Nat.{ℕ, suc, ◌+◌, ◌-◌, ◌<◌, ◌≤◌}
use native.Mathlib.Numerals.{add-one}
use native.Mathlib.Omega.{arith}
use mathlib.Core.Bool.{true, false}
use mathlib.Core.Option.{none, some}
use lib.ListN.{length}
use Rattle.phase_sum_meaning.specs.Sets.{first_in}
use Rattle.phase_sum_meaning.specs.Parity.{Parity, rest}
use Rattle.phase_sum_meaning.specs.Building.{PathSum}
use Rattle.phase_sum_meaning.specs.Stepping.{replace}
use Rattle.phase_sum_types.specs.Workspace.{set_of, parity_of, Lent, members, sum_of, Became, Sized}
use Rattle.phase_sum_types.specs.declared.Parity.{Parity as ParityWord}
use Rattle.phase_sum_types.specs.declared.Sum.{Sum}
use Rattle.phase_sum_types.proofs.Running.{AsLong}
use Rattle.phase_sum_types.proofs.Changing.{room-replace, still_sized}
use Rattle.comparison_meaning.specs.Reduction as reduction
use Rattle.comparison_meaning.specs.Reduction.{add_pin, is_zero, mismatch, pin_from, pinned, blocks}
use Rattle.comparison_types.specs.Inner.{counts_of, no_steps, stops_at, blocked_at, CountedTo, PinsQubit, BlocksQubit, PinnedAll}
use Rattle.comparison_types.specs.declared.Counts.{Counts}
use Rattle.comparison_types.specs.declared.Progress.{Progress}

-- where a variable left is in the mismatch p, it is replaced
pin_found :
    (m q z : ℕ) (p : Parity) (s : PathSum) (c : reduction.Counts) →
    p ≡ mismatch 0 q s →
    first_in s.live p.vars ≡ some z →
    pin_from 0 (suc m) q s c ≡ pin_from 0 m (suc q) (replace z (rest z p) s) (add_pin c)
unfolding pin_from
pin_found m q z p s c is e = rw is (rw (rw is at e, pin_from))

-- where none is, the sum stays if the mismatch is constantly 0
pin_free :
    (m q : ℕ) (p : Parity) (s : PathSum) (c : reduction.Counts) →
    p ≡ mismatch 0 q s →
    first_in s.live p.vars ≡ none →
    is_zero p ≡ true →
    pin_from 0 (suc m) q s c ≡ pin_from 0 m (suc q) s c
unfolding pin_from
pin_free m q p s c is e z = rw (rw is at e, pin_from) (rw (rw is at z))

-- and is blocked if not
pin_stuck :
    (m q : ℕ) (p : Parity) (s : PathSum) (c : reduction.Counts) →
    p ≡ mismatch 0 q s →
    first_in s.live p.vars ≡ none →
    is_zero p ≡ false →
    pin_from 0 (suc m) q s c ≡ blocks p s c
unfolding pin_from
pin_stuck m q p s c is e z = rw is (rw (rw is at e, pin_from) (rw (rw is at z)))

-- a qubit pinned by its mismatch w, which holds the variable z
pub pinned-found :
    (q z : ℕ) (w v : ParityWord) (p : Progress) (r : Sum) (d : Counts) {m : ℕ} {l l' : Lent} →
    q < length l.wires →
    p.counts.pins ≤ q →
    Sized p.sum l →
    parity_of w ≡ mismatch 0 q (sum_of p.sum l) →
    first_in (members (set_of p.sum.live)) (set_of w.set) ≡ some z →
    parity_of v ≡ rest z (parity_of w) →
    Became (replace z (parity_of v) (sum_of p.sum l)) m r l l' →
    AsLong l l' →
    counts_of d ≡ add_pin (counts_of p.counts) →
    PinsQubit q p (record { sum = r; counts = d }) l l'
unfolding add_pin
pinned-found q z w v p r d {l = l} {l' = l'} h few sized is e v-is became long counted =
    let pins = ap (λ (c : reduction.Counts). c.pins) counted in
    let sums = ap (λ (c : reduction.Counts). c.sums) counted in
    let turns = ap (λ (c : reduction.Counts). c.turns) counted in
    let joins = ap (λ (c : reduction.Counts). c.joins) counted in
    record {
      steps = λ m. pin_found m q z (parity_of w) (sum_of p.sum l) (counts_of p.counts) is e ∙ rw (← v-is, ← became.sum, counted);
      sized = still_sized p.sum _ r l l' sized (room-replace z (parity_of v) (sum_of p.sum l)) became long;
      wires = long.wires;
      pins = omega arith;
      others = λ f. record {
        pins = omega (arith, sized.few);
        sums = omega (arith, f.sums);
        turns = omega (arith, f.turns);
        joins = omega (arith, f.joins);
      };
    }

-- a qubit whose mismatch w holds no variable left
module _
    (q : ℕ) (w : ParityWord) (p : Progress) {l : Lent} (few : p.counts.pins ≤ q) (sized : Sized p.sum l)
    (is : parity_of w ≡ mismatch 0 q (sum_of p.sum l)) (nothing : first_in (members (set_of p.sum.live)) (set_of w.set) ≡ none)
  where
    -- is pinned already where the mismatch is constantly 0
    pub pinned_free : true ≡ is_zero (parity_of w) → PinsQubit q p p l l
    pinned_free zero =
        record {
          steps = λ m. pin_free m q (parity_of w) (sum_of p.sum l) (counts_of p.counts) is nothing (sym zero);
          sized = sized;
          wires = refl;
          pins = omega arith;
          others = λ f. f;
        }

    -- and else blocked
    pub pinned_stuck : false ≡ is_zero (parity_of w) → BlocksQubit q p w l l
    pinned_stuck other =
        record {
          ends = λ m. pin_stuck m q (parity_of w) (sum_of p.sum l) (counts_of p.counts) is nothing (sym other);
          same = refl;
        }

-- pinning the sum s has come to qubit q at p, not blocked, and pinning what is left of it pins the whole
pub record PinnedTo (q : ℕ) (s : Sum) (p : Progress) (l l' : Lent) : Type 0 where
  pub within : q ≤ length l.wires
  pub left :
      pinned 0 (length l.wires) (sum_of s l) ≡ pin_from 0 (length l.wires - q) q (sum_of p.sum l') (counts_of p.counts)
  pub sized : Sized p.sum l'
  pub pins : p.counts.pins ≤ q
  pub steps : CountedTo 0 p.counts
  pub wires : length l'.wires ≡ length l.wires

-- before the first qubit
pub none_pinned :
    (s : Sum) {l : Lent} → Sized s l → PinnedTo 0 s (record { sum = s; counts = no_steps }) l l
none_pinned s {l} sized =
    let whole : length l.wires - 0 ≡ length l.wires = omega arith in
    record {
      within = omega arith;
      left = rw whole;
      sized = sized;
      pins = omega arith;
      steps = record { pins = omega arith; sums = omega arith; turns = omega arith; joins = omega arith };
      wires = refl;
    }

module _
    (q : ℕ) (s : Sum) (p : Progress) {l l₁ : Lent} (h : q < length l.wires) (to : PinnedTo q s p l l₁)
  where
    -- the qubits that are left are q and those behind it
    more : length l.wires - q ≡ suc (length l.wires - (q + 1))
    more = omega arith

    -- where qubit q is pinned, pinning has come one further
    pub more_pinned : {r : Progress} {l₂ : Lent} → PinsQubit q p r l₁ l₂ → PinnedTo (q + 1) s r l l₂
    more_pinned one =
        record {
          within = omega arith;
          left = to.left ∙ rw (more, add-one) (one.steps _);
          sized = one.sized;
          pins = one.pins;
          steps = one.others to.steps;
          wires = one.wires ∙ to.wires;
        }

    -- where it is blocked, pinning ends
    pub pinned_blocked : {w : ParityWord} {l₂ : Lent} → BlocksQubit q p w l₁ l₂ → PinnedAll s (blocked_at p w) l l₂
    pinned_blocked one =
        record {
          end = rw one.same (sym (to.left ∙ rw more (one.ends _)));
          sized = rw one.same to.sized;
          steps = to.steps;
        }

-- behind the last qubit pinning ends
pub all_pinned : (q : ℕ) (s : Sum) (p : Progress) {l l' : Lent} → length l.wires ≤ q → PinnedTo q s p l l' → PinnedAll s (stops_at p) l l'
unfolding pin_from
all_pinned q s p {l} h to =
    let none_left : length l.wires - q ≡ 0 = omega arith in
    record { end = sym (rw none_left at to.left); sized = to.sized; steps = to.steps }
