-- Pinning: it keeps the diagonal of the sum, and its counts add up. Where it goes through, every wire ends as its input, so the
-- diagonal is the sum of the phase alone; where it is blocked, the diagonal is 0 at an input that makes the blocked parity 1.
-- Assumes nothing.
use mathlib.Core.Path.{◌≡◌, refl, sym, ◌∙◌, ap, fun_ext}
use mathlib.Core.Logic.{⊎_elim}
use mathlib.Core.Bool.{Bool, true, false, not, xor, and-eq-true_iff, true≢false}
use mathlib.Core.List.{List}
use mathlib.Core.Option.{Option, none, some, some-injective, none-ne-some, some-ne-none}
use Prim.Native.Nat.{ℕ, zero, suc, ◌+◌, ◌^◌, ◌<◌, ◌≤◌}
use native.Mathlib.Nat.{add-zero}
use native.Mathlib.Omega.{arith}
use lib.Dec.{eqb, ltb}
use lib.ListN.{length}
use lib.Pow.{pow_pos, pow-lt}
use borrow.Author.Tests.{eqb-true, eq-eqb, not-true, ltb-true, ltb-false}
use Rattle.record_format.specs.Gate.{Gate, AllWithin}
use Rattle.amplitude.specs.Number.{Zω, 0ω}
use Rattle.amplitude.specs.Bits.{bit, flip}
use Rattle.amplitude.specs.Circuit.{column}
use Rattle.amplitude.proofs.BitLaws.{bit_zero, bits_ext}
use Rattle.phase_sum_meaning.specs.Sets.{◌△◌, first_in, without, from, Among, Clear}
use Rattle.phase_sum_meaning.specs.Parity.{Parity, value, ◌⊕◌, rest}
use Rattle.phase_sum_meaning.specs.Building.{PathSum, wire, input, build}
use Rattle.phase_sum_meaning.specs.Stepping.{replace}
use Rattle.phase_sum_meaning.specs.Meaning.{sum_over, phasor, closes, on_diagonal, remaining}
use Rattle.amplitude.proofs.XorLaws.{xor_falseˡ, xor_falseʳ, xor_self}
use Rattle.phase_sum_meaning.proofs.SetLaws.{△_cancel, △_idl, parity_zero, power-flip}
use Rattle.phase_sum_meaning.proofs.VariableLaws.{first_such_some, first_such_none, among-from}
use Rattle.phase_sum_meaning.proofs.ParityLaws.{value-⊕, value-flip}
use Rattle.phase_sum_meaning.proofs.Summing.{sum_over-without, sum_over_on, sum_over_zero}
use Rattle.phase_sum_meaning.proofs.Replacing.{pin_law, pinned-wire, kept_wire, input_free, closes_open}
use Rattle.phase_sum_meaning.proofs.Wellformed.{Holds, Good, GoodWires, good_build, good_replace, good_wires_replace, live_replace, holds_mismatch, holds_inputs, holds_lowest}
use Rattle.phase_sum_meaning.proofs.Evenness.{NoOdd, no_odd_replace}
use Rattle.phase_sum_meaning.proofs.Roominess.{terms_replace}
use Rattle.phase_sum_meaning.proofs.Built.{reads, meaning, xor_solve, one_or_others, value-input, built}
use Rattle.comparison_meaning.specs.Reduction.{Counts, counts, add_pin, End, is_zero, mismatch, pin_from, pinned}
use Rattle.comparison_meaning.specs.Verdict.{blocked_input}
use Rattle.comparison_meaning.specs.Course.{PathVariable, NoPathVariable, Pins, every_qubit, pins, agrees, unpinnable}
use Rattle.phase_sum_meaning.proofs.ParityLaws.{value_agree}

-- the wires below q are their inputs
abbrev pub Settled : ℕ → ℕ → PathSum → Type 0
Settled scratch q s = (p : ℕ) → p < q → wire p s ≡ input scratch p

-- q blocks the sum s on n qubits: it is a wire's mismatch, holds no path variable and is not constantly 0
abbrev pub Blocking : ℕ → ℕ → PathSum → Parity → Type 0
Blocking scratch n s q =
    (p : ℕ) × (p < n) × (q ≡ mismatch scratch p s) × NoPathVariable n q.vars × (is_zero q ≡ false)

-- what pinning the sum s on n qubits, with the counts c, ends in
pub record PinEnd (scratch n : ℕ) (s : PathSum) (c : Counts) (e : End) : Type 0 where
  pub good : Good n e.sum
  pub pins : e.counts.pins + length e.sum.live ≡ c.pins + length s.live
  pub sums : e.counts.sums ≡ c.sums
  pub turns : e.counts.turns ≡ c.turns
  pub joins : e.counts.joins ≡ c.joins
  pub same : sum_over s.live (on_diagonal scratch n s) ≡ sum_over e.sum.live (on_diagonal scratch n e.sum)
  pub even : NoOdd s.phase.terms → NoOdd e.sum.phase.terms
  pub few : length e.sum.phase.terms ≤ length s.phase.terms
  pub settled : e.blocked_by ≡ none → Settled scratch n e.sum
  pub stuck : (q : Parity) → e.blocked_by ≡ some q → Blocking scratch n e.sum q

-- two parities whose exclusive or is 0 are equal
zero_mismatch : (w p : Parity) → is_zero (◌⊕◌ w p) ≡ true → w ≡ p
unfolding ◌⊕◌
zero_mismatch w p h = λ i. record { vars = vars i; flipped = flipped i }
  where
    parts : (eqb (w.vars △ p.vars) 0 ≡ true) × (not (xor w.flipped p.flipped) ≡ true)
    parts = (and-eq-true_iff _ _).0 h

    vars : w.vars ≡ p.vars
    vars = sym (△_cancel w.vars p.vars) ∙ rw (eqb-true (w.vars △ p.vars) 0 parts.0) (△_idl p.vars)

    flipped : w.flipped ≡ p.flipped
    flipped = xor_solve w.flipped p.flipped false (not-true _ parts.1) ∙ xor_falseʳ p.flipped

-- one more wire that is its input
settled_more : (scratch q : ℕ) (s : PathSum) → Settled scratch q s → wire q s ≡ input scratch q → Settled scratch (suc q) s
settled_more scratch q s below new p l =
    one_or_others (λ i. i < suc q → wire i s ≡ input scratch i) q (λ k. new) (λ i ne k. below i (omega arith)) p l

-- pinning that ends at once
pin_halts :
    (scratch n : ℕ) (b : Option Parity) (s : PathSum) (c : Counts) →
    Good n s →
    (b ≡ none → Settled scratch n s) →
    ((q : Parity) → b ≡ some q → Blocking scratch n s q) →
    PinEnd scratch n s c (record { blocked_by = b; sum = s; counts = c })
pin_halts scratch n b s c good settled stuck =
    record {
      good = good;
      pins = refl;
      sums = refl;
      turns = refl;
      joins = refl;
      same = refl;
      even = λ h. h;
      few = omega arith;
      settled = settled;
      stuck = stuck;
    }

-- the sum after wire q is pinned at the variable z
abbrev pinned_at : ℕ → ℕ → ℕ → PathSum → PathSum
pinned_at scratch q z s = replace z (rest z (mismatch scratch q s)) s

module _
    (scratch n q z : ℕ)
    (s : PathSum)
    (l : q < n)
    (good : Good n s)
    (live : Among z s.live)
    (held : bit z (mismatch scratch q s).vars ≡ true)
  where
    -- a pin at a live variable settles one more wire: those below hold no path variable
    pin_settles : Settled scratch q s → Settled scratch (suc q) (pinned_at scratch q z s)
    pin_settles below = settled_more scratch q (pinned_at scratch q z s) kept (pinned-wire scratch q z s (omega (arith, above)) held)
      where
        above : n ≤ z
        above = good.above z live

        kept : Settled scratch q (pinned_at scratch q z s)
        kept p k =
            kept_wire z (rest z (mismatch scratch q s)) p s (rw (below p k) (input_free scratch p z (omega (arith, above)))) ∙ below p k

    -- it keeps the sum of the diagonal
    pin_same :
        sum_over s.live (on_diagonal scratch n s)
        ≡ sum_over (pinned_at scratch q z s).live (on_diagonal scratch n (pinned_at scratch q z s))
    unfolding replace
    pin_same =
        sum_over-without z s.live (on_diagonal scratch n s) good.rising live
        ∙ ap (sum_over (without z s.live)) (pin_law scratch n q z s l (good.above z live) held)

    -- so pinning may begin with it
    pin_first : (c : Counts) (e : End) → PinEnd scratch n (pinned_at scratch q z s) (add_pin c) e → PinEnd scratch n s c e
    unfolding add_pin
    pin_first c e end =
        record {
          good = end.good;
          pins = omega (arith, end.pins, live_replace n z (rest z (mismatch scratch q s)) s good live);
          sums = end.sums;
          turns = end.turns;
          joins = end.joins;
          same = pin_same ∙ end.same;
          even = λ h. end.even (no_odd_replace z (rest z (mismatch scratch q s)) s h);
          few = omega (arith, end.few, terms_replace z (rest z (mismatch scratch q s)) s);
          settled = end.settled;
          stuck = end.stuck;
        }

-- pinning the last m of n qubits is document 01's course
pins_from :
    (scratch n m q : ℕ) (s : PathSum) (c : Counts) →
    q + m ≡ n →
    Good n s →
    GoodWires n s →
    Pins scratch n q s c (pin_from scratch m q s c)
unfolding pin_from
pins_from scratch n zero q s c sum good wires = let last : q ≡ n = omega arith in rw last every_qubit
pins_from scratch n (suc m) q s c sum good wires =
    go (first_in s.live Q.vars) refl (λ t d. pins_from scratch n m (suc q) t d (omega arith))
  where
    Q : Parity
    Q = mismatch scratch q s

    Rest : Type 0
    Rest = (t : PathSum) (d : Counts) → Good n t → GoodWires n t → Pins scratch n (suc q) t d (pin_from scratch m (suc q) t d)

    below_n : q < n
    below_n = omega arith

    holds : Holds n s.live Q.vars
    holds = holds_mismatch scratch n q s below_n wires

    free : (b : Bool) → is_zero Q ≡ b → first_in s.live Q.vars ≡ none → Rest → Pins scratch n q s c (pin_from scratch (suc m) q s c)
    free b z e later =
        let empty : NoPathVariable n Q.vars = λ v held. absurd (omega (arith, held.0, holds_inputs n s.live Q.vars holds e v held.1)) in
        ends b z empty
      where
        ends : (b : Bool) → is_zero Q ≡ b → NoPathVariable n Q.vars → Pins scratch n q s c (pin_from scratch (suc m) q s c)
        ends true z empty = rw (e, pin_from, z) (agrees below_n empty z (later s c good wires))
        ends false z empty = rw (e, pin_from, z) (unpinnable below_n empty z)

    go : (f : Option ℕ) → first_in s.live Q.vars ≡ f → Rest → Pins scratch n q s c (pin_from scratch (suc m) q s c)
    go none e later = free (is_zero Q) refl e later
    go (some z) e later =
        let found = first_such_some (λ v. bit v Q.vars) s.live z e in
        rw (e, pin_from)
        (pins z below_n
        (record { is = (good.above z found.0, found.1); least = λ v held. holds_lowest n z s Q.vars good holds e v held.0 held.1 })
        (later (pinned_at scratch q z s) (add_pin c)
        (good_replace n z Q s good found.0 found.1 holds)
        (good_wires_replace n z Q s good found.0 found.1 holds wires)))

-- a path variable of a set of inputs and live variables is live
path_live : (n : ℕ) (live : List ℕ) (s z : ℕ) → Holds n live s → PathVariable n s z → Among z live
path_live n live s z holds path = ⊎_elim (λ low. absurd (omega (arith, path.0))) (λ a. a) (holds z path.1)

-- what such a course ends in, where the wires below q are their inputs
pins_end :
    {scratch n q : ℕ} {s : PathSum} {c : Counts} {e : End} →
    Pins scratch n q s c e →
    Good n s →
    GoodWires n s →
    Settled scratch q s →
    PinEnd scratch n s c e
pins_end {scratch} {n} {s} {c} every_qubit good wires below =
    pin_halts scratch n none s c good (λ e. below) (λ r e. absurd (none-ne-some r e))
pins_end {scratch} {n} {q} {s} {c} {e} (pins z l lowest later) good wires below =
    let holds = holds_mismatch scratch n q s l wires in
    let live = path_live n s.live (mismatch scratch q s).vars z holds lowest.is in
    let held = lowest.is.1 in
    pin_first scratch n q z s l good live held c e
    (pins_end later (good_replace n z (mismatch scratch q s) s good live held holds) (good_wires_replace n z (mismatch scratch q s) s good live held holds wires)
    (pin_settles scratch n q z s l good live held below))
pins_end {scratch} {n} {q} {s} (agrees l empty zero_there later) good wires below =
    pins_end later good wires (settled_more scratch q s below (zero_mismatch (wire q s) (input scratch q) zero_there))
pins_end {scratch} {n} {q} {s} {c} (unpinnable l empty nonzero) good wires below =
    let Q = mismatch scratch q s in
    pin_halts scratch n (some Q) s c good (λ k. absurd (some-ne-none Q k))
    (λ r k. rw (← some-injective Q r k) (q, l, refl, empty, nonzero))

module _ (scratch n : ℕ) (gs : List Gate) (within : AllWithin n gs) where
  -- pinning the sum of a list is document 01's course
  pub pins_course : Pins scratch n 0 (build scratch n gs) (counts 0 0 0 0) (pinned scratch n (build scratch n gs))
  pins_course =
      let good = good_build scratch n gs within in
      pins_from scratch n n 0 (build scratch n gs) (counts 0 0 0 0) (omega arith) good.0 good.1

  -- and what it ends in
  pub pin_ends : PinEnd scratch n (build scratch n gs) (counts 0 0 0 0) (pinned scratch n (build scratch n gs))
  pin_ends = let good = good_build scratch n gs within in pins_end pins_course good.0 good.1 (λ p l. absurd (omega arith))

-- where every wire is its input, every assignment closes
closes_settled : (scratch n : ℕ) (s : PathSum) (x : ℕ) → Settled scratch n s → closes scratch n s x ≡ true
unfolding closes
closes_settled scratch zero s x h = refl
closes_settled scratch (suc n) s x h =
    rw (closes_settled scratch n s x (λ p l. h p (omega arith)), h n (omega arith), value-⊕, xor_self (value (input scratch n) x))

-- so the diagonal is of the phase alone
pub settled_diagonal :
    (scratch n : ℕ) (s : PathSum) →
    ((p : ℕ) → p < n → wire p s ≡ input scratch p) →
    on_diagonal scratch n s ≡ phasor s.phase
unfolding on_diagonal
settled_diagonal scratch n s h = fun_ext (λ x. rw (closes_settled scratch n s x h))

-- an input holds only variables up to its qubit
input_holds : (scratch q v : ℕ) → bit v (input scratch q).vars ≡ true → v ≤ q
input_holds scratch q v h = go (ltb q v) refl
  where
    go : (b : Bool) → ltb q v ≡ b → v ≤ q
    go true e = absurd (true≢false (sym h ∙ input_free scratch q v (ltb-true q v e)))
    go false e = ltb-false q v e

-- where the inputs are v's, the wires show output v exactly where they close
reads_closes :
    (scratch n : ℕ) (s : PathSum) (v x : ℕ) →
    Clear scratch v →
    ((q : ℕ) → q < n → bit q x ≡ bit q v) →
    reads n s.wires v x ≡ closes scratch n s x
unfolding reads closes
reads_closes scratch zero s v x clear inputs = refl
reads_closes scratch (suc n) s v x clear inputs =
    rw (reads_closes scratch n s v x clear (λ q l. inputs q (omega arith)), value-⊕, shown)
  where
    shown : value (input scratch n) x ≡ bit n v
    shown =
        value_agree (input scratch n) x v (λ q e. inputs q (omega (arith, input_holds scratch n q e))) ∙ value-input scratch v n clear

-- a list's diagonal is that of its sum
pub diagonal :
    (scratch n : ℕ) (gs : List Gate) (v : ℕ) →
    AllWithin n gs →
    v < 2 ^ n →
    Clear scratch v →
    column gs v v ≡ sum_over (build scratch n gs).live (on_diagonal scratch n (build scratch n gs)) v
unfolding meaning on_diagonal
diagonal scratch n gs v within l clear =
    let s = build scratch n gs in
    built scratch n gs within v v l l clear
    ∙ sum_over_on n s.live _ (on_diagonal scratch n s) v (good_build scratch n gs within).0.above
    (λ x inputs. rw (reads_closes scratch n s v x clear inputs))

-- where pinning goes through, it is that of the phase alone
pub pinned_diagonal :
    (scratch n : ℕ) (gs : List Gate) (v : ℕ) →
    AllWithin n gs →
    v < 2 ^ n →
    Clear scratch v →
    (pinned scratch n (build scratch n gs)).blocked_by ≡ none →
    column gs v v ≡ remaining (pinned scratch n (build scratch n gs)).sum v
unfolding remaining
pinned_diagonal scratch n gs v within l clear through =
    let end = pin_ends scratch n gs within in
    let e = pinned scratch n (build scratch n gs) in
    diagonal scratch n gs v within l clear
    ∙ (ap (λ (F : ℕ → Zω). F v) end.same
    ∙ ap (λ (F : ℕ → Zω). sum_over e.sum.live F v) (settled_diagonal scratch n e.sum (end.settled through)))

-- at input 0 a parity has its constant
value_zero : (q : Parity) → value q 0 ≡ q.flipped
unfolding value
value_zero q = rw parity_zero (xor_falseˡ q.flipped)

-- at the input of one qubit v, the constant is flipped where the parity holds v
value-power : (q : Parity) (v : ℕ) → value q (2 ^ v) ≡ xor (bit v q.vars) q.flipped
value-power q v =
    let one : 2 ^ v ≡ flip v 0 = sym (add-zero (2 ^ v)) ∙ power-flip v 0 (pow_pos v) in
    rw (one, value-flip, value_zero)

-- a set of inputs in which no input is found is empty
none_empty : (n s : ℕ) → ((v : ℕ) → bit v s ≡ true → v < n) → first_in (from 0 n) s ≡ none → s ≡ 0
none_empty n s inputs e = bits_ext s 0 (λ v. go v (bit v s) refl ∙ sym (bit_zero v))
  where
    go : (v : ℕ) (b : Bool) → bit v s ≡ b → bit v s ≡ false
    go v true h = first_such_none (λ u. bit u s) (from 0 n) e v (among-from 0 n v (omega arith) (omega (arith, inputs v h)))
    go v false h = h

-- the input of a blocked parity, which holds only inputs and is not constantly 0, makes it 1
pub blocked_input_lem :
    (n : ℕ) (q : Parity) →
    ((v : ℕ) → bit v q.vars ≡ true → v < n) →
    is_zero q ≡ false →
    (blocked_input n q < 2 ^ n) × (value q (blocked_input n q) ≡ true)
unfolding blocked_input
blocked_input_lem n q inputs nonzero = go q.flipped refl (first_in (from 0 n) q.vars) refl
  where
    input_is :
        (u : ℕ) → blocked_input n q ≡ u →
        u < 2 ^ n →
        value q u ≡ true →
        (blocked_input n q < 2 ^ n) × (value q (blocked_input n q) ≡ true)
    input_is u e l h = rw e (l, h)

    go :
        (b : Bool) → q.flipped ≡ b →
        (f : Option ℕ) → first_in (from 0 n) q.vars ≡ f →
        (blocked_input n q < 2 ^ n) × (value q (blocked_input n q) ≡ true)
    go true b f e = input_is 0 (rw b) (pow_pos n) (value_zero q ∙ b)
    go false b none e =
        absurd (true≢false (sym (rw (b, eq-eqb q.vars 0 (none_empty n q.vars inputs e))) ∙ nonzero))
    go false b (some v) e =
        let found = first_such_some (λ u. bit u q.vars) (from 0 n) v e in
        input_is (2 ^ v) (rw (b, e)) (pow-lt (inputs v found.1)) (value-power q v ∙ rw (found.1, b) (xor_falseʳ true))

-- where pinning is blocked, the diagonal is 0 at that input: no assignment closes there
pub pin_blocked :
    (scratch n : ℕ) (gs : List Gate) (q : Parity) →
    AllWithin n gs →
    (pinned scratch n (build scratch n gs)).blocked_by ≡ some q →
    Clear scratch (blocked_input n q) →
    (blocked_input n q < 2 ^ n) × (column gs (blocked_input n q) (blocked_input n q) ≡ 0ω)
pin_blocked scratch n gs q within blocked clear = (
  makes.0,
  diagonal scratch n gs u within makes.0 clear
      ∙ (ap (λ (F : ℕ → Zω). F u) end.same
      ∙ (sum_over_on n t.live (on_diagonal scratch n t) (λ x. 0ω) u end.good.above (λ x at-u. opens x (λ v h. at-u v (inputs v h)))
      ∙ sum_over_zero t.live u)),
)
  where
    u : ℕ
    u = blocked_input n q

    t : PathSum
    t = (pinned scratch n (build scratch n gs)).sum

    end : PinEnd scratch n (build scratch n gs) (counts 0 0 0 0) (pinned scratch n (build scratch n gs))
    end = pin_ends scratch n gs within

    stuck : Blocking scratch n t q
    stuck = end.stuck q blocked

    inputs : (v : ℕ) → bit v q.vars ≡ true → v < n
    inputs v h = below_n (ltb v n) refl
      where
        below_n : (b : Bool) → ltb v n ≡ b → v < n
        below_n true e = ltb-true v n e
        below_n false e = absurd (stuck.3 v (ltb-false v n e, h))

    makes : (u < 2 ^ n) × (value q u ≡ true)
    makes = blocked_input_lem n q inputs stuck.4

    opens : (x : ℕ) → ((v : ℕ) → bit v q.vars ≡ true → bit v x ≡ bit v u) → on_diagonal scratch n t x ≡ 0ω
    opens x agree =
        unfold on_diagonal in
        rw (closes_open scratch n stuck.0 t x stuck.1 (rw (← stuck.2) (value_agree q x u agree ∙ makes.1)))
