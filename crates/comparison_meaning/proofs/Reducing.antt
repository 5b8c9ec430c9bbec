-- The reduction: what every step keeps, that the engine takes such steps, and where it ends. A step at any live ready variable keeps
-- the sum that is left, up to the power of √2 that is counted; what blocks the reduction makes that sum 0.
-- Assumes nothing.
use mathlib.Core.Path.{◌≡◌, refl, sym, ◌∙◌, ap}
use mathlib.Core.Logic.{⊎_elim}
use mathlib.Core.Bool.{Bool, true, false, not, ◌&&◌, true≢false}
use mathlib.Core.List.{List, [], ◌∷◌}
use mathlib.Core.Option.{Option, none, some, some-injective, none-ne-some, some-ne-none}
use Prim.Native.Nat.{ℕ, zero, suc, ◌+◌, ◌*◌, ◌/◌, ◌%◌, ◌<◌, ◌≤◌}
use native.Mathlib.Omega.{arith}
use lib.Dec.{eqb}
use lib.ListN.{length}
use borrow.Author.Tests.{eqb-true, eqb-false, not-true, not-false}
use Rattle.amplitude.specs.Number.{0ω, √2^}
use Rattle.amplitude.specs.Bits.{bit}
use Rattle.amplitude.proofs.NumberLaws.{√2^-add}
use Rattle.phase_sum_meaning.specs.Sets.{first_in, without, Among, here, there}
use Rattle.phase_sum_meaning.specs.Parity.{Parity, value, rest}
use Rattle.phase_sum_meaning.specs.Phase.{in_odd}
use Rattle.phase_sum_meaning.specs.Building.{PathSum}
use Rattle.phase_sum_meaning.specs.Stepping.{replace, first_ready, take_out, turned, Kind, sum, turn, constraint, kind_of, constrained}
use Rattle.phase_sum_meaning.specs.Meaning.{both, sum_over, phasor, remaining}
use Rattle.phase_sum_meaning.proofs.VariableLaws.{first_such_some, first_such_none, first_such_lowest, without-among}
use Rattle.phase_sum_meaning.proofs.Summing.{sum_over-√2^, sum_over_zero, sum_over-without, sum_over_on}
use Rattle.phase_sum_meaning.proofs.StepLaws.{constraint_kind, sum_law, turn_law, constraint_law, join_law}
use Rattle.phase_sum_meaning.proofs.Wellformed.{Good, good_take_out, live_take_out, good_turned, good_replace, live_replace, holds_odd_halves, holds_lowest}
use Rattle.phase_sum_meaning.proofs.Evenness.{OddIn, InputsOnly, even_take_out, even_turned, even_replace, even_ready}
use Rattle.phase_sum_meaning.proofs.Roominess.{terms_take_out, terms_turned, terms_replace}
use Rattle.comparison_meaning.specs.Reduction.{Counts, add_sum, add_turn, add_join, End, blocks, is_zero, Next, goes, stuck, step_with, step_at, reduce_from, factor}
use Rattle.comparison_meaning.specs.Steps.{Ready, c_of, l_of, Step, sums, turns, joins, Steps, more, Blocked}
use Rattle.comparison_meaning.specs.Course.{Lowest, PathVariable, NoPathVariable, TakesLowest, Reduces, none_ready, obstructed, steps_on}
use Rattle.phase_sum_meaning.proofs.ParityLaws.{value_agree}

-- what steps from s with counts c to t with counts d keep
pub record Kept (n : ℕ) (s : PathSum) (c : Counts) (t : PathSum) (d : Counts) : Type 0 where
  pub good : Good n t
  pub pins : d.pins ≡ c.pins
  pub count : d.sums + d.turns + 2 * d.joins + length t.live ≡ c.sums + c.turns + 2 * c.joins + length s.live
  pub value : (x : ℕ) → √2^ (factor c) (remaining s x) ≡ √2^ (factor d) (remaining t x)
  pub even : OddIn (InputsOnly n) s.phase.terms → OddIn (InputsOnly n) t.phase.terms
  pub room : length t.phase.terms + length t.live ≤ length s.phase.terms + length s.live

-- a step that gives √2^k, and counts it, keeps the value
value_step :
    (k : ℕ) (s : PathSum) (c : Counts) (t : PathSum) (d : Counts)
    → factor d ≡ factor c + k
    → sum_over s.live (phasor s.phase) ≡ sum_over t.live (λ x. √2^ k (phasor t.phase x))
    → (x : ℕ)
    → √2^ (factor c) (remaining s x) ≡ √2^ (factor d) (remaining t x)
unfolding remaining
value_step k s c t d f e x =
    rw (f, e, √2^-add (factor c) k) (ap (√2^ (factor c)) (sum_over-√2^ k t.live (phasor t.phase) x))

-- one step keeps it all
pub step_keeps : (n : ℕ) (s : PathSum) (c : Counts) (t : PathSum) (d : Counts) → Good n s → Step s c t d → Kept n s c t d
unfolding add_sum add_turn add_join take_out turned replace
step_keeps n s c t d g (sums y ready kind) =
    let fewer = live_take_out n y s g ready.0 in
    record {
      good = good_take_out n y s g ready.0;
      pins = refl;
      count = omega arith;
      value =
          value_step 2 s c t d (omega arith)
          (sum_over-without y s.live (phasor s.phase) g.rising ready.0 ∙ ap (sum_over t.live) (sum_law y s ready.1 kind));
      even = even_take_out n y s (g.above y ready.0);
      room = omega (arith, terms_take_out y s);
    }
step_keeps n s c t d g (turns y ready kind) =
    let fewer = live_take_out n y s g ready.0 in
    record {
      good = good_turned (c_of y s) (l_of y s) (good_take_out n y s g ready.0) (holds_odd_halves y g);
      pins = refl;
      count = omega arith;
      value =
          value_step 1 s c t d (omega arith)
          (sum_over-without y s.live (phasor s.phase) g.rising ready.0 ∙ ap (sum_over t.live) (turn_law y s ready.1 kind));
      even = λ e. even_turned n (c_of y s) (l_of y s) (take_out y s) (even_take_out n y s (g.above y ready.0) e);
      room = omega (arith, terms_take_out y s, terms_turned (c_of y s) (l_of y s) (take_out y s));
    }
step_keeps n s c t d g (joins y z ready kind a held) =
    let q = constrained (c_of y s) (l_of y s) in
    let u = take_out y s in
    let left : Good n u = good_take_out n y s g ready.0 in
    let fewer = live_take_out n y s g ready.0 in
    let fewest = live_replace n z (rest z q) u left a in
    record {
      good = good_replace n z q u left a held (holds_odd_halves y g);
      pins = refl;
      count = omega arith;
      value =
          value_step 2 s c t d (omega arith)
          (sum_over-without y s.live (phasor s.phase) g.rising ready.0
          ∙ sum_over-without z u.live (both y (phasor s.phase)) left.rising a
          ∙ ap (sum_over t.live) (join_law y z s ready.1 kind held));
      even = λ e. even_replace n z (rest z q) u (left.above z a) (even_take_out n y s (g.above y ready.0) e);
      room = omega (arith, terms_take_out y s, terms_replace z (rest z q) u);
    }

-- and so do some, one after another
pub steps_keep : (n : ℕ) (s : PathSum) (c : Counts) (t : PathSum) (d : Counts) → Good n s → Steps s c t d → Kept n s c t d
steps_keep n s c t d g Steps.none =
    record { good = g; pins = refl; count = refl; value = λ x. refl; even = λ e. e; room = omega arith }
steps_keep n s c u e g (more {t} {d} before step) =
    let k = steps_keep n s c t d g before in
    let l = step_keeps n t d u e k.good step in
    record {
      good = l.good;
      pins = l.pins ∙ k.pins;
      count = l.count ∙ k.count;
      value = λ x. k.value x ∙ l.value x;
      even = λ o. l.even (k.even o);
      room = omega arith;
    }

-- a parity that blocks holds only inputs
pub stuck_inputs : (n : ℕ) (s : PathSum) (q : Parity) → Good n s → Blocked s q → (v : ℕ) → bit v q.vars ≡ true → v < n
stuck_inputs n s q g h v e =
    let held : bit v (l_of h.y s) ≡ true = rw h.same at e in
    ⊎_elim (λ low. low) (λ a. absurd (true≢false (sym held ∙ h.free v a)))
    (holds_odd_halves h.y g v held)

-- what comes of the lowest ready variable: a step, or a parity that blocks
data Outcome (n : ℕ) (s : PathSum) (c : Counts) : Next → Type 0 where
  takes : {t : PathSum} {d : Counts} (step : Step s c t d) → TakesLowest n step → Outcome n s c (goes t d)
  blocked : {q : Parity} (b : Blocked s q) → Lowest (λ v. Ready v s) b.y → NoPathVariable n q.vars → Outcome n s c (stuck q)

-- it has one of the two outcomes
outcome : (n y : ℕ) (s : PathSum) (c : Counts) → Good n s → Lowest (λ v. Ready v s) y → Outcome n s c (step_at y s c)
unfolding step_with
outcome n y s c g lowest = go (kind_of (c_of y s) (l_of y s)) refl
  where
    left : Good n (take_out y s)
    left = good_take_out n y s g lowest.is.0

    constrains :
        kind_of (c_of y s) (l_of y s) ≡ constraint
        → (o : Option ℕ)
        → first_in (take_out y s).live (l_of y s) ≡ o
        → Outcome n s c (step_at y s c)
    constrains h none f =
        let b : Blocked s (constrained (c_of y s) (l_of y s)) =
        record { y = y; ready = lowest.is; kind = h; same = refl; free = first_such_none (λ z. bit z (l_of y s)) (take_out y s).live f } in
        rw (h, step_with, f) (blocked b lowest (λ v path. absurd (omega (arith, path.0, stuck_inputs n s _ g b v path.1))))
    constrains h (some z) f =
        let found = first_such_some (λ v. bit v (l_of y s)) (take_out y s).live z f in
        let least : (v : ℕ) → PathVariable n (l_of y s) v → z ≤ v =
        λ v path. holds_lowest n z (take_out y s) (l_of y s) left (holds_odd_halves y g) f v path.0 path.1 in
        rw (h, step_with, f)
        (takes (joins y z lowest.is h found.0 found.1) (lowest, record { is = (left.above z found.0, found.1); least = least }))

    go : (k : Kind) → kind_of (c_of y s) (l_of y s) ≡ k → Outcome n s c (step_at y s c)
    go sum h = rw (h, step_with) (takes (sums y lowest.is h) lowest)
    go turn h = rw (h, step_with) (takes (turns y lowest.is h) lowest)
    go constraint h = constrains h (first_in (take_out y s).live (l_of y s)) refl

-- a variable found ready among the live ones is the lowest that is
first_is_lowest : (n y : ℕ) (s : PathSum) → Good n s → first_ready s.live s.phase.terms ≡ some y → Lowest (λ v. Ready v s) y
first_is_lowest n y s g e =
    let test : ℕ → Bool = λ u. not (in_odd u s.phase.terms) in
    let found = first_such_some test s.live y e in
    record {
      is = (found.0, not-true (in_odd y s.phase.terms) found.1);
      least = λ v ready. first_such_lowest test s.live y g.rising e v ready.0 (rw ready.1);
    }

-- where none is found, none is ready
none_is_ready : (s : PathSum) → first_ready s.live s.phase.terms ≡ none → (y : ℕ) → Ready y s → ⊥
none_is_ready s e y ready =
    true≢false (sym (not-false (in_odd y s.phase.terms) (first_such_none (λ u. not (in_odd u s.phase.terms)) s.live e y ready.0)) ∙ ready.1)

-- a step counts at least one variable
step_counts : {s t : PathSum} {c d : Counts} → Step s c t d → c.sums + c.turns + 2 * c.joins < d.sums + d.turns + 2 * d.joins
unfolding add_sum add_turn add_join
step_counts (sums y ready kind) = omega arith
step_counts (turns y ready kind) = omega arith
step_counts (joins y z ready kind a held) = omega arith

-- a list that holds a variable is not empty
among-length : {v : ℕ} {us : List ℕ} → Among v us → 0 < length us
among-length here = omega arith
among-length (there a) = omega arith

-- where none is live, none is ready
none_live : (s : PathSum) → length s.live ≤ 0 → (y : ℕ) → Ready y s → ⊥
none_live s l y ready = omega (arith, among-length ready.0)

-- the reduction, with a step for each live variable, is document 01's course: its count does not run out first
pub reduces_from : (n m : ℕ) (s : PathSum) (c : Counts) → Good n s → length s.live ≤ m → Reduces n s c (reduce_from m s c)
unfolding reduce_from
reduces_from n zero s c g l = none_ready (none_live s l)
reduces_from n (suc m) s c g l = go (reduces_from n m) (first_ready s.live s.phase.terms) refl
  where
    Rest : Type 0
    Rest = (t : PathSum) (d : Counts) → Good n t → length t.live ≤ m → Reduces n t d (reduce_from m t d)

    taken : Rest → {x : Next} → Outcome n s c x → Reduces n s c (elim x [ goes t d ↦ reduce_from m t d | stuck q ↦ blocks q s c ])
    taken later (takes {t} {d} step lowest) =
        let k = step_keeps n s c t d g step in
        steps_on step lowest (later t d k.good (omega (arith, k.count, step_counts step)))
    taken later (blocked b lowest empty) = obstructed b lowest empty

    go : Rest → (o : Option ℕ) → first_ready s.live s.phase.terms ≡ o → Reduces n s c (reduce_from (suc m) s c)
    go later none e = rw (e, reduce_from) (none_ready (none_is_ready s e))
    go later (some y) e = rw (e, reduce_from) (taken later (outcome n y s c g (first_is_lowest n y s g e)))

-- a step may come before others
step_first : {s t : PathSum} {c d : Counts} {u : PathSum} {e : Counts} → Step s c t d → Steps t d u e → Steps s c u e
step_first step Steps.none = more Steps.none step
step_first step (more before last) = more (step_first step before) last

-- the reduction takes steps to its end
pub reduce_steps : {n : ℕ} {s : PathSum} {c : Counts} {e : End} → Reduces n s c e → Steps s c e.sum e.counts
reduce_steps (none_ready unready) = Steps.none
reduce_steps (obstructed b lowest empty) = Steps.none
reduce_steps (steps_on step lowest r) = step_first step (reduce_steps r)

-- where it is blocked, a variable is stuck by the parity that blocks it
pub reduce_blocks : {n : ℕ} {s : PathSum} {c : Counts} {e : End} {q : Parity} → Reduces n s c e → e.blocked_by ≡ some q → Blocked e.sum q
reduce_blocks {q} (none_ready unready) b = absurd (none-ne-some q b)
reduce_blocks {q} (obstructed {q = p} h lowest empty) b = rw (some-injective p q b) at h
reduce_blocks (steps_on step lowest r) b = reduce_blocks r b

-- not blocked, it leaves none ready: each variable left is in a term of odd coefficient
pub reduce_stops :
    {n : ℕ} {s : PathSum} {c : Counts} {e : End}
    → Reduces n s c e
    → e.blocked_by ≡ none
    → (y : ℕ)
    → Among y e.sum.live
    → in_odd y e.sum.phase.terms ≡ true
reduce_stops {s} (none_ready unready) b y a = go (in_odd y s.phase.terms) refl
  where
    go : (o : Bool) → in_odd y s.phase.terms ≡ o → in_odd y s.phase.terms ≡ true
    go true h = h
    go false h = absurd (unready y (a, h))
reduce_stops (obstructed {q} h lowest empty) b y a = absurd (some-ne-none q b)
reduce_stops (steps_on step lowest r) b y a = reduce_stops r b y a

-- where every odd coefficient is on inputs alone, none is left: ready stays ready, so a variable left would be ready and not ready
pub even_decides :
    (n : ℕ) (s : PathSum) (c : Counts) (e : End)
    → Good n s
    → Reduces n s c e
    → OddIn (InputsOnly n) s.phase.terms
    → e.blocked_by ≡ none
    → e.sum.live ≡ []
even_decides n s c end g r even b = go end.sum.live refl
  where
    kept : Kept n s c end.sum end.counts
    kept = steps_keep n s c end.sum end.counts g (reduce_steps r)

    go : (ys : List ℕ) → end.sum.live ≡ ys → end.sum.live ≡ []
    go [] e = e
    go (y ∷ ys) e =
        let a : Among y end.sum.live = rw e here in
        absurd (true≢false (sym (reduce_stops r b y a) ∙ even_ready n y end.sum.phase.terms (kept.even even) (kept.good.above y a)))

-- what is left of a sum without live variables is its phase
pub live_empty_phase : (s : PathSum) (v : ℕ) → s.live ≡ [] → remaining s v ≡ phasor s.phase v
unfolding remaining sum_over
live_empty_phase s v e = rw e

-- a constraint is not constantly 0: with C = 0 and L empty it would be a sum
constrained_nonzero : (c l : ℕ) → c < 4 → kind_of c l ≡ constraint → is_zero (constrained c l) ≡ false
constrained_nonzero c l below kind = go (eqb l 0) (eqb (c / 2 % 2) 1) refl refl
  where
    sums_alone : c ≡ 0 → l ≡ 0 → kind_of c l ≡ sum
    sums_alone e f = unfold kind_of in rw (e, f)

    go : (a b : Bool) → eqb l 0 ≡ a → eqb (c / 2 % 2) 1 ≡ b → a && not b ≡ false
    go true true e f = refl
    go true false e f =
        let even : c % 2 ≡ 0 = constraint_kind c l kind in
        let none = sums_alone (omega (arith, eqb-false (c / 2 % 2) 1 f)) (eqb-true l 0 e) in
        absurd (let n : ◌≡◌ {A = ℕ} 0 1 = cc in omega arith)
    go false b e f = refl

-- so a parity that blocks is not
pub stuck_nonzero : (s : PathSum) (q : Parity) → Blocked s q → is_zero q ≡ false
stuck_nonzero s q h = rw h.same (constrained_nonzero (c_of h.y s) (l_of h.y s) (omega arith) h.kind)

-- where a parity that blocks is 1, the two values of the variable that is stuck cancel at every assignment with the same inputs
pub stuck_zero : (n : ℕ) (s : PathSum) (q : Parity) (v : ℕ) → Good n s → Blocked s q → value q v ≡ true → remaining s v ≡ 0ω
unfolding remaining
stuck_zero n s q v g h one =
    rw (sum_over-without h.y s.live (phasor s.phase) g.rising h.ready.0, constraint_law h.y s h.ready.1 h.kind)
    (sum_over_on n left _ (λ x. 0ω) v (λ z a. g.above z (without-among h.y s.live a).0) (λ x inputs. rw (← h.same, is_one x inputs))
    ∙ sum_over_zero left v)
  where
    left : List ℕ
    left = without h.y s.live

    is_one : (x : ℕ) → ((i : ℕ) → i < n → bit i x ≡ bit i v) → value q x ≡ true
    is_one x inputs = value_agree q x v (λ i e. inputs i (stuck_inputs n s q g h i e)) ∙ one
