-- The cases of a step and of the reduction: what the code's tests, finds and changes come to by their definitions.
-- Assumes nothing.
use mathlib.Core.Path.{◌≡◌, refl, sym, ap, ◌∙◌}
use Prim.Native.Nat.{ℕ, zero, suc, ◌+◌, ◌-◌, ◌≤◌, ◌<◌}
use mathlib.Core.Bool.{Bool, true, not}
use mathlib.Core.List.{List, [], ◌∷◌}
use mathlib.Core.Option.{Option, none, some}
use native.Mathlib.Omega.{arith}
use lib.ListN.{length}
use Rattle.amplitude.specs.Bits.{bit}
use Rattle.phase_sum_meaning.specs.Sets.{first_such, first_in}
use Rattle.phase_sum_meaning.specs.Phase.{Term, in_odd}
use Rattle.phase_sum_meaning.specs.Parity.{Parity, rest}
use Rattle.phase_sum_meaning.specs.Building.{PathSum}
use Rattle.phase_sum_meaning.specs.Stepping.{Kind, sum, turn, constraint, kind_of, constrained, first_ready, out_of, replace, take_out, turned}
use Rattle.phase_sum_meaning.specs.Room.{most_variables}
use Rattle.phase_sum_meaning.proofs.VariableLaws.{first_such_some}
use Rattle.phase_sum_types.specs.Workspace.{set_of, held, Lent, members, sum_of, Sized}
use Rattle.comparison_meaning.specs.Reduction.{add_sum, add_turn, add_join, goes, stuck, step_with, step_at, stops, blocks, reduce_from}
use Rattle.comparison_meaning.specs.Reduction as reduction
use Rattle.phase_sum_types.specs.declared.Sum.{Sum}
use Rattle.phase_sum_types.specs.declared.Parity.{Parity as ParityWord}
use Rattle.comparison_types.specs.declared.Progress.{Progress}
use Rattle.comparison_types.specs.Inner.{counts_of, stops_at, blocked_at, CountedTo, step_to, Steps, BlocksStep, ReducedTo}
use Rattle.phase_sum_types.proofs.Members.{member_held, members-without, members_few}

-- tests that agree find the same number
first_such_same : (f g : ℕ → Bool) → ((v : ℕ) → f v ≡ g v) → (vs : List ℕ) → first_such f vs ≡ first_such g vs
unfolding first_such
first_such_same f g e [] = refl
first_such_same f g e (v ∷ vs) = rw (e v, first_such_same f g e vs)

-- the first ready variable is the first that the mask of odd terms leaves out
pub ready_by_mask :
    (ys : List ℕ) (ts : List Term) (mask : ℕ) →
    ((v : ℕ) → bit v mask ≡ in_odd v ts) →
    first_such (λ v. not (bit v mask)) ys ≡ first_ready ys ts
ready_by_mask ys ts mask e = first_such_same (λ v. not (bit v mask)) (λ v. not (in_odd v ts)) (λ v. ap not (e v)) ys

-- a number found among the members of a set is a variable of the set
pub found_member : (test : ℕ → Bool) (s v : ℕ) → first_such test (members s) ≡ some v → (bit v s ≡ true) × (v < most_variables)
found_member test s v e = member_held s v (first_such_some test (members s) v e).0

-- a ready variable is one of the set
pub ready_member : (s y : ℕ) (ts : List Term) → first_ready (members s) ts ≡ some y → (bit y s ≡ true) × (y < most_variables)
ready_member s y ts e = found_member (λ v. not (in_odd v ts)) s y e

-- what a ready variable that is a sum gives
step_sum :
    (y k l : ℕ) (s : PathSum) (c : reduction.Counts) → kind_of k l ≡ sum → step_with y k l s c ≡ goes (take_out y s) (add_sum c)
unfolding step_with
step_sum y k l s c e = rw (e, step_with)

-- what a turn gives
step_turn :
    (y k l : ℕ) (s : PathSum) (c : reduction.Counts) →
    kind_of k l ≡ turn →
    step_with y k l s c ≡ goes (turned k l (take_out y s)) (add_turn c)
unfolding step_with
step_turn y k l s c e = rw (e, step_with)

-- what a constraint gives whose set holds a variable left
step_join :
    (y k l : ℕ) (s : PathSum) (c : reduction.Counts) (z : ℕ) →
    kind_of k l ≡ constraint →
    first_in (take_out y s).live l ≡ some z →
    step_with y k l s c ≡ goes (replace z (rest z (constrained k l)) (take_out y s)) (add_join c)
unfolding step_with
step_join y k l s c z e f = rw (e, f, step_with)

-- what a constraint gives whose set holds none
step_stuck :
    (y k l : ℕ) (s : PathSum) (c : reduction.Counts) →
    kind_of k l ≡ constraint →
    first_in (take_out y s).live l ≡ none →
    step_with y k l s c ≡ stuck (constrained k l)
unfolding step_with
step_stuck y k l s c e f = rw (e, f, step_with)

-- where a join replaces the lowest variable left of L, or is blocked if there is none, the step is the definition's
pub step_lowest :
    (y k l : ℕ) (s : PathSum) (c : reduction.Counts) →
    step_to y (first_in (take_out y s).live l) k l s c ≡ step_with y k l s c
unfolding step_to step_with
step_lowest y k l s c = refl

-- the step at y, where a join replaces z if there is one, is a sum
pub sum_to :
    (y : ℕ) (z : Option ℕ) (k l : ℕ) (s : PathSum) (c : reduction.Counts) →
    kind_of k l ≡ sum →
    step_to y z k l s c ≡ goes (take_out y s) (add_sum c)
unfolding step_to
sum_to y z k l s c e = rw (e, step_to)

-- it is a turn
pub turn_to :
    (y : ℕ) (z : Option ℕ) (k l : ℕ) (s : PathSum) (c : reduction.Counts) →
    kind_of k l ≡ turn →
    step_to y z k l s c ≡ goes (turned k l (take_out y s)) (add_turn c)
unfolding step_to
turn_to y z k l s c e = rw (e, step_to)

-- it is a join
pub join_to :
    (y z k l : ℕ) (s : PathSum) (c : reduction.Counts) →
    kind_of k l ≡ constraint →
    step_to y (some z) k l s c ≡ goes (replace z (rest z (constrained k l)) (take_out y s)) (add_join c)
unfolding step_to
join_to y z k l s c e = rw (e, step_to)

-- it is blocked
pub stuck_to :
    (y k l : ℕ) (s : PathSum) (c : reduction.Counts) →
    kind_of k l ≡ constraint →
    step_to y none k l s c ≡ stuck (constrained k l)
unfolding step_to
stuck_to y k l s c e = rw (e, step_to)

-- the first variable left besides y, as the code finds it
pub found_left :
    (s : PathSum) (live y l w : ℕ) {o : Option ℕ} →
    s.live ≡ members live →
    w ≡ out_of y live →
    o ≡ first_in (members w) l →
    first_in (take_out y s).live l ≡ o
unfolding take_out
found_left s live y l w left e h = rw (left, ← members-without live y, ← e) (sym h)

-- counts after a step: no other pins, and at most one more of each other
record OneMore (c d : reduction.Counts) : Type 0 where
  pins : d.pins ≡ c.pins
  sums : d.sums ≤ c.sums + 1
  turns : d.turns ≤ c.turns + 1
  joins : d.joins ≤ c.joins + 1

-- a step that goes counts itself alone
counted_step : (y k l : ℕ) (s t : PathSum) (c d : reduction.Counts) → goes t d ≡ step_with y k l s c → OneMore c d
unfolding add_sum add_turn add_join
counted_step y k l s t c d e = kinds (kind_of k l) refl
  where
    tell : {u : PathSum} {b : reduction.Counts} → step_with y k l s c ≡ goes u b → d ≡ b
    tell h = cc

    finds : (o : Option ℕ) → kind_of k l ≡ constraint → first_in (take_out y s).live l ≡ o → OneMore c d
    finds (some z) h f = rw (tell (step_join y k l s c z h f)) (omega arith)
    finds none h f =
        let blocked = step_stuck y k l s c h f in
        let z : ◌≡◌ {A = ℕ} 0 1 = cc in
        absurd (omega arith)

    kinds : (w : Kind) → kind_of k l ≡ w → OneMore c d
    kinds sum h = rw (tell (step_sum y k l s c h)) (omega arith)
    kinds turn h = rw (tell (step_turn y k l s c h)) (omega arith)
    kinds constraint h = finds (first_in (take_out y s).live l) h refl

-- where none is ready, the reduction stops
reduce_none :
    (m : ℕ) (s : PathSum) (c : reduction.Counts) → first_ready s.live s.phase.terms ≡ none → reduce_from m s c ≡ stops s c
unfolding reduce_from
reduce_none zero s c e = refl
reduce_none (suc m) s c e = rw (e, reduce_from)

-- where no step is left, it stops too
reduce_spent : (m : ℕ) (s : PathSum) (c : reduction.Counts) → m ≤ 0 → reduce_from m s c ≡ stops s c
unfolding reduce_from
reduce_spent zero s c l = refl
reduce_spent (suc m) s c l = absurd (omega arith)

-- where a step goes, the reduction goes on behind it
reduce_goes :
    (m y : ℕ) (s t : PathSum) (c d : reduction.Counts) →
    first_ready s.live s.phase.terms ≡ some y →
    goes t d ≡ step_at y s c →
    reduce_from (suc m) s c ≡ reduce_from m t d
unfolding reduce_from
reduce_goes m y s t c d e h = rw (e, reduce_from, ← h)

-- where a step is blocked, so is the reduction
reduce_stuck :
    (m y : ℕ) (s : PathSum) (q : Parity) (c : reduction.Counts) →
    first_ready s.live s.phase.terms ≡ some y →
    stuck q ≡ step_at y s c →
    reduce_from (suc m) s c ≡ blocks q s c
unfolding reduce_from
reduce_stuck m y s q c e h = rw (e, reduce_from, ← h)

-- how many variables of a sum are left
abbrev pub left_in : Sum → ℕ
left_in s = length (members (set_of s.live))

-- the first ready variable of a sum
abbrev pub ready_in : Sum → Lent → Option ℕ
ready_in s l = first_ready (members (set_of s.live)) (held s.phase.count l.sets l.coeffs)

-- the reduction of what p₀ reached, after so many steps at p: what is left of its steps, and how few of each kind it took
pub record Going (p₀ : Progress) (l : Lent) (done : ℕ) (p : Progress) (l' : Lent) : Type 0 where
  pub later :
      reduce_from (left_in p₀.sum) (sum_of p₀.sum l) (counts_of p₀.counts)
      ≡ reduce_from (left_in p₀.sum - done) (sum_of p.sum l') (counts_of p.counts)
  pub sized : Sized p.sum l'
  pub few : CountedTo done p.counts
  pub within : done ≤ left_in p₀.sum

-- few enough for one step more
pub going_few : {p₀ : Progress} {l : Lent} {done : ℕ} {p : Progress} {l' : Lent} → Going p₀ l done p l' → CountedTo most_variables p.counts
going_few {p₀} g = omega (arith, g.few, g.within, members_few (set_of p₀.sum.live))

-- the reduction, which stands at p
module _ (p₀ : Progress) (p : Progress) (l l' : Lent) (done : ℕ) (going : Going p₀ l done p l') where
  -- it ends here where it stops here
  going_stops :
      reduce_from (left_in p₀.sum - done) (sum_of p.sum l') (counts_of p.counts) ≡ stops (sum_of p.sum l') (counts_of p.counts) →
      ReducedTo p₀ (stops_at p) l l'
  going_stops over = record { end = sym (going.later ∙ over); sized = going.sized }

  -- no step is left
  pub going_spent : left_in p₀.sum ≤ done → ReducedTo p₀ (stops_at p) l l'
  going_spent h = going_stops (reduce_spent (left_in p₀.sum - done) (sum_of p.sum l') (counts_of p.counts) (omega arith))

  -- none is ready
  pub going_idle : ready_in p.sum l' ≡ none → ReducedTo p₀ (stops_at p) l l'
  going_idle n = going_stops (reduce_none (left_in p₀.sum - done) (sum_of p.sum l') (counts_of p.counts) n)

  -- a step at y
  module _ (y : ℕ) (l'' : Lent) (more : done < left_in p₀.sum) (ready : ready_in p.sum l' ≡ some y) where
    -- the steps that are left are this one and those behind it
    split : left_in p₀.sum - done ≡ suc (left_in p₀.sum - (done + 1))
    split = omega arith

    -- it goes
    pub going_on : {r : Progress} → Steps (step_at y (sum_of p.sum l') (counts_of p.counts)) r l'' → Going p₀ l (done + 1) r l''
    going_on {r} to =
        let one = counted_step y _ _ _ _ _ _ to.next in
        let now = reduce_goes (left_in p₀.sum - (done + 1)) y _ _ _ _ ready to.next in
        record {
          later = going.later ∙ rw (← split) at now;
          sized = to.sized;
          few = omega (arith, one, going.few);
          within = omega arith;
        }

    -- it is blocked
    pub going_blocked :
        {w : ParityWord} → BlocksStep (step_at y (sum_of p.sum l') (counts_of p.counts)) w l' l'' → ReducedTo p₀ (blocked_at p w) l l''
    going_blocked to =
        let now = reduce_stuck (left_in p₀.sum - (done + 1)) y _ _ _ ready to.stuck in
        record {
          end = rw to.same (sym (going.later ∙ rw (← split) at now));
          sized = rw to.same going.sized;
        }
