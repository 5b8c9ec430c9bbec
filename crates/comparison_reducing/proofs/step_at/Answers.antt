-- `comparison_reducing::step_at` meets its contract: each kind of step is one change of the sum, or none where a join has nothing to replace.
-- Assumes nothing.
use mathlib.Core.Path.{◌≡◌, refl, sym, ap, ◌∙◌}
use Prim.Native.Nat.{ℕ, ◌≤◌, ◌<◌, ◌^◌}
use native.Mathlib.Nat.{le_trans}
use native.Mathlib.Omega.{arith}
use mathlib.Core.Bool.{Bool, true, false, true≢false}
use lib.Dec.{ltb}
use borrow.Author.Tests.{ltb-true, ltb-false}
use Rattle.amplitude.specs.Bits.{bit}
use Rattle.amplitude.proofs.BitLaws.{bit_above}
use Rattle.phase_sum_meaning.specs.Room.{most_variables}
use Rattle.phase_sum_types.specs.declared.Set.{Set}
use lib.ListN.{length}
use Rattle.phase_sum_meaning.specs.Building.{PathSum}
use Rattle.phase_sum_types.specs.Workspace.{set_of, Lent, sum_of, Sized, Became}
use Rattle.phase_sum_types.specs.declared.Sum.{Sum}
use Rattle.phase_sum_types.proofs.TwoWords.{pair_below, words_long}
use Rattle.phase_sum_types.proofs.Members.{members_hold}
use Rattle.phase_sum_types.proofs.Changing.{room_in, place_left, room-replace, room-take_out, room-turned, wires-replace, wires-take_out, still_sized}
use Rattle.phase_sum_types.proofs.Running.{AsLong}
use Rattle.comparison_meaning.specs.Reduction as reduction
use Rattle.comparison_meaning.specs.Reduction.{goes}
use Rattle.comparison_types.specs.declared.Counts.{Counts}
use Rattle.comparison_types.specs.Inner.{counts_of, Steps}
use Rattle.comparison_types.proofs.StepCases.{sum_to, turn_to, join_to, stuck_to}
use Rattle.comparison_reducing.proofs.step_at.Goals as goal

-- what a change made of the sum, with what was counted, is the step
goes_to : {m : ℕ} {s r : Sum} {n : Counts} {l l' : Lent} {t : PathSum} {d : reduction.Counts} {e : reduction.Next} →
    Sized s l → Became t m r l l' → counts_of n ≡ d → room_in t ≤ room_in (sum_of s l) → AsLong l l' →
    e ≡ goes t d → Steps e (record { sum = r; counts = n }) l'
goes_to sized became counted room long is =
    record {
      next = rw (became.sum, counted) (sym is);
      sized = still_sized _ _ _ _ _ sized room became long;
    }

-- a variable of a set is one that a pair may have
held_below : (s : Set) (v : ℕ) → s.low < 2 ^ 64 → s.high < 2 ^ 64 → bit v (set_of s) ≡ true → v < most_variables
unfolding set_of
held_below s v low high held = go (ltb v most_variables) refl
  where
    go : (b : Bool) → ltb v most_variables ≡ b → v < most_variables
    go true e = ltb-true v most_variables e
    go false e = absurd (true≢false (sym held ∙ bit_above most_variables v _ (pair_below s.low s.high low high) (ltb-false v most_variables e)))

pub turn_out-requires : goal.turn_out-requires
turn_out-requires c =
    let pre = c.requires in
    (pre.3, (place_left _ _ pre.2 pre.0 (held_below c.args.now.sum.live _ (omega arith) (omega arith) pre.0)).1)

pub returns-in-Turn : goal.returns-in-Turn
returns-in-Turn c =
    let pre = c.requires in
    let kept = c.turn_out.auto in
    goes_to pre.2 (c.turn_out.ensures c.args.wires.now)
    c.add_turn.ensures (room-turned _ _ _ _ (members_hold _ _ pre.0 (held_below c.args.now.sum.live _ (omega arith) (omega arith) pre.0)))
    (words_long _ _ refl kept.sets kept.coeffs)
    (turn_to _ _ _ _ _ _ (sym c.in-Turn.ensures))

pub returns-in-Some : goal.returns-in-Some
returns-in-Some c =
    let kept = c.join_out.auto in
    goes_to c.requires.2 c.join_out.ensures c.add_join.ensures
    (le_trans (room-replace _ _ _) (room-take_out _ _))
    (words_long _ _ (ap (λ t. length t.wires) c.join_out.ensures.sum ∙ wires-replace _ _ _ ∙ wires-take_out _ _) kept.sets kept.coeffs)
    (rw (c.in-Some.is, c.rest_of.ensures, c.constraint_of-constraint.ensures) (join_to _ _ _ _ _ _ (sym c.in-Constraint.ensures)))

pub returns-in-Sum : goal.returns-in-Sum
returns-in-Sum c =
    let kept = c.take_out.auto in
    goes_to c.requires.2 (c.take_out.ensures c.args.wires.now)
    c.add_sum.ensures (room-take_out _ _) (words_long _ _ refl kept.sets kept.coeffs)
    (sum_to _ _ _ _ _ _ (sym c.in-Sum.ensures))

pub returns-in-None : goal.returns-in-None
returns-in-None c =
    let is = stuck_to _ _ _ _ _ (sym c.in-Constraint.ensures) in
    record { stuck = ap reduction.stuck c.constraint_of-constraint.ensures ∙ rw c.in-None.is (sym is); same = refl }
