-- `comparison_reducing::step` meets its contract: at the C and L that were read and the lowest variable left, the step is the definition's.
-- Assumes nothing.
use mathlib.Core.Path.{◌≡◌, refl, ◌∙◌}
use Prim.Native.Nat.{ℕ}
use mathlib.Core.Option.{Option}
use Rattle.phase_sum_meaning.specs.Building.{PathSum}
use Rattle.phase_sum_meaning.specs.Sets.{first_in}
use Rattle.phase_sum_meaning.specs.Stepping.{half_sum, odd_halves, take_out}
use Rattle.phase_sum_types.specs.Workspace.{set_of, lent, sum_of}
use Rattle.comparison_meaning.specs.Reduction as reduction
use Rattle.comparison_meaning.specs.Reduction.{step_at}
use Rattle.comparison_types.specs.Inner.{counts_of, step_to}
use Rattle.comparison_types.proofs.StepCases.{found_left, step_lowest}
use Rattle.comparison_reducing.proofs.step.Goals as goal

-- at the definition's C and L, and the lowest variable left of L, the step is the definition's
is_step : (y k l : ℕ) (o : Option ℕ) (s : PathSum) (c : reduction.Counts) →
    first_in (take_out y s).live l ≡ o → k ≡ half_sum y s.phase.terms → l ≡ odd_halves y s.phase.terms
    → step_to y o k l s c ≡ step_at y s c
is_step y k l o s c found k-is l-is = rw (← found) (step_lowest y k l s c ∙ rw (k-is, l-is))

pub returns : goal.returns
returns c =
    let a = c.args in
    let s = sum_of a.now.sum (lent a.wires.now a.sets.now a.coeffs.now) in
    let halves = c.halves_of-halves in
    let found = found_left s (set_of a.now.sum.live) a.y (set_of halves.result.l) _ refl c.without.ensures c.lowest_in-z.ensures in
    let is = is_step a.y _ _ _ s (counts_of a.now.counts) found (rw c.new.ensures at halves.ensures.c) (rw c.new.ensures at halves.ensures.l) in
    rw is at c.step_at.ensures
