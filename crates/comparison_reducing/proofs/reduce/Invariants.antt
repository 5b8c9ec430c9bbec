-- `comparison_reducing::reduce` meets its contract. The loop's invariant: what the definition gives from the start it gives from here with the steps that are left; and the words are level.
-- Assumes nothing.
use Rattle.phase_sum_types.specs.Workspace.{Level}
use Rattle.phase_sum_types.proofs.TwoWords.{by_words}
use Rattle.comparison_types.proofs.StepCases.{Going}
use Rattle.comparison_reducing.proofs.reduce.Given as goal

abbrev pub invariant-loop : goal.invariant-loop
invariant-loop l = Going l.initial.reached (by_words l.initial.wires l.initial.sets l.initial.coeffs) l.counter l.reached (by_words l.wires l.sets l.coeffs) × Level l.sets l.coeffs
