-- The kinds of step, in the code and in the definition.
-- Assumes nothing.
use Rattle.phase_sum_meaning.specs.Stepping as step
use Rattle.comparison_reducing.specs.declared.Kind.{Kind}
use Rattle.comparison_reducing.specs.declared.Kind.TheVariants.{Sum, Turn, Constraint}

-- the kind that a case of the code's enum stands for
abbrev pub kind_in : Kind → step.Kind
kind_in Sum = step.sum
kind_in Turn = step.turn
kind_in Constraint = step.constraint
