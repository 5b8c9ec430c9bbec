-- `comparison_searching::Candidates::weight_two` meets its contract. The loop's invariant: no input with two of the first i qubits differs.
-- Assumes nothing.
use mathlib.Core.Path.{◌≡◌}
use mathlib.Core.Option.{none}
use Rattle.comparison_types.specs.Inner.{first_beside}
use Rattle.comparison_searching.proofs.Candidates.weight_two.Given as goal

abbrev pub invariant-loop-i : goal.invariant-loop-i
invariant-loop-i l = first_beside l.self.terms.now 0 2 l.i ≡ none
