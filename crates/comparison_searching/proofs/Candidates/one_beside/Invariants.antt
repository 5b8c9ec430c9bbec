-- `comparison_searching::Candidates::one_beside` meets its contract. The loop's invariant: no input with one of the first i qubits differs.
-- Assumes nothing.
use mathlib.Core.Path.{◌≡◌}
use mathlib.Core.Option.{none}
use Rattle.comparison_types.specs.Inner.{first_beside}
use Rattle.comparison_searching.proofs.Candidates.one_beside.Given as goal

abbrev pub invariant-loop-i : goal.invariant-loop-i
invariant-loop-i l = first_beside l.self.terms.now l.held 1 l.i ≡ none
