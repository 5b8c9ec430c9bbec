-- `comparison_searching::Candidates::weight_three` meets its contract. The outermost loop's invariant: no input with three of the first i qubits differs.
-- The middle one's: nor one with qubit i and two of the first j. The innermost one's: nor one with qubits i and j and one of the first k; and
-- the set that was read holds just those third qubits with which one differs.
-- Assumes nothing.
use mathlib.Core.Path.{◌≡◌}
use mathlib.Core.Option.{none}
use Rattle.phase_sum_types.specs.Workspace.{set_of}
use Rattle.comparison_types.specs.Inner.{first_beside}
use Rattle.comparison_types.proofs.TripleLaws.{Shows}
use Rattle.comparison_searching.proofs.Candidates.weight_three.Given as goal

abbrev pub invariant-loop-i : goal.invariant-loop-i
invariant-loop-i l = first_beside l.self.terms.now 0 3 l.i ≡ none

abbrev pub invariant-loop-j : goal.invariant-loop-j
invariant-loop-j l = first_beside l.self.terms.now l.high 2 l.j ≡ none

abbrev pub invariant-loop-k : goal.invariant-loop-k
invariant-loop-k l = record {
  passed : first_beside l.self.terms.now l.pair 1 l.k ≡ none;
  shows : Shows l.self.terms.now l.pair l.j (set_of l.both);
}
