-- Behind the test on the qubits `write_joined` writes what the last clause speaks of.
-- Assumes nothing.
use Rattle.std.proofs.Common.{◌≤◌, ◌+◌, arith}
use Rattle.record_format.specs.Format.{most_qubits}
use Rattle.record_format.specs.Reading.{qubits}
use Rattle.joining_types.specs.Clauses.{InSpace}
use Rattle.joining_types.proofs.ClauseLaws.{space_composed}
use Rattle.joining_types.proofs.Writing.{part_of_held, space_few, clause_of}
use Rattle.joining.proofs.join_in_space.Goals as goal

pub returns-clause-composed : goal.returns-clause-composed
returns-clause-composed c =
    let a = c.args in
    let (x, y) = c.in_ok-x.ensures in
    let few : qubits a.first.now + qubits a.second.now ≤ most_qubits = omega (arith, x.n_is, y.n_is, c.if-x-y-gt-MOST_QUBITS.false) in
    let one = (part_of_held _ _ _ x c.whole_gates-first_gates.ensures.content).1 in
    let other = (part_of_held _ _ _ y c.whole_gates-second_gates.ensures.content).1 in
    let written = rw (x.n_is, y.n_is, one, other) at c.write_joined.ensures in
    clause_of (InSpace a.first.now a.second.now) _ _ _ _ (space_few _ _ a.buffer.now x.good y.good few) (space_composed _ _ a.buffer.now _)
    written.answers written.leaves
