-- Behind the test on the qubits `write_joined` writes what the last clause speaks of.
-- Assumes nothing.
use Rattle.std.proofs.Common.{◌≡◌, arith}
use Rattle.record_format.specs.Reading.{qubits}
use Rattle.joining_types.specs.Clauses.{InTime}
use Rattle.joining_types.proofs.ClauseLaws.{time_composed}
use Rattle.joining_types.proofs.Writing.{part_of_held, time_same, clause_of}
use Rattle.joining.proofs.join_in_time.Goals as goal

pub returns-clause-composed : goal.returns-clause-composed
returns-clause-composed c =
    let a = c.args in
    let (x, y) = c.in_ok-x.ensures in
    let same : qubits a.first.now ≡ qubits a.second.now = omega (arith, x.n_is, y.n_is) in
    let one = (part_of_held _ _ _ x c.whole_gates-first_gates.ensures.content).1 in
    let other = (part_of_held _ _ _ y c.whole_gates-second_gates.ensures.content).1 in
    let written = rw (x.n_is, one, other) at c.write_joined.ensures in
    clause_of (InTime a.first.now a.second.now) _ _ _ _ (time_same _ _ a.buffer.now x.good y.good same) (time_composed _ _ a.buffer.now _)
    written.answers written.leaves
