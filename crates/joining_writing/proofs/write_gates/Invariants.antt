-- With what is left of the gates stored too, the buffer would be as the function leaves it.
-- Assumes nothing.
use Rattle.std.proofs.Common.{◌≡◌, ◌+◌, ◌*◌, drop}
use Rattle.record_format.specs.Format.{most_qubits}
use Rattle.record_format.specs.Gate.{AllWithin, body_bytes, shift_list}
use Rattle.record_format.specs.Chunks.{gates_of}
use Rattle.record_format.proofs.Storing.{with_left}
use Rattle.joining_writing.proofs.write_gates.Given as goal

abbrev pub invariant-loop-i : goal.invariant-loop-i
invariant-loop-i l =
    let rest = gates_of (drop l.i l.gates) in
    record {
      within : AllWithin most_qubits rest;
      left : with_left l.buffer (l.at + 3 * l.i) (body_bytes (shift_list l.shift rest)) ≡ with_left l.initial.buffer l.at (body_bytes (shift_list l.shift (gates_of l.gates)));
    }
