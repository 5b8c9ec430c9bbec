-- With what is left of the gates stored too, the buffer would be as the function leaves it.
-- Assumes nothing.
use Rattle.std.proofs.Common.{◌≡◌, ◌+◌, ◌≤◌, length}
use Rattle.record_format.specs.Gate.{body_bytes, inverse_list}
use Rattle.record_format.specs.Reading.{size}
use Rattle.record_format.specs.Chunks.{gates_of}
use Rattle.record_format.proofs.Storing.{with_left}
use Rattle.record_writing.proofs.inverter.write_inverse.Given as goal

abbrev pub invariant-loop-i : goal.invariant-loop-i
invariant-loop-i l =
    let rest = l.i-iterator.iter.iter.rest.now in
    record {
      fits : size (l.i-iterator.count + length rest) ≤ length l.buffer;
      left : with_left l.buffer (size l.i-iterator.count) (body_bytes (inverse_list (gates_of rest))) ≡ with_left l.initial.buffer 5 (body_bytes (inverse_list (gates_of l.gates)));
    }
