-- Behind the tests on gates and buffer the head and the two lists' gates are written, one behind the other.
-- Assumes nothing.
use Rattle.std.proofs.Common.{◌∙◌, refl, arith}
use Rattle.record_format.proofs.Chunks.{length_gates_of}
use Rattle.record_format.proofs.GateLaws.{length_shift}
use Rattle.joining_types.proofs.Shifting.{shift_none}
use Rattle.joining_types.proofs.Writing.{lists_stored}
use Rattle.joining_writing.proofs.write_joined.Goals as goal

pub returns : goal.returns
returns c =
    let a = c.args in
    rw (lists_stored a.n _ _ a.buffer.now _ _ _ _ (length_gates_of a.first.now) (length_shift a.shift _ ∙ length_gates_of a.second.now)
    (omega arith) (omega (arith, c.if-buffer-size.false)) c.write_head.ensures (rw shift_none at c.write_gates.ensures.as_gates))
    (record { answers = refl; leaves = c.write_gates-2.ensures.as_gates })
