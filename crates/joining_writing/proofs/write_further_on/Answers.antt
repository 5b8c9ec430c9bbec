-- A gate within 16 qubits stays below 256 by a shift of 16 at most, and its bytes are those of the gate shifted.
-- Assumes nothing.
use Rattle.std.proofs.Common.{refl, arith}
use Rattle.joining_writing.proofs.Bytes.{first_within, written_on}
use Rattle.joining_writing.proofs.write_further_on.Goals as goal

pub overflow_add-shift : goal.overflow_add-shift
overflow_add-shift c = omega (arith, first_within 16 c.args.bytes c.requires.2)

pub returns : goal.returns
returns c =
    rw (written_on c.args.shift c.args.bytes (omega arith) c.requires.2 c.least_b.ensures.spare c.least_b.ensures.qubit c.min.ensures refl)
    c.write_gate.ensures
