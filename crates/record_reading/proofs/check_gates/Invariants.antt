-- The first row of all gates that holds is the first of the gates from index i on.
-- Assumes nothing.
use Rattle.std.proofs.Common.{◌≡◌}
use Rattle.record_format.specs.Row.{first}
use Rattle.record_format.specs.Reading.{all_gate_rows}
use Rattle.record_format.specs.Chunks.{raws_of}
use Rattle.record_format.proofs.Reading.{chunk_rows}
use Rattle.record_reading.proofs.check_gates.Given as goal

abbrev pub invariant-loop-i : goal.invariant-loop-i
invariant-loop-i l = first (chunk_rows l.n l.gates l.i) ≡ first (all_gate_rows l.n 0 (raws_of l.gates))
