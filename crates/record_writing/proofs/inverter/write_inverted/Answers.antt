-- The three bytes are those of the inverse, by the table.
-- Assumes nothing.
use Rattle.std.proofs.Common.{◌∙◌}
use Rattle.record_writing.proofs.Bytes.{written_inverted}
use Rattle.record_writing.proofs.inverter.write_inverted.Goals as goal

pub returns : goal.returns
returns c =
    rw (written_inverted c.args.bytes c.least_b.ensures.spare c.least_b.ensures.qubit (c.from.ensures ∙ c.min.ensures) c.max-b.ensures c.max-b.type_inv)
    c.write_gate.ensures
