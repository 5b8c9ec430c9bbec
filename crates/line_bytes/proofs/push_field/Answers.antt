-- `line_bytes::push_field`: the field stands behind all that stood.
-- Assumes nothing.
use Rattle.std.proofs.Common.{rules}
use Rattle.line_bytes.specs.Line.{field}
use Rattle.line_bytes.proofs.Laws.{wrote_behind, field_behind}
use Rattle.line_bytes.proofs.push_field.Goals as goal

pub returns-clause-wrote : goal.returns-clause-wrote
returns-clause-wrote g c = wrote_behind c.args.line.now.items (field c.args.number) (search (rules, field_behind))
