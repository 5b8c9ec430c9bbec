-- `dense_columns::has_bit` meets its contract: a shift and a remainder give the bit.
-- Assumes nothing.
use mathlib.Core.Path.{sym}
use Rattle.dense_columns.proofs.Pairs.{bit_shift}
use Rattle.dense_columns.proofs.has_bit.Goals as goal

pub returns : goal.returns
returns c = sym (bit_shift c.args.q c.args.w)
