-- `line_bytes::write_line`: the word and the first numbers are written, a space before each.
-- Assumes nothing.
use Rattle.std.proofs.Common.{◌≡◌, ◌++◌, take}
use Rattle.line_bytes.specs.Line.{fields}
use Rattle.line_bytes.proofs.write_line.Given as goal

abbrev pub invariant-loop-number : goal.invariant-loop-number
invariant-loop-number g l = l.line.items ≡ l.word ++ fields (take l.number-index l.numbers)
