-- `calls_text::hex::bytes`: a byte for each pair so far.
use Rattle.std.proofs.Common.{◌≡◌, vec_len}
use Rattle.calls_text.proofs.hex.bytes.Given as goal

abbrev pub invariant-loop-high : goal.invariant-loop-high
invariant-loop-high l = vec_len l.bytes ≡ l.high-index
