-- `calls_text::numbers::numbers`: the numbers so far are below 10 ^ 18.
use Rattle.std.proofs.Common.{◌≡◌, ℕ, ◌<◌, ◌^◌, slice_index_or, length}
use Rattle.calls_text.proofs.numbers.numbers.Given as goal

abbrev pub invariant-loop-x : goal.invariant-loop-x
invariant-loop-x g l = (length l.x-items ≡ l.x-index-end) × ((k d : ℕ) → k < l.x-index → slice_index_or l.x-items k d < 10 ^ 18)
