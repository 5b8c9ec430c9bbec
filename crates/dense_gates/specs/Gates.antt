-- One-qubit gates on a column: the table's entries, and what a matrix makes of a column.
-- Assumes nothing.
use Rattle.std.specs.Prelude.{ℕ, true, false, cond, Option, Some, None}
use Rattle.amplitude.specs.Number.{◌+ω◌}
use Rattle.amplitude.specs.Bits.{bit, put}
use Rattle.amplitude.specs.Matrix.{Entry, O, ω, times}
use Rattle.amplitude.specs.Circuit.{State}

-- the entry that one of the table stands for: a power of ω, or none for 0
abbrev pub entry_of : Option ℕ → Entry
entry_of None = O
entry_of (Some k) = ω k

-- a state with each pair of amplitudes along bit q combined by a matrix, the first row in front
unfoldable pub combined : ℕ → Entry → Entry → Entry → Entry → State → State
combined q a b c d ψ w =
    cond (bit q w) (times c (ψ (put q false w)) +ω times d (ψ (put q true w))) (times a (ψ (put q false w)) +ω times b (ψ (put q true w)))
