-- Bits of a natural number: bit q of an input is qubit q, qubit 0 lowest.
-- Assumes nothing.
use Rattle.std.specs.Prelude.{ℕ, zero, suc, ◌+◌, ◌*◌, ◌/◌, ◌%◌, Bool, true, false, not, eqb}

-- 1 for true, 0 for false
abbrev pub digit : Bool → ℕ
digit true = 1
digit false = 0

-- bit q
unfoldable pub bit : ℕ → ℕ → Bool
bit zero w = eqb (w % 2) 1
bit (suc q) w = bit q (w / 2)

-- the number with bit q put to b
unfoldable pub put : ℕ → Bool → ℕ → ℕ
put zero b w = 2 * (w / 2) + digit b
put (suc q) b w = 2 * put q b (w / 2) + w % 2

-- the number with bit q flipped
unfoldable pub flip : ℕ → ℕ → ℕ
flip q w = put q (not (bit q w)) w
