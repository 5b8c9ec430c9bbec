-- The published gate matrices. An entry is 0 or a power of ω: 1 = ω⁰, i = ω², −1 = ω⁴, −i = ω⁶. H stands without its factor 1/√2.
-- Assumes nothing.
use Rattle.std.specs.Prelude.{ℕ, Bool, true, false}
use Rattle.record_format.specs.Gate.{OneQubit, X, Y, Z, S, S†, T, T†, H}
use Rattle.amplitude.specs.Number.{Zω, 0ω, ◌+ω◌, ω^}

-- an entry: O is 0, ω k is the k-th power of ω
pub data Entry : Type 0 where
  O : Entry
  ω : ℕ → Entry

-- two rows of two entries
pub record Matrix : Type 0 where
  pub entry₀₀ : Entry
  pub entry₀₁ : Entry
  pub entry₁₀ : Entry
  pub entry₁₁ : Entry

-- a matrix by its rows, the first in front
abbrev pub rows : Entry → Entry → Entry → Entry → Matrix
rows p q r s = record { entry₀₀ = p; entry₀₁ = q; entry₁₀ = r; entry₁₁ = s }

-- the matrix of each one-qubit gate
unfoldable pub matrix : OneQubit → Matrix
matrix X = rows O (ω 0) (ω 0) O
matrix Y = rows O (ω 6) (ω 2) O
matrix Z = rows (ω 0) O O (ω 4)
matrix S = rows (ω 0) O O (ω 2)
matrix S† = rows (ω 0) O O (ω 6)
matrix T = rows (ω 0) O O (ω 1)
matrix T† = rows (ω 0) O O (ω 7)
matrix H = rows (ω 0) (ω 0) (ω 0) (ω 4)

-- the entry in the row of the output's bit and the column of the input's bit
unfoldable pub entry : Matrix → Bool → Bool → Entry
entry m false false = m.entry₀₀
entry m false true = m.entry₀₁
entry m true false = m.entry₁₀
entry m true true = m.entry₁₁

-- an entry times a number
unfoldable pub times : Entry → Zω → Zω
times O z = 0ω
times (ω k) z = ω^ k z

-- a row of a matrix, that of the output's bit, on the numbers at the two values of the input's bit
abbrev pub row : Matrix → Bool → Zω → Zω → Zω
row m b x y = times (entry m b false) x +ω times (entry m b true) y
