-- The table of matrices in the code is that of the published matrices, entry by entry.
-- Assumes nothing.
use mathlib.Core.Path.{◌≡◌, refl}
use mathlib.Core.List.{List, [], ◌∷◌}
use mathlib.Core.Bool.{true, false}
use Prim.Native.Nat.{ℕ, zero, suc, ◌<◌}
use native.Mathlib.Omega.{arith}
use lib.Dec.{eqb}
use lib.ListN.{get_or}
use Rattle.std.specs.Prelude.{Option, Some, None}
use Rattle.record_format.specs.Gate.{OneQubit, X, Y, Z, S, S†, T, T†, H, one_qubit_kind}
use Rattle.amplitude.specs.Matrix.{Matrix, matrix, entry}
use Rattle.dense_gates.specs.Gates.{entry_of}

-- a matrix as the code has it
abbrev square : Option ℕ → Option ℕ → Option ℕ → Option ℕ → List (List (Option ℕ))
square a b c d = (a ∷ b ∷ []) ∷ (c ∷ d ∷ []) ∷ []

-- the table as the code has it
abbrev table : List (List (List (Option ℕ)))
table =
    square None (Some 0) (Some 0) None
    ∷ square None (Some 6) (Some 2) None
    ∷ square (Some 0) None None (Some 4)
    ∷ square (Some 0) None None (Some 2)
    ∷ square (Some 0) None None (Some 6)
    ∷ square (Some 0) None None (Some 1)
    ∷ square (Some 0) None None (Some 7)
    ∷ square (Some 0) (Some 0) (Some 0) (Some 4)
    ∷ []

-- a square whose four entries stand for those of a matrix
record Stands (m : Matrix) (xss : List (List (Option ℕ))) : Type 0 where
  first : entry_of (get_or (get_or xss 0 []) 0 None) ≡ entry m false false
  upper : entry_of (get_or (get_or xss 0 []) 1 None) ≡ entry m false true
  lower : entry_of (get_or (get_or xss 1 []) 0 None) ≡ entry m true false
  last : entry_of (get_or (get_or xss 1 []) 1 None) ≡ entry m true true

-- the table's squares are the published matrices
square_is : (u : OneQubit) → Stands (matrix u) (get_or table (one_qubit_kind u) [])
unfolding matrix entry one_qubit_kind
square_is X = record { first = refl; upper = refl; lower = refl; last = refl }
square_is Y = record { first = refl; upper = refl; lower = refl; last = refl }
square_is Z = record { first = refl; upper = refl; lower = refl; last = refl }
square_is S = record { first = refl; upper = refl; lower = refl; last = refl }
square_is S† = record { first = refl; upper = refl; lower = refl; last = refl }
square_is T = record { first = refl; upper = refl; lower = refl; last = refl }
square_is T† = record { first = refl; upper = refl; lower = refl; last = refl }
square_is H = record { first = refl; upper = refl; lower = refl; last = refl }

-- every entry of the table
pub table_is : (u : OneQubit) (row column : ℕ) → row < 2 → column < 2 →
    entry_of (get_or (get_or (get_or table (one_qubit_kind u) []) row []) column None) ≡ entry (matrix u) (eqb row 1) (eqb column 1)
table_is u zero zero l m = (square_is u).first
table_is u zero (suc zero) l m = (square_is u).upper
table_is u (suc zero) zero l m = (square_is u).lower
table_is u (suc zero) (suc zero) l m = (square_is u).last
table_is u zero (suc (suc column)) l m = absurd (omega arith)
table_is u (suc zero) (suc (suc column)) l m = absurd (omega arith)
table_is u (suc (suc row)) column l m = absurd (omega arith)
