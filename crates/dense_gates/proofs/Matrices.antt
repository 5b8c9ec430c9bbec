-- The published matrices by their zeros. A diagonal one turns the amplitudes whose bit is 1, one with zeros in the diagonal exchanges and
-- turns them, and one without zeros combines them.
-- Assumes nothing.
use mathlib.Core.Path.{◌≡◌, refl, sym, ◌∙◌}
use mathlib.Core.Bool.{Bool, true, false}
use Prim.Native.Nat.{ℕ}
use native.Mathlib.Omega.{arith}
use Rattle.record_format.specs.Gate.{OneQubit, X, Y, Z, S, S†, T, T†, H, one}
use Rattle.amplitude.specs.Bits.{bit}
use Rattle.amplitude.specs.Matrix.{Entry, O, ω, Matrix, matrix, entry, times}
use Rattle.amplitude.specs.Circuit.{State, apply}
use Rattle.amplitude.proofs.NumberLaws.{+ω_idl, +ω_idr}
use Rattle.amplitude.proofs.Linear.{ω^_zero}
use Rattle.dense_columns.proofs.Pairs.{put_own}
use Rattle.dense_turning.specs.Turns.{turned_where, crossed}
use Rattle.dense_gates.specs.Gates.{combined}

-- an entry is not 0
abbrev Power : Entry → Type 0
Power e = e ≡ O → ⊥

-- powers of ω are not
no_power : (k : ℕ) → Power (ω k)
no_power k e =
    let z : ◌≡◌ {A = ℕ} 0 1 = cc in
    omega arith

-- a power in the table stands for one
pub some_power : (k : ℕ) {e : Entry} → ω k ≡ e → Power e
some_power k is h = no_power k (is ∙ h)

-- a diagonal matrix, with 1 in front
pub record Diagonal (m : Matrix) : Type 0 where
  pub first : entry m false false ≡ ω 0
  pub upper : entry m false true ≡ O
  pub lower : entry m true false ≡ O
  pub last : Power (entry m true true)

-- where the second entry of the first row is 0, a matrix is such a one
pub diagonal : (u : OneQubit) → entry (matrix u) false true ≡ O → Diagonal (matrix u)
unfolding entry matrix
diagonal X e = absurd (no_power 0 e)
diagonal Y e = absurd (no_power 6 e)
diagonal Z e = record { first = refl; upper = refl; lower = refl; last = no_power 4 }
diagonal S e = record { first = refl; upper = refl; lower = refl; last = no_power 2 }
diagonal S† e = record { first = refl; upper = refl; lower = refl; last = no_power 6 }
diagonal T e = record { first = refl; upper = refl; lower = refl; last = no_power 1 }
diagonal T† e = record { first = refl; upper = refl; lower = refl; last = no_power 7 }
diagonal H e = absurd (no_power 0 e)

-- a matrix with zeros in the diagonal
pub record Crossing (m : Matrix) : Type 0 where
  pub first : entry m false false ≡ O
  pub upper : Power (entry m false true)
  pub lower : Power (entry m true false)
  pub last : entry m true true ≡ O

-- where the first entry is 0, a matrix is such a one
pub crossing : (u : OneQubit) → entry (matrix u) false false ≡ O → Crossing (matrix u)
unfolding entry matrix
crossing X e = record { first = refl; upper = no_power 0; lower = no_power 0; last = refl }
crossing Y e = record { first = refl; upper = no_power 6; lower = no_power 2; last = refl }
crossing Z e = absurd (no_power 0 e)
crossing S e = absurd (no_power 0 e)
crossing S† e = absurd (no_power 0 e)
crossing T e = absurd (no_power 0 e)
crossing T† e = absurd (no_power 0 e)
crossing H e = absurd (no_power 0 e)

-- a matrix without zeros
pub record Full (m : Matrix) : Type 0 where
  pub first : Power (entry m false false)
  pub upper : Power (entry m false true)
  pub lower : Power (entry m true false)
  pub last : Power (entry m true true)

-- where neither entry of the first row is 0, a matrix is such a one
pub full : (u : OneQubit) → Power (entry (matrix u) false false) → Power (entry (matrix u) false true) → Full (matrix u)
unfolding entry matrix
full X p q = absurd (p refl)
full Y p q = absurd (p refl)
full Z p q = absurd (q refl)
full S p q = absurd (q refl)
full S† p q = absurd (q refl)
full T p q = absurd (q refl)
full T† p q = absurd (q refl)
full H p q = record { first = p; upper = q; lower = no_power 0; last = no_power 4 }

-- the entries of a matrix
pub record Entries (m : Matrix) (a b c d : Entry) : Type 0 where
  pub first : a ≡ entry m false false
  pub upper : b ≡ entry m false true
  pub lower : c ≡ entry m true false
  pub last : d ≡ entry m true true

module _ (q : ℕ) (ψ : State) (w : ℕ) where
  -- a gate combines by its matrix
  pub matrix_combines : (u : OneQubit) (a b c d : Entry) → Entries (matrix u) a b c d → combined q a b c d ψ w ≡ apply (one u q) ψ w
  unfolding apply combined
  matrix_combines u a b c d is = go (bit q w) refl
    where
      go : (t : Bool) → bit q w ≡ t → combined q a b c d ψ w ≡ apply (one u q) ψ w
      go true h = rw (h, is.lower, is.last)
      go false h = rw (h, is.first, is.upper)

  -- a diagonal matrix with 1 in front turns where the bit is 1
  pub diagonal_turns : (d : ℕ) → turned_where q q d ψ w ≡ combined q (ω 0) O O (ω d) ψ w
  unfolding combined turned_where times
  diagonal_turns d = go (bit q w) refl
    where
      go : (t : Bool) → bit q w ≡ t → turned_where q q d ψ w ≡ combined q (ω 0) O O (ω d) ψ w
      go true h = rw (h, put_own q true w h) (sym (+ω_idl _))
      go false h = rw (h, put_own q false w h) (sym (+ω_idr _ ∙ ω^_zero _))

  -- one with zeros in the diagonal exchanges and turns
  pub crossing_crosses : (b c : ℕ) → crossed q b c ψ w ≡ combined q O (ω b) (ω c) O ψ w
  unfolding combined crossed times
  crossing_crosses b c = go (bit q w) refl
    where
      go : (t : Bool) → bit q w ≡ t → crossed q b c ψ w ≡ combined q O (ω b) (ω c) O ψ w
      go true h = rw h (sym (+ω_idr _))
      go false h = rw h (sym (+ω_idl _))
