-- How amplitudes grow: an H gate at most doubles every coefficient, and any other gate keeps their bound.
-- Assumes nothing.
use mathlib.Core.Path.{◌≡◌, refl}
use mathlib.Core.Logic.{◌⊎◌, inl, inr}
use mathlib.Core.Bool.{Bool, true, false, cond, ◌&&◌}
use mathlib.Core.List.{List, [], ◌∷◌}
use Prim.Native.Nat.{ℕ, ◌+◌}
use native.Mathlib.Nat.{add-zero, zero-add, add_assoc}
use native.Mathlib.Numerals.{add-one}
use lib.Dec.{eqb}
use Rattle.record_format.specs.Gate.{OneQubit, X, Y, Z, S, S†, T, T†, H, Gate, one, two, CX, CZ, SWAP, Within, AllWithin}
use Rattle.amplitude.specs.Number.{Zω, 0ω, 1ω, ω^}
use Rattle.amplitude.specs.Bits.{bit, put}
use Rattle.amplitude.specs.Matrix.{O, matrix, entry, times, row}
use Rattle.amplitude.specs.Circuit.{State, basis, apply, run, column, tally, is_h, h_gates}
use Rattle.amplitude.proofs.NumberLaws.{+ω_idl, +ω_idr}
use Rattle.amplitude.proofs.BitLaws.{put_below}
use Rattle.dense_numbers.specs.Numbers.{Sized}
use Rattle.dense_numbers.proofs.Sizes.{sized_sum, sized_times, sized_ω^, sized_0ω, sized_1ω}
use Rattle.dense_columns.specs.Columns.{AllSized}

-- each row of the matrix has an entry 0
Lone : OneQubit → Type 0
Lone u = (b : Bool) → (entry (matrix u) b false ≡ O) ⊎ (entry (matrix u) b true ≡ O)

-- by two entries 0 that stand across
crossed : (u : OneQubit) → entry (matrix u) false false ≡ O → entry (matrix u) true true ≡ O → Lone u
unfolding Lone
crossed u p q false = inl p
crossed u p q true = inr q

straight : (u : OneQubit) → entry (matrix u) false true ≡ O → entry (matrix u) true false ≡ O → Lone u
unfolding Lone
straight u p q false = inr p
straight u p q true = inl q

-- such a matrix keeps the bound
lone_sized : (u : OneQubit) → Lone u → (b : Bool) (k : ℕ) (x y : Zω) → Sized k x → Sized k y → Sized (k + 0) (row (matrix u) b x y)
unfolding Lone
lone_sized u lone b k x y s t = rw (add-zero k) (go (lone b))
  where
    go : (entry (matrix u) b false ≡ O) ⊎ (entry (matrix u) b true ≡ O) → Sized k (row (matrix u) b x y)
    go (inl h) = unfold times in rw (h, +ω_idl) (sized_times (entry (matrix u) b true) k y t)
    go (inr h) = unfold times in rw (h, +ω_idr) (sized_times (entry (matrix u) b false) k x s)

-- a row of any one-qubit matrix
row_sized : (u : OneQubit) (q : ℕ) (b : Bool) (k : ℕ) (x y : Zω) → Sized k x → Sized k y → Sized (k + is_h (one u q)) (row (matrix u) b x y)
unfolding entry matrix
row_sized X q = lone_sized X (crossed X refl refl)
row_sized Y q = lone_sized Y (crossed Y refl refl)
row_sized Z q = lone_sized Z (straight Z refl refl)
row_sized S q = lone_sized S (straight S refl refl)
row_sized S† q = lone_sized S† (straight S† refl refl)
row_sized T q = lone_sized T (straight T refl refl)
row_sized T† q = lone_sized T† (straight T† refl refl)
row_sized H q = λ b k x y s t.
    rw (add-one k) (sized_sum k _ _ (sized_times (entry (matrix H) b false) k x s) (sized_times (entry (matrix H) b true) k y t))

-- a gate
pub apply_sized : (n : ℕ) (g : Gate) (k : ℕ) (ψ : State) → Within n g → AllSized n k ψ → AllSized n (k + is_h g) (apply g ψ)
unfolding apply
apply_sized n (one u q) k ψ l s w b =
    row_sized u q (bit q w) k _ _ (s (put q false w) (put_below n q false w l b)) (s (put q true w) (put_below n q true w l b))
apply_sized n (two CX x y) k ψ l s w b = rw (add-zero k) (s _ (put_below n y _ w l.1 b))
apply_sized n (two CZ x y) k ψ l s w b = rw (add-zero k) (go (bit x w && bit y w))
  where
    go : (t : Bool) → Sized k (cond t (ω^ 4 (ψ w)) (ψ w))
    go true = sized_ω^ 4 k (ψ w) (s w b)
    go false = s w b
apply_sized n (two SWAP x y) k ψ l s w b = rw (add-zero k) (s _ (put_below n x _ _ l.0 (put_below n y _ w l.1 b)))

-- the state of one input
pub basis_sized : (v w : ℕ) → Sized 0 (basis v w)
unfolding basis
basis_sized v w = go (eqb v w)
  where
    go : (t : Bool) → Sized 0 (cond t 1ω 0ω)
    go true = sized_1ω
    go false = sized_0ω 0

-- a list
run_sized : (n : ℕ) (gs : List Gate) (k : ℕ) (ψ : State) → AllWithin n gs → AllSized n k ψ → AllSized n (k + h_gates gs) (run gs ψ)
unfolding run tally
run_sized n [] k ψ l s = rw (add-zero k) s
run_sized n (g ∷ gs) k ψ l s =
    rw (← add_assoc k (is_h g) (tally is_h gs)) (run_sized n gs (k + is_h g) (apply g ψ) l.1 (apply_sized n g k ψ l.0 s))

-- a column of a list
pub column_sized : (n v : ℕ) (gs : List Gate) → AllWithin n gs → AllSized n (h_gates gs) (column gs v)
unfolding column
column_sized n v gs l w b = rw (zero-add (h_gates gs)) at (run_sized n gs 0 (basis v) l (λ u m. basis_sized v u) w b)
