-- Amplitudes compared by computation: whether a power of ω carries a column, as a test. proofs/Testing.antt shows that the test passes
-- exactly where `Fits` holds.
-- Assumes nothing.
use Rattle.std.specs.Prelude.{ℕ, zero, suc, ◌^◌, Bool, true, false, ◌&&◌, List, eqb, ℤ, pos, negsuc}
use Rattle.record_format.specs.Gate.{Gate}
use Rattle.amplitude.specs.Number.{Zω, ω^, √2^}
use Rattle.amplitude.specs.Circuit.{State, column, h_gates}

-- two whole numbers compared
unfoldable pub eq_ℤ : ℤ → ℤ → Bool
eq_ℤ (pos m) (pos n) = eqb m n
eq_ℤ (pos m) (negsuc n) = false
eq_ℤ (negsuc m) (pos n) = false
eq_ℤ (negsuc m) (negsuc n) = eqb m n

-- two numbers compared
unfoldable pub eqω : Zω → Zω → Bool
eqω x y = (eq_ℤ x.a y.a && eq_ℤ x.b y.b) && (eq_ℤ x.c y.c && eq_ℤ x.d y.d)

-- a test at every number below m
unfoldable pub below : ℕ → (ℕ → Bool) → Bool
below zero test = true
below (suc m) test = below m test && test m

-- ω^j carries one state to another over the outputs of n qubits
unfoldable pub carries_state : ℕ → ℕ → State → State → Bool
carries_state n j φ ψ = below (2 ^ n) (λ w. eqω (ω^ j (φ w)) (ψ w))

-- a list's column v, multiplied by √2 k times
abbrev pub scaled_column : ℕ → List Gate → ℕ → State
scaled_column k gs v w = √2^ k (column gs v w)

-- ω^j carries column v of the first list to that of the second: the first multiplied by √2 as often as the second has H gates, and the
-- other way round
abbrev pub fits_column : ℕ → ℕ → List Gate → List Gate → ℕ → Bool
fits_column n j first second v = carries_state n j (scaled_column (h_gates second) first v) (scaled_column (h_gates first) second v)
