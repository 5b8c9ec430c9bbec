-- Textbook identities between gate lists, each with its exact power of ω, computed at every input and output; and single
-- amplitudes that pin the conventions: ω itself, the order of a list, the order of bits, the signs of Y.
-- Assumes nothing.
use mathlib.Core.Path.{◌≡◌, refl}
use Prim.Native.Nat.{ℕ, ◌^◌}
use mathlib.Core.Bool.{Bool, true, xor}
use mathlib.Core.List.{List, [], ◌∷◌}
use Rattle.record_format.specs.Gate.{Gate, one, two, X, Y, Z, S, S†, T, T†, H, CX, CZ, SWAP, one_qubit_kind}
use Rattle.amplitude.specs.Number.{whole, 0ω, 1ω, ◌+ω◌, neg, mulω, ω^, mul√2, √2^}
use Rattle.amplitude.specs.Bits.{bit, put}
use Rattle.amplitude.specs.Matrix.{matrix, entry, times}
use Rattle.amplitude.specs.Circuit.{basis, apply, run, column, tally, Carries}
use Rattle.amplitude.specs.Testing.{eq_ℤ, eqω, below, carries_state, fits_column}
use Rattle.amplitude.proofs.Testing.{below_true, fits_tested}

-- whether ω^j carries the first list to the second, at every input and output of n qubits
test : ℕ → ℕ → List Gate → List Gate → Bool
unfolding eq_ℤ eqω below carries_state whole 0ω 1ω ◌+ω◌ neg mulω mul√2 ω^ √2^ bit put matrix entry times basis apply run column tally one_qubit_kind xor
test n j first second = below (2 ^ n) (fits_column n j first second)

-- what the test passes is carried
carries : (n j : ℕ) (first second : List Gate) → test n j first second ≡ true → Carries n j first second
unfolding test
carries n j first second h v l = (fits_tested n j first second v).0 (below_true (2 ^ n) (fits_column n j first second) h v l)

-- H twice is nothing
pub hh : Carries 1 0 (one H 0 ∷ one H 0 ∷ []) []
hh = carries 1 0 _ _ (unfold test in refl)

-- the other way round, where the second list has the H gates
pub nothing_hh : Carries 1 0 [] (one H 0 ∷ one H 0 ∷ [])
nothing_hh = carries 1 0 _ _ (unfold test in refl)

-- X between two H is Z
pub hxh : Carries 1 0 (one H 0 ∷ one X 0 ∷ one H 0 ∷ []) (one Z 0 ∷ [])
hxh = carries 1 0 _ _ (unfold test in refl)

-- Z between two H is X
pub hzh : Carries 1 0 (one H 0 ∷ one Z 0 ∷ one H 0 ∷ []) (one X 0 ∷ [])
hzh = carries 1 0 _ _ (unfold test in refl)

-- X between S† and S is Y
pub s†xs : Carries 1 0 (one S† 0 ∷ one X 0 ∷ one S 0 ∷ []) (one Y 0 ∷ [])
s†xs = carries 1 0 _ _ (unfold test in refl)

-- S twice is Z
pub ss : Carries 1 0 (one S 0 ∷ one S 0 ∷ []) (one Z 0 ∷ [])
ss = carries 1 0 _ _ (unfold test in refl)

-- T twice is S
pub twice_t : Carries 1 0 (one T 0 ∷ one T 0 ∷ []) (one S 0 ∷ [])
twice_t = carries 1 0 _ _ (unfold test in refl)

-- T and its inverse are nothing
pub tt† : Carries 1 0 (one T 0 ∷ one T† 0 ∷ []) []
tt† = carries 1 0 _ _ (unfold test in refl)

-- X and then Z, times −i, is Y
pub xz : Carries 1 6 (one X 0 ∷ one Z 0 ∷ []) (one Y 0 ∷ [])
xz = carries 1 6 _ _ (unfold test in refl)

-- Z and then X, times i, is Y
pub zx : Carries 1 2 (one Z 0 ∷ one X 0 ∷ []) (one Y 0 ∷ [])
zx = carries 1 2 _ _ (unfold test in refl)

-- Y twice is nothing
pub yy : Carries 1 0 (one Y 0 ∷ one Y 0 ∷ []) []
yy = carries 1 0 _ _ (unfold test in refl)

-- S and then H, three times, is ω: times ω⁷ it is nothing
pub shshsh : Carries 1 7 (one S 0 ∷ one H 0 ∷ one S 0 ∷ one H 0 ∷ one S 0 ∷ one H 0 ∷ []) []
shshsh = carries 1 7 _ _ (unfold test in refl)

-- the two qubits of CZ are alike
pub cz_cz : Carries 2 0 (two CZ 0 1 ∷ []) (two CZ 1 0 ∷ [])
cz_cz = carries 2 0 _ _ (unfold test in refl)

-- CX from CZ, the target between two H
pub cx_by_cz : Carries 2 0 (one H 1 ∷ two CZ 0 1 ∷ one H 1 ∷ []) (two CX 0 1 ∷ [])
cx_by_cz = carries 2 0 _ _ (unfold test in refl)

-- SWAP from three CX
pub swap_by_cx : Carries 2 0 (two CX 0 1 ∷ two CX 1 0 ∷ two CX 0 1 ∷ []) (two SWAP 0 1 ∷ [])
swap_by_cx = carries 2 0 _ _ (unfold test in refl)
