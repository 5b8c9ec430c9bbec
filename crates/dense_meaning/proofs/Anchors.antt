-- Worked cases of the definitions, by computation: the limits, and what comparing all columns finds: which power carries them all, or which
-- input is the first at which no power fits all columns up to it.
-- Assumes nothing.
use mathlib.Core.Path.{◌≡◌, refl}
use Prim.Native.Nat.{ℕ, ◌*◌, ◌^◌}
use mathlib.Core.Bool.{xor}
use mathlib.Core.List.{List, [], ◌∷◌}
use Rattle.record_format.specs.Gate.{Gate, one, two, X, Y, Z, S, T, H, CX, CZ, one_qubit_kind}
use Rattle.amplitude.specs.Number.{whole, 0ω, 1ω, ◌+ω◌, neg, mulω, ω^, mul√2, √2^}
use Rattle.amplitude.specs.Bits.{bit, put}
use Rattle.amplitude.specs.Matrix.{matrix, entry, times}
use Rattle.amplitude.specs.Circuit.{basis, apply, run, column, tally}
use Rattle.amplitude.specs.Testing.{eq_ℤ, eqω, below, carries_state}
use Rattle.dense_meaning.specs.Limits.{block_qubits, block_h_gates, buffer_size}
use Rattle.dense_meaning.specs.Columns.{some_of, first_below, Finding, carried_by, unfit_at, finding}

-- the limits: a column of four numbers an amplitude, for each of two lists on the most qubits, fills the buffer
limits : (block_qubits ≡ 6) × (block_h_gates ≡ 60) × (buffer_size ≡ 2 * (4 * 2 ^ block_qubits))
limits = (refl, refl, refl)

-- what is found, computed
shown : ℕ → List Gate → List Gate → Finding
unfolding eq_ℤ eqω below carries_state some_of first_below whole 0ω 1ω ◌+ω◌ neg mulω mul√2 ω^ √2^ bit put matrix entry times basis apply run column tally one_qubit_kind xor
shown n first second = finding n first second

-- nothing against nothing: ω⁰
nothing : shown 1 [] [] ≡ carried_by 0
unfolding shown
nothing = refl

-- H twice is nothing, and not without the scaling
hh : shown 1 (one H 0 ∷ one H 0 ∷ []) [] ≡ carried_by 0
unfolding shown
hh = refl

-- Y twice is nothing
yy : shown 1 (one Y 0 ∷ one Y 0 ∷ []) [] ≡ carried_by 0
unfolding shown
yy = refl

-- the power need not be 0: Z then X is Y but for ω², and X then Z but for ω⁶
zx : shown 1 (one Z 0 ∷ one X 0 ∷ []) (one Y 0 ∷ []) ≡ carried_by 2
unfolding shown
zx = refl

xz : shown 1 (one X 0 ∷ one Z 0 ∷ []) (one Y 0 ∷ []) ≡ carried_by 6
unfolding shown
xz = refl

-- it carries the first list to the second: with the lists exchanged, 2 becomes 6
y_zx : shown 1 (one Y 0 ∷ []) (one Z 0 ∷ one X 0 ∷ []) ≡ carried_by 6
unfolding shown
y_zx = refl

-- and 7 becomes 1: X T twice against nothing, and nothing against that
xtxt : shown 1 (one X 0 ∷ one T 0 ∷ one X 0 ∷ one T 0 ∷ []) [] ≡ carried_by 7
unfolding shown
xtxt = refl

nothing_xtxt : shown 1 [] (one X 0 ∷ one T 0 ∷ one X 0 ∷ one T 0 ∷ []) ≡ carried_by 1
unfolding shown
nothing_xtxt = refl

-- ω⁷ too, with H gates: S H three times
shshsh : shown 1 (one S 0 ∷ one H 0 ∷ one S 0 ∷ one H 0 ∷ one S 0 ∷ one H 0 ∷ []) [] ≡ carried_by 7
unfolding shown
shshsh = refl

-- X moves input 0
x : shown 1 (one X 0 ∷ []) [] ≡ unfit_at 0
unfolding shown
x = refl

-- T does so only at input 1
t : shown 1 (one T 0 ∷ []) [] ≡ unfit_at 1
unfolding shown
t = refl

-- columns 0, 1 and 2 fit the power 0 and column 3 does not
cz_and_z : shown 3 (two CZ 0 1 ∷ one Z 2 ∷ []) [] ≡ unfit_at 3
unfolding shown
cz_and_z = refl

-- H on one qubit leaves no power at once
h_cx : shown 3 (one H 1 ∷ two CX 1 2 ∷ []) [] ≡ unfit_at 0
unfolding shown
h_cx = refl

-- what the steps of document 01 leave undecided
hth : shown 1 (one H 0 ∷ one T 0 ∷ one H 0 ∷ []) [] ≡ unfit_at 0
unfolding shown
hth = refl
