-- Gate lists as linear maps, exactly: document 01, "Amplitudes". A state gives each output's number its amplitude. H stands
-- without its factor, so the true amplitudes of a list with h H gates are these divided by √2 h times.
-- Assumes nothing.
use Rattle.std.specs.Prelude.{◌≡◌, ℕ, ◌+◌, ◌^◌, ◌<◌, true, false, cond, ◌&&◌, List, [], ◌∷◌, eqb}
use Rattle.std.specs.Bool.{xor}
use Rattle.record_format.specs.Gate.{Gate, one, two, X, Y, Z, S, S†, T, T†, H, CX, CZ, SWAP}
use Rattle.amplitude.specs.Number.{Zω, 0ω, 1ω, ◌+ω◌, ω^, √2^}
use Rattle.amplitude.specs.Bits.{bit, put}
use Rattle.amplitude.specs.Matrix.{matrix, entry, times}

-- an amplitude for each output's number
abbrev pub State : Type 0
State = ℕ → Zω

-- the state of one input: 1 there, 0 elsewhere
unfoldable pub basis : ℕ → State
basis v w = cond (eqb v w) 1ω 0ω

-- what a gate makes of a state: a one-qubit gate by its matrix; CX flips b where a is 1; CZ negates where both are 1; SWAP
-- exchanges the two bits
unfoldable pub apply : Gate → State → State
apply (one u q) ψ w =
    times (entry (matrix u) (bit q w) false) (ψ (put q false w)) +ω times (entry (matrix u) (bit q w) true) (ψ (put q true w))
apply (two CX a b) ψ w = ψ (put b (xor (bit a w) (bit b w)) w)
apply (two CZ a b) ψ w = cond (bit a w && bit b w) (ω^ 4 (ψ w)) (ψ w)
apply (two SWAP a b) ψ w = ψ (put a (bit b w) (put b (bit a w) w))

-- gates run in list order
unfoldable pub run : List Gate → State → State
run [] ψ = ψ
run (g ∷ gs) ψ = run gs (apply g ψ)

-- column v: the list's amplitudes from input v
unfoldable pub column : List Gate → ℕ → State
column gs v = run gs (basis v)

-- a weight, added up over the gates of a list
unfoldable pub tally : (Gate → ℕ) → List Gate → ℕ
tally weight [] = 0
tally weight (g ∷ gs) = weight g + tally weight gs

-- 1 for an H gate
abbrev pub is_h : Gate → ℕ
is_h (one X q) = 0
is_h (one Y q) = 0
is_h (one Z q) = 0
is_h (one S q) = 0
is_h (one S† q) = 0
is_h (one T q) = 0
is_h (one T† q) = 0
is_h (one H q) = 1
is_h (two CX a b) = 0
is_h (two CZ a b) = 0
is_h (two SWAP a b) = 0

-- 1 for a T gate or its inverse
abbrev pub is_t : Gate → ℕ
is_t (one X q) = 0
is_t (one Y q) = 0
is_t (one Z q) = 0
is_t (one S q) = 0
is_t (one S† q) = 0
is_t (one T q) = 1
is_t (one T† q) = 1
is_t (one H q) = 0
is_t (two CX a b) = 0
is_t (two CZ a b) = 0
is_t (two SWAP a b) = 0

-- the H gates of a list
abbrev pub h_gates : List Gate → ℕ
h_gates gs = tally is_h gs

-- and its T gates
abbrev pub t_gates : List Gate → ℕ
t_gates gs = tally is_t gs

-- ω^j carries column v of the first list to that of the second, over the outputs of n qubits: the first multiplied by √2 as
-- often as the second has H gates, and the other way round
abbrev pub Fits : ℕ → ℕ → List Gate → List Gate → ℕ → Type 0
Fits n j first second v =
    (w : ℕ) → w < 2 ^ n → ω^ j (√2^ (h_gates second) (column first v w)) ≡ √2^ (h_gates first) (column second v w)

-- ω^j carries the first list to the second: every amplitude, at every input and output of n qubits
abbrev pub Carries : ℕ → ℕ → List Gate → List Gate → Type 0
Carries n j first second = (v : ℕ) → v < 2 ^ n → Fits n j first second v
