-- Worked cases of the definitions, by computation.
-- Assumes nothing.
use mathlib.Core.Path.{◌≡◌, refl}
use Prim.Native.Nat.{ℕ, zero, suc}
use mathlib.Core.List.{List, [], ◌∷◌, ◌++◌}
use mathlib.Core.Option.{Option, none, some}
use lib.IntN.{pos, negsuc}
use lib.ListN.{replicate}
use Rattle.record_format.specs.Gate.{gate_of}
use Rattle.record_format.specs.Row.{first}
use Rattle.record_format.specs.Reading.{raws, record_rows, all_gate_rows, read}
use Rattle.amplitude.specs.Circuit.{tally}
use Rattle.comparison_meaning.specs.Verdict.{equal, different, turned}
use Rattle.record_format.specs.Pair.{PairFault, of_pair}
use Rattle.comparison_types.specs.Call.{pair_fault}
use Rattle.dense_meaning.specs.Columns.{carried_by, unfit_at}
use Rattle.dense_types.specs.Call.{found, says, refuses, block_rows, left_by}

-- the bytes of so many H gates
hadamards : ℕ → List ℕ
hadamards zero = []
hadamards (suc k) = 7 ∷ 0 ∷ 255 ∷ hadamards k

-- a record on n qubits of k H gates
abbrev record_of : ℕ → ℕ → List ℕ
record_of n k = 81 ∷ 67 ∷ n ∷ k ∷ 0 ∷ hadamards k

-- the fault of a pair of such records, if any, in a buffer of m numbers
fault : ℕ → ℕ → ℕ → ℕ → Option PairFault
unfolding hadamards read raws record_rows all_gate_rows gate_of first pair_fault tally
fault n h k m = pair_fault (read (record_of n h)) (read (record_of n k)) (block_rows (record_of n h) (record_of n k) m)

-- 6 qubits pass, 7 get 14
six_qubits : (fault 6 0 0 512 ≡ none) × (fault 7 0 0 512 ≡ some (of_pair 14))
unfolding fault
six_qubits = (refl, refl)

-- 60 H gates pass, in one list or in both, and 61 get 14
sixty_h_gates : (fault 6 60 0 512 ≡ none) × (fault 4 0 60 512 ≡ none) × (fault 3 31 30 512 ≡ some (of_pair 14)) × (fault 3 0 61 512 ≡ some (of_pair 14))
unfolding fault
sixty_h_gates = (refl, refl, refl, refl)

-- 9 stands before 14, and 14 before 10
in_order : (fault 5 124 0 512 ≡ some (of_pair 9)) × (fault 7 121 0 0 ≡ some (of_pair 14)) × (fault 7 122 0 0 ≡ some (of_pair 9))
unfolding fault
in_order = (refl, refl, refl)

-- 512 numbers pass, 511 get 10
buffer_limit : (fault 1 0 0 511 ≡ some (of_pair 10)) × (fault 1 0 0 512 ≡ none)
unfolding fault
buffer_limit = (refl, refl)

-- what is said of a finding: of ω⁰ equal with 0 and 0, of another power turned with it, of an input different with 0 and it
found_agreed : found (carried_by 0) ≡ record { verdict = equal; first = 0; second = 0 }
found_agreed = refl

found-turned : found (carried_by 3) ≡ record { verdict = turned; first = 3; second = 0 }
found-turned = refl

found_unfit : found (unfit_at 5) ≡ record { verdict = different; first = 0; second = 5 }
found_unfit = refl

-- a refused call leaves the buffer as it was
refused_leaves : left_by (refuses (of_pair 14)) (pos 1 ∷ negsuc 2 ∷ []) ≡ pos 1 ∷ negsuc 2 ∷ []
refused_leaves = refl

-- an accepted one leaves 512 zeros, and what stood behind
accepted_leaves : left_by (says (found (carried_by 0))) (replicate 513 (pos 7)) ≡ replicate 512 (pos 0) ++ pos 7 ∷ []
accepted_leaves = refl
