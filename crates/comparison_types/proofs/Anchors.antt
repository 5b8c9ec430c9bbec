-- Worked cases of the definitions, by computation.
-- Assumes nothing.
use mathlib.Core.Path.{◌≡◌, refl}
use Prim.Native.Nat.{ℕ, ◌+◌, ◌≤◌}
use native.Mathlib.Omega.{arith}
use mathlib.Core.List.{List, [], ◌∷◌, ◌++◌}
use mathlib.Core.Option.{Option, none, some}
use lib.ListN.{drop, replicate}
use Rattle.record_format.specs.Format.{last_verdict}
use Rattle.record_format.specs.Gate.{Gate, one, Z, S, T, H}
use Rattle.record_format.specs.Row.{first}
use Rattle.record_format.specs.Reading.{accepted}
use Rattle.amplitude.specs.Circuit.{tally}
use Rattle.comparison_meaning.specs.Verdict as verdict
use Rattle.comparison_meaning.specs.Verdict.{Result, equal, different, undecided, turned, number}
use Rattle.record_format.specs.Pair.{PairFault, of_pair}
use Rattle.phase_sum_meaning.specs.Room.{places, set_words}
use Rattle.comparison_types.specs.Call.{verdict_number, verdict_of, workspace_rows, pair_fault, says, refuses, left_by, Choice, the_first, the_second, choice, picked_at}
use Rattle.comparison_types.specs.declared.Verdict.{Verdict}
use Rattle.comparison_types.specs.declared.Verdict.TheVariants.{Equal, Different, Undecided, Turned}

-- each case of the enum stands for the verdict of its name
pub verdicts_named :
    (verdict_of Equal ≡ equal)
    × ((verdict_of Different ≡ different) × ((verdict_of Undecided ≡ undecided) × (verdict_of Turned ≡ turned)))
verdicts_named = (refl, (refl, (refl, refl)))

-- and has its verdict's number
pub verdict_numbered : (v : Verdict) → number (verdict_of v) ≡ verdict_number v
verdict_numbered Equal = refl
verdict_numbered Different = refl
verdict_numbered Undecided = refl
verdict_numbered Turned = refl

-- which the report's writer takes
pub verdict_known : (v : Verdict) → verdict_number v ≤ last_verdict
verdict_known Equal = omega arith
verdict_known Different = omega arith
verdict_known Undecided = omega arith
verdict_known Turned = omega arith

-- so many H gates
abbrev hadamards : ℕ → List Gate
hadamards k = replicate k (one H 0)

-- the fault that two lists on 16 qubits are refused by, if any, in workspaces of w words and c bytes
abbrev refused_by : ℕ → ℕ → ℕ → ℕ → Option PairFault
refused_by h k w c = pair_fault (accepted 16 (hadamards h)) (accepted 16 (hadamards k)) (workspace_rows w c)

-- the limits of document 02, item 6: 112 H gates pass on 16 qubits, in whichever list, and 113 get 9
pub h_limit :
    (refused_by 112 0 set_words places ≡ none)
    × ((refused_by 20 92 set_words places ≡ none) × ((refused_by 113 0 set_words places ≡ some (of_pair 9)) × (refused_by 20 93 set_words places ≡ some (of_pair 9))))
unfolding pair_fault first tally
h_limit = (refl, (refl, (refl, refl)))

-- one word more than 6,399 and one byte more than 3,199 pass, so many of either get 10, behind 9
pub places_limit :
    (refused_by 0 0 (6399 + 1) (3199 + 1) ≡ none)
    × ((refused_by 0 0 6399 (3199 + 1) ≡ some (of_pair 10)) × ((refused_by 0 0 (6399 + 1) 3199 ≡ some (of_pair 10)) × (refused_by 113 0 0 0 ≡ some (of_pair 9))))
unfolding pair_fault first tally
places_limit = (refl, (refl, (refl, refl)))

-- a refused call leaves a workspace as it was
pub refused_leaves : left_by set_words (refuses (of_pair 8)) (1 ∷ 2 ∷ []) ≡ 1 ∷ 2 ∷ []
refused_leaves = refl

-- an accepted one leaves zeros up to word 6,399 of the sets and byte 3,199 of the coefficients, and what stood behind that
pub accepted_leaves :
    (r : Result) →
    (drop 6399 (left_by set_words (says r) (replicate (6399 + 1) 5 ++ 8 ∷ 9 ∷ [])) ≡ 0 ∷ 8 ∷ 9 ∷ [])
    × (drop 3199 (left_by places (says r) (replicate (3199 + 1) 5 ++ 8 ∷ 9 ∷ [])) ≡ 0 ∷ 8 ∷ 9 ∷ [])
accepted_leaves r = (refl, refl)

-- what the pick chooses of two lists on one qubit that have this verdict
abbrev chosen : verdict.Verdict → List Gate → List Gate → Choice
chosen v gs hs =
    choice
    (says (record { verdict = v; first = 0; second = 0; pins = 0; sums = 0; turns = 0; joins = 0; left = 0 }))
    (accepted 1 gs)
    (accepted 1 hs)

-- T T against S: the second where they are equal, else the first
pub fewer_t_gates :
    (chosen equal (one T 0 ∷ one T 0 ∷ []) (one S 0 ∷ []) ≡ the_second)
    × ((chosen different (one T 0 ∷ one T 0 ∷ []) (one S 0 ∷ []) ≡ the_first)
    × ((chosen undecided (one T 0 ∷ one T 0 ∷ []) (one S 0 ∷ []) ≡ the_first)
    × (chosen turned (one T 0 ∷ one T 0 ∷ []) (one S 0 ∷ []) ≡ the_first)))
unfolding choice tally
fewer_t_gates = (refl, (refl, (refl, refl)))

-- with as many T gates the shorter one, and the first where both are as long
pub on_a_tie :
    (chosen equal (one S 0 ∷ one S 0 ∷ []) (one Z 0 ∷ []) ≡ the_second)
    × ((chosen equal (one Z 0 ∷ []) (one S 0 ∷ one S 0 ∷ []) ≡ the_first) × (chosen equal (one Z 0 ∷ []) (one Z 0 ∷ []) ≡ the_first))
unfolding choice tally
on_a_tie = (refl, (refl, refl))

-- the second record is handed back where the caller has it
pub second_starts : picked_at {B = ℕ} the_second 0 1 ≡ 1
second_starts = refl
