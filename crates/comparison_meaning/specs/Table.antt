-- Pairs of gate lists with the result of their comparison: document 01's rows marked P, as item 4 of document 02 has them, rows that tell the
-- choices of its steps apart, and rows of every power of ω. proofs/Anchors.antt proves them by computation.
-- Assumes nothing.
use Rattle.std.specs.Prelude.{◌≡◌, ℕ, zero, suc, List, [], ◌∷◌}
use Rattle.record_format.specs.Gate.{Gate, one, two, X, Y, Z, S, S†, T, T†, H, CX, CZ, SWAP}
use Rattle.comparison_meaning.specs.Verdict.{Verdict, equal, different, undecided, turned, Result, compare}

-- two lists on n qubits, and what their comparison gives
pub record Case : Type 0 where
  pub n : ℕ
  pub first : List Gate
  pub second : List Gate
  pub expected : Result

-- a case by its parts
abbrev pub case : ℕ → List Gate → List Gate → Result → Case
case n first second expected = record { n = n; first = first; second = second; expected = expected }

-- a verdict, its two inputs, then pins, sums, turns, joins and left
abbrev pub says : Verdict → ℕ → ℕ → ℕ → ℕ → ℕ → ℕ → ℕ → Result
says v a b p s t j l = record { verdict = v; first = a; second = b; pins = p; sums = s; turns = t; joins = j; left = l }

-- the comparison gives what each case expects
abbrev pub AllRight : List Case → Type 0
AllRight [] = Unit {0}
AllRight (r ∷ rs) = (compare 0 r.n r.first r.second ≡ r.expected) × AllRight rs

-- document 01's rows marked P
abbrev pub rows : List Case
rows =
    -- no gates
    case 1 [] [] (says equal 0 0 0 0 0 0 0)
    -- H: pins and sums differ
    ∷ case 1 (one H 0 ∷ []) [] (says different 0 0 1 0 0 0 0)
    -- H H
    ∷ case 1 (one H 0 ∷ one H 0 ∷ []) [] (says equal 0 0 1 1 0 0 0)
    -- H H H H
    ∷ case 1 (one H 0 ∷ one H 0 ∷ one H 0 ∷ one H 0 ∷ []) [] (says equal 0 0 1 1 0 1 0)
    -- S H S H S H
    ∷ case 1 (one S 0 ∷ one H 0 ∷ one S 0 ∷ one H 0 ∷ one S 0 ∷ one H 0 ∷ []) [] (says turned 7 0 1 1 1 0 0)
    -- T T and S
    ∷ case 1 (one T 0 ∷ one T 0 ∷ []) (one S 0 ∷ []) (says equal 0 0 0 0 0 0 0)
    -- T
    ∷ case 1 (one T 0 ∷ []) [] (says different 0 1 0 0 0 0 0)
    -- X
    ∷ case 1 (one X 0 ∷ []) [] (says different 0 0 0 0 0 0 0)
    -- H Z H: blocked at a step, whose variable is still left
    ∷ case 1 (one H 0 ∷ one Z 0 ∷ one H 0 ∷ []) [] (says different 0 0 1 0 0 0 1)
    -- H T H
    ∷ case 1 (one H 0 ∷ one T 0 ∷ one H 0 ∷ []) [] (says undecided 0 0 1 0 0 0 1)
    ∷ []

-- Z on qubit 2 where qubits 0 and 1 are 1
abbrev pub doubly_controlled_z : List Gate
doubly_controlled_z =
    one T 0
    ∷ one T 1
    ∷ one T 2
    ∷ two CX 0 1
    ∷ one T† 1
    ∷ two CX 0 1
    ∷ two CX 1 2
    ∷ one T† 2
    ∷ two CX 0 2
    ∷ one T 2
    ∷ two CX 1 2
    ∷ one T† 2
    ∷ two CX 0 2
    ∷ []

-- a list on two qubits whose comparison with itself is undecided
abbrev pub undecided_with_itself : List Gate
undecided_with_itself =
    one H 0 ∷ one H 1 ∷ one T 0 ∷ two CX 1 0 ∷ one H 1 ∷ two CX 1 0 ∷ one H 0 ∷ []

-- rows that show which of several comes first, what is done before what, and what a quick hand would miss
abbrev pub choices : List Case
choices =
    -- two variables are ready: the lowest
    case 1 (one H 0 ∷ one S† 0 ∷ one H 0 ∷ one H 0 ∷ []) [] (says different 0 0 1 0 2 0 0)
    -- two path variables could be replaced in a join: the lowest
    ∷ case 2 (one H 1 ∷ two CX 1 0 ∷ one H 0 ∷ one H 0 ∷ one H 0 ∷ one H 1 ∷ one S 1 ∷ one H 1 ∷ []) [] (says different 0 0 2 0 0 2 0)
    -- two path variables could be replaced in a pin: the lowest
    ∷ case 3 (one H 1 ∷ one H 2 ∷ one H 0 ∷ two CX 1 0 ∷ one H 2 ∷ one H 1 ∷ []) [] (says different 1 1 3 1 0 0 1)
    -- a blocked parity holds two qubits: the input of the lowest is shown
    ∷ case 3 (two SWAP 2 1 ∷ []) [] (says different 2 2 0 0 0 0 0)
    -- two inputs of weight 2 differ, 6 and 9: the lower number
    ∷ case 4 (two CZ 0 3 ∷ two CZ 1 2 ∷ []) [] (says different 0 6 0 0 0 0 0)
    -- a pin replaces its variable in the wires that are pinned after it
    ∷ case 3 (one H 1 ∷ two CX 1 2 ∷ []) [] (says different 2 2 1 0 0 0 0)
    -- a variable is ready once T and its inverse are merged
    ∷ case 1 (one H 0 ∷ one T 0 ∷ one T† 0 ∷ one H 0 ∷ []) [] (says equal 0 0 1 1 0 0 0)
    -- pinning is blocked at qubits 0 and 2: it goes from qubit 0 upwards
    ∷ case 4 (two SWAP 0 1 ∷ two SWAP 2 3 ∷ []) [] (says different 1 1 0 0 0 0 0)
    -- T on a complemented parity turns back: with T on the parity itself only a common power of ω is left
    ∷ case 1 (one X 0 ∷ one T 0 ∷ one X 0 ∷ one T 0 ∷ []) [] (says turned 7 0 0 0 0 0 0)
    -- a doubly controlled Z differs from nothing only at the input of weight 3
    ∷ case 3 doubly_controlled_z [] (says different 0 7 0 0 0 0 0)
    -- S in the second list is undone by its inverse
    ∷ case 1 (one S 0 ∷ []) (one S 0 ∷ []) (says equal 0 0 0 0 0 0 0)
    -- a list may be undecided against itself: the steps go by the sum, and do not see that the lists are the same
    ∷ case 2 undecided_with_itself undecided_with_itself (says undecided 0 0 2 0 0 1 4)
    ∷ []

-- X T X T, k times: ω to the power k
abbrev pub turns_of : ℕ → List Gate
turns_of zero = []
turns_of (suc k) = one X 0 ∷ one T 0 ∷ one X 0 ∷ one T 0 ∷ turns_of k

-- rows of every power of ω: which one is shown, and in which direction
abbrev pub powers : List Case
powers =
    case 1 (turns_of 1) [] (says turned 7 0 0 0 0 0 0)
    ∷ case 1 (turns_of 2) [] (says turned 6 0 0 0 0 0 0)
    ∷ case 1 (turns_of 3) [] (says turned 5 0 0 0 0 0 0)
    ∷ case 1 (turns_of 4) [] (says turned 4 0 0 0 0 0 0)
    ∷ case 1 (turns_of 5) [] (says turned 3 0 0 0 0 0 0)
    ∷ case 1 (turns_of 6) [] (says turned 2 0 0 0 0 0 0)
    ∷ case 1 (turns_of 7) [] (says turned 1 0 0 0 0 0 0)
    ∷ case 1 (turns_of 8) [] (says equal 0 0 0 0 0 0 0)
    -- the lists exchanged: the inverse power
    ∷ case 1 [] (turns_of 1) (says turned 1 0 0 0 0 0 0)
    -- Y has its factor ω²: Z X without it
    ∷ case 1 (one Z 0 ∷ one X 0 ∷ []) (one Y 0 ∷ []) (says turned 2 0 0 0 0 0 0)
    ∷ case 1 (one Y 0 ∷ []) (one Z 0 ∷ one X 0 ∷ []) (says turned 6 0 0 0 0 0 0)
    -- and is its own inverse exactly
    ∷ case 1 (one Y 0 ∷ one Y 0 ∷ []) [] (says equal 0 0 0 0 0 0 0)
    ∷ []
