-- What the dense comparison answers and what the lent buffer holds afterwards: document 02, items 2 and 4.
-- Assumes nothing.
use Rattle.std.specs.Prelude.{ℕ, ◌+◌, ◌||◌, List, [], ◌∷◌, ◌++◌, drop, replicate, ltb, ℤ, pos, Result as Returned, Ok, Err}
use Rattle.std.proofs.Math.Option.{Option, none, some}
use Rattle.record_format.specs.Gate.{Gate}
use Rattle.record_format.specs.Row.{Row}
use Rattle.record_format.specs.Reading.{qubits, gates, read}
use Rattle.amplitude.specs.Circuit.{h_gates}
use Rattle.comparison_meaning.specs.Verdict.{Verdict, different, agreement}
use Rattle.record_format.specs.Pair.{PairFault, pair_row}
use Rattle.comparison_types.specs.Call.{pair_fault, fault_of, verdict_of}
use Rattle.dense_meaning.specs.Limits.{block_qubits, block_h_gates, buffer_size}
use Rattle.dense_meaning.specs.Columns.{Finding, carried_by, unfit_at, finding}
use Rattle.comparison_types.specs.declared.Refusal.{Refusal}
use Rattle.dense_types.specs.declared.Outcome.{Outcome}

-- what is found: the verdict and its two inputs (of turned: the power of ω, and 0)
pub record Found : Type 0 where
  pub verdict : Verdict
  pub first : ℕ
  pub second : ℕ

-- equal or turned, with the power that fits all columns; else different, with input 0 and the first input at which none is left
abbrev pub found : Finding → Found
found (carried_by j) = record { verdict = agreement j; first = j; second = 0 }
found (unfit_at v) = record { verdict = different; first = 0; second = v }

-- the dense comparison of two lists on n qubits
abbrev pub compare_columns : ℕ → List Gate → List Gate → Found
compare_columns n gs hs = found (finding n gs hs)

-- what the call says: what is found, or why the pair is refused and nothing else
pub data Said : Type 0 where
  says : Found → Said
  refuses : PairFault → Said

-- what an outcome stands for
abbrev pub found_of : Outcome → Found
found_of o = record { verdict = verdict_of o.verdict; first = o.first; second = o.second }

-- what an answer stands for
abbrev pub said_of : Returned Outcome Refusal → Said
said_of (Ok o) = says (found_of o)
said_of (Err r) = refuses (fault_of r)

-- the call's own rows, below those of the pair: 14 where n or the H gates of both lists are too many, 10 where the buffer has too few of
-- its k numbers
abbrev pub block_rows : List ℕ → List ℕ → ℕ → List (Row PairFault)
block_rows s t k =
    pair_row 14 (ltb block_qubits (qubits s) || ltb block_h_gates (h_gates (gates s) + h_gates (gates t)))
    ∷ pair_row 10 (ltb k buffer_size)
    ∷ []

-- the answer, unless a fault stops it
abbrev pub unless_fault : Option PairFault → Said → Said
unless_fault none s = s
unless_fault (some f) s = refuses f

-- what comparing two records says, with a buffer of k numbers
abbrev pub dense_comparison : List ℕ → List ℕ → ℕ → Said
dense_comparison s t k =
    unless_fault (pair_fault (read s) (read t) (block_rows s t k)) (says (compare_columns (qubits s) (gates s) (gates t)))

-- the lent buffer afterwards: unchanged where the call is refused, else zeros in its first 512 places and the others unchanged
abbrev pub left_by : Said → List ℤ → List ℤ
left_by (says r) old = replicate buffer_size (pos 0) ++ drop buffer_size old
left_by (refuses f) old = old
