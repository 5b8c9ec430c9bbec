-- What a user may rely on who compares two lists by one: the first list joined in time with the inverse of the second, against the empty list.
-- It is all said of bytes, as the calls write and read them. proofs/Theorems.antt and proofs/Dense.antt prove it.
-- Assumes nothing.
use Rattle.std.specs.Prelude.{◌≡◌, ℕ, List, []}
use Rattle.record_format.specs.Reading.{qubits, accepted, read}
use Rattle.record_format.specs.Answer.{gives}
use Rattle.record_format.specs.Writing.{inverse}
use Rattle.joining_types.specs.Call.{join_in_time}
use Rattle.comparison_types.specs.Call.{comparison}
use Rattle.dense_types.specs.Call.{dense_comparison}

-- the bytes that hold the second list's inverse, once it was written, and those that hold its join behind the first list
module _ (first second spare buffer : List ℕ) where
  -- the inverse of the second list, in a spare buffer
  abbrev pub inverted : List ℕ
  inverted = (inverse second spare).buffer

  -- the first list and then that, in a buffer
  abbrev pub joined : List ℕ
  joined = (join_in_time first inverted buffer).buffer

  -- both were written
  pub record BothWritten : Type 0 where
    pub values : List ℕ
    pub values' : List ℕ
    pub inverts : (inverse second spare).answer ≡ gives values
    pub joins : (join_in_time first inverted buffer).answer ≡ gives values'

-- comparing the first list, joined with the inverse of the second, with the empty list on as many qubits says what comparing the first with the
-- second says, in the same workspaces: the same result with all of its eight fields, and the same refusal where the pair is refused with 9 or 10
abbrev pub JoinedWithInverse : Type 0
JoinedWithInverse =
    (first second spare buffer empty : List ℕ) (w c : ℕ)
    → BothWritten first second spare buffer
    → read empty ≡ accepted (qubits first) []
    → comparison (joined first second spare buffer) empty w c ≡ comparison first second w c

-- so does the dense comparison of the two, with a buffer of the same length: the same verdict with both of its inputs, and the same refusal
-- where the pair is refused with 9, 14 or 10
abbrev pub DenseJoinedWithInverse : Type 0
DenseJoinedWithInverse =
    (first second spare buffer empty : List ℕ) (k : ℕ)
    → BothWritten first second spare buffer
    → read empty ≡ accepted (qubits first) []
    → dense_comparison (joined first second spare buffer) empty k ≡ dense_comparison first second k
