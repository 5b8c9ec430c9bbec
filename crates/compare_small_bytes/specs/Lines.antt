-- What the program compare_small prints for its input, from bytes to bytes: document 02, items 2 and 4, in the form of document 01, "Pairs to
-- try" and "Where a call is turned down". Of its input it need not read more than pair_bytes' Limits say (`read_far_enough` in
-- Laws.antt).
-- Assumes nothing.
use Rattle.std.specs.Prelude.{ℕ, List}
use Rattle.record_format.specs.Row.{first}
use Rattle.record_format.specs.Reading.{qubits, gates}
use Rattle.dense_meaning.specs.Limits.{buffer_size}
use Rattle.dense_types.specs.declared.Outcome.{Outcome}
use Rattle.dense_types.specs.Call.{says, found_of, compare_columns, block_rows}
use Rattle.pair_bytes.specs.Pair as pair
use Rattle.pair_bytes.specs.Table.{program_table, unless_refused}
use Rattle.dense_line.specs.Line.{line_of}

-- the line of an outcome
abbrev pub outcome_line : Outcome → List ℕ
outcome_line o = line_of (says (found_of o))

-- the line for two files: `refused` and the number of the first row of the program's table that holds for them, with 14 below the pair's
-- numbers; where none does, what comparing all columns of their gates finds. (The row of number 10 never holds: the program's buffer has as
-- many numbers as are needed.)
unfoldable pub pair_line : List ℕ → List ℕ → List ℕ
pair_line s t =
    unless_refused (first (program_table s t (block_rows s t buffer_size))) (line_of (says (compare_columns (qubits s) (gates s) (gates t))))

-- the line for a stream: that of its first record and of what stands directly after it
abbrev pub stream_line : List ℕ → List ℕ
stream_line = pair.stream_line pair_line
