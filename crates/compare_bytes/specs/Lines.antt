-- What the program compare prints for its input, from bytes to bytes: document 01, "Pairs to try" and "Where a call is turned down". Of its
-- input it need not read more than pair_bytes' Limits say (`read_far_enough` in Laws.antt).
-- Assumes nothing.
use Rattle.std.specs.Prelude.{ℕ, List, []}
use Rattle.record_format.specs.Row.{first}
use Rattle.record_format.specs.Reading.{qubits, gates}
use Rattle.comparison_meaning.specs.Verdict.{compare}
use Rattle.comparison_types.specs.declared.Outcome.{Outcome}
use Rattle.comparison_types.specs.Call.{says, result_of}
use Rattle.pair_bytes.specs.Pair as pair
use Rattle.pair_bytes.specs.Table.{program_table, unless_refused}
use Rattle.result_line.specs.Line.{line_of}

-- the line of an outcome
abbrev pub outcome_line : Outcome → List ℕ
outcome_line o = line_of (says (result_of o))

-- the line for two files: `refused` and the number of the first row of the program's table that holds for them; where none does, the result
-- of comparing their gates. (Number 10 has no row: the program's workspaces have all places that are needed.)
unfoldable pub pair_line : List ℕ → List ℕ → List ℕ
pair_line s t = unless_refused (first (program_table s t [])) (line_of (says (compare 0 (qubits s) (gates s) (gates t))))

-- the line for a stream: that of its first record and of what stands directly after it
abbrev pub stream_line : List ℕ → List ℕ
stream_line = pair.stream_line pair_line
