-- The table of document 01, "Where a call is turned down", for a program: that of the comparison with the row of number 12, "program, after
-- both records".
-- Assumes nothing.
use Rattle.std.specs.Prelude.{ℕ, List, ◌∷◌, ◌++◌, map}
use Rattle.std.proofs.Math.Option.{Option, none, some}
use Rattle.record_format.specs.Row.{Row, told}
use Rattle.record_format.specs.Reading.{qubits, gates, record_rows}
use Rattle.record_format.specs.Pair.{PairFault, in_first, in_second, number_in, pair_row}
use Rattle.comparison_types.specs.Call.{pair_rows}
use Rattle.line_bytes.specs.Line.{refused_line}
use Rattle.pair_bytes.specs.Pair.{follow}

-- the table for two records: the checks on the first list, those on the second, then 12 where bytes follow, then those on the pair, 8 and
-- 9, and the rows that a comparison has below them
abbrev pub program_table : List ℕ → List ℕ → List (Row PairFault) → List (Row PairFault)
program_table s t below =
    map (told in_first) (record_rows s)
    ++ map (told in_second) (record_rows t)
    ++ (pair_row 12 (follow s t) ∷ (pair_rows (qubits s) (qubits t) (gates s) (gates t) ++ below))

-- the line that is printed, unless a row refuses the pair: then `refused` and the row's number
abbrev pub unless_refused : Option PairFault → List ℕ → List ℕ
unless_refused none line = line
unless_refused (some f) line = refused_line (number_in f)
