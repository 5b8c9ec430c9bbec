-- Calls on two records: why such a call is refused, and which of the two lists is to blame. The comparisons and the joins refuse by these.
-- Assumes nothing.
use Rattle.std.specs.Prelude.{ℕ, Bool, List, ◌++◌, map}
use Rattle.record_format.specs.Row.{Fault, Row, told}
use Rattle.record_format.specs.Reading.{record_rows}

-- a fault of the first list or of the second, or a number of the two together and of what is lent beside them
pub data PairFault : Type 0 where
  in_first in_second : Fault → PairFault
  of_pair : ℕ → PairFault

-- its number
abbrev pub number_in : PairFault → ℕ
number_in (in_first f) = f.number
number_in (in_second f) = f.number
number_in (of_pair k) = k

-- a row of the table for two records together
abbrev pub pair_row : ℕ → Bool → Row PairFault
pair_row k c = record { fault = of_pair k; when = c }

-- a table for two records: the checks on the first, those on the second, and the rows below them
abbrev pub both_rows : List ℕ → List ℕ → List (Row PairFault) → List (Row PairFault)
both_rows s t below = map (told in_first) (record_rows s) ++ map (told in_second) (record_rows t) ++ below
