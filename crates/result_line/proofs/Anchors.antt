-- Worked cases of the line, by computation.
-- Assumes nothing.
use mathlib.Core.Path.{◌≡◌, refl}
use Rattle.std.specs.Prelude.{codes}
use lib.ListN.{length}
use Rattle.comparison_meaning.specs.Verdict.{turned, different, undecided}
use Rattle.record_format.specs.Row.{fault, fault_at}
use Rattle.record_format.specs.Pair.{in_first, in_second}
use Rattle.comparison_types.specs.Call.{says, refuses}
use Rattle.line_bytes.specs.Line.{digits, refused_line}
use Rattle.result_line.specs.Line.{line_of}

-- document 01's example, since document 02's item 4
pub example_line :
    line_of (says (record { verdict = turned; first = 7; second = 0; pins = 1; sums = 1; turns = 1; joins = 0; left = 0 }))
    ≡ codes "turned 7 0 1 1 1 0 0\n"
unfolding digits
example_line = refl

-- the line of a bad gate is that of its number, whichever list and gate it is, and so is that of a short body
pub number-alone :
    (line_of (refuses (in_first (fault_at 0 6))) ≡ refused_line 6)
    × ((line_of (refuses (in_second (fault_at 511 6))) ≡ refused_line 6) × (line_of (refuses (in_second (fault 13))) ≡ refused_line 13))
number-alone = (refl, (refl, refl))

-- seven different numbers in their order
pub ordered_line :
    line_of
    (says
    (record {
      verdict = different;
      first = 0;
      second = 3;
      pins = 12;
      sums = 345;
      turns = 6789;
      joins = 65535;
      left = 255;
    }))
    ≡ codes "different 0 3 12 345 6789 65535 255\n"
unfolding digits
ordered_line = refl

-- the longest line, of an undecided pair, has 42 bytes
pub longest_line :
    length
    (line_of
    (says
    (record {
      verdict = undecided;
      first = 65535;
      second = 65535;
      pins = 255;
      sums = 255;
      turns = 255;
      joins = 255;
      left = 255;
    })))
    ≡ 42
unfolding digits
longest_line = refl
