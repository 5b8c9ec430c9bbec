-- The line that the program compare prints, as ASCII bytes: document 01, "Pairs to try" and "Where a call is turned down".
-- Assumes nothing.
use Rattle.std.specs.Prelude.{ℕ, List, [], ◌∷◌}
use Rattle.record_format.specs.Pair.{number_in}
use Rattle.comparison_types.specs.Call.{Said, says, refuses}
use Rattle.line_bytes.specs.Line.{line_with, refused_line}
use Rattle.comparison_types.specs.Call.{verdict_word}

-- the line of what a comparison says: the verdict, the two inputs and the five counts, or that of the refusal's number; neither the list
-- nor the gate's index is shown
abbrev pub line_of : Said → List ℕ
line_of (says r) =
    line_with
    (verdict_word r.verdict)
    (r.first ∷ r.second ∷ r.pins ∷ r.sums ∷ r.turns ∷ r.joins ∷ r.left ∷ [])
line_of (refuses f) = refused_line (number_in f)
