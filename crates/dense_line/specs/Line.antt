-- The line that the program of the dense comparison prints, as ASCII bytes: document 02, items 2 and 4, in the form of document 01, "Pairs to
-- try".
-- Assumes nothing.
use Rattle.std.specs.Prelude.{ℕ, List, [], ◌∷◌}
use Rattle.record_format.specs.Pair.{number_in}
use Rattle.dense_types.specs.Call.{Said, says, refuses}
use Rattle.line_bytes.specs.Line.{line_with, refused_line}
use Rattle.comparison_types.specs.Call.{verdict_word}

-- the line of what the dense comparison says: the verdict and the two inputs, or that of the refusal's number
abbrev pub line_of : Said → List ℕ
line_of (says r) = line_with (verdict_word r.verdict) (r.first ∷ r.second ∷ [])
line_of (refuses f) = refused_line (number_in f)
