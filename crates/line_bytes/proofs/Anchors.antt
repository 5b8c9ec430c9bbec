-- Worked cases of a line, by computation.
-- Assumes nothing.
use mathlib.Core.Path.{◌≡◌, refl}
use Rattle.std.specs.Prelude.{codes}
use Rattle.line_bytes.specs.Line.{digits, refused_line}

-- of number 12
pub refused_line_lem : refused_line 12 ≡ codes "refused 12\n"
unfolding digits
refused_line_lem = refl
