-- Worked cases of the line, by computation.
-- Assumes nothing.
use mathlib.Core.Path.{◌≡◌, refl}
use Rattle.std.specs.Prelude.{codes}
use Rattle.dense_meaning.specs.Columns.{carried_by, unfit_at}
use Rattle.dense_types.specs.Call.{found, says}
use Rattle.line_bytes.specs.Line.{digits}
use Rattle.dense_line.specs.Line.{line_of}

-- where all amplitudes agree
pub equal_line : line_of (says (found (carried_by 0))) ≡ codes "equal 0 0\n"
unfolding digits
equal_line = refl

-- where ω⁷ carries the first list to the second
pub turned_line : line_of (says (found (carried_by 7))) ≡ codes "turned 7 0\n"
unfolding digits
turned_line = refl

-- where no power is left at the last input on six qubits
pub different_line : line_of (says (found (unfit_at 63))) ≡ codes "different 0 63\n"
unfolding digits
different_line = refl
