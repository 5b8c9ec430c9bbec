-- What the counts count, for the contracts of private functions.
-- Assumes nothing.
use Rattle.std.specs.Prelude.{Bool, eqb}
use Rattle.record_format.specs.Gate.{Gate}
use Rattle.amplitude.specs.Circuit.{is_h, is_t}

-- is it an H?
abbrev pub counts_h : Gate → Bool
counts_h g = eqb (is_h g) 1

-- is it a T or the inverse of one?
abbrev pub counts_t : Gate → Bool
counts_t g = eqb (is_t g) 1
