-- Gate bytes in chunks of three, a chunk for each gate: what slices of whole gates stand for.
-- Assumes nothing.
use Rattle.std.specs.Prelude.{ℕ, List, map}
use Rattle.record_format.specs.Gate.{Gate, Raw, raw_of_three, gate_of_three}

-- the chunks by their values
abbrev pub raws_of : List (List ℕ) → List Raw
raws_of chunks = map raw_of_three chunks

-- the gates that they stand for
abbrev pub gates_of : List (List ℕ) → List Gate
gates_of chunks = map gate_of_three chunks
