-- How far a program reads its input, and that this is far enough.
-- Assumes nothing.
use Rattle.std.specs.Prelude.{◌≡◌, ℕ, ◌+◌, ◌*◌, List, take}
use Rattle.record_format.specs.Format.{most_gates}
use Rattle.record_format.specs.Reading.{size}
use Rattle.pair_bytes.specs.Pair.{stream_line}

-- the bytes of a file that are read: those of the longest record, and one more, which tells that others follow
abbrev pub input_size : ℕ
input_size = size most_gates + 1

-- those of a stream: two such records, and one byte more
abbrev pub stream_size : ℕ
stream_size = 2 * size most_gates + 1

-- a program that prints `line s t` for two records reads far enough: of any two files, and of any stream, the bytes that are read print what
-- all bytes would. (A law of each `Comparison`; it follows from `far_enough` in proofs/Laws.antt.)
pub record ReadFarEnough (line : List ℕ → List ℕ → List ℕ) : Type 0 where
  pub files : (s t : List ℕ) → line (take input_size s) (take input_size t) ≡ line s t
  pub stream : (s : List ℕ) → stream_line line (take stream_size s) ≡ stream_line line s
