-- The two records that a program gets, of two files or in one stream, and the bytes behind them: document 01, "Pairs to try" and number 12 of
-- "Where a call is turned down".
-- Assumes nothing.
use Rattle.std.specs.Prelude.{ℕ, min, Bool, ◌||◌, List, ltb, length, take, drop}
use Rattle.record_format.specs.Reading.{count, size}

-- bytes follow the record at the start of a list, as its head says
abbrev pub goes_on : List ℕ → Bool
goes_on s = ltb (size (count s)) (length s)

-- bytes follow one of two records. (Of a stream's two records only the second can have some behind it: `only_the_second` in
-- proofs/Cutting.antt.)
abbrev pub follow : List ℕ → List ℕ → Bool
follow s t = goes_on s || goes_on t

-- how many bytes the record at the start of a list has, as its head says; all bytes where the record is cut
abbrev pub own_size : List ℕ → ℕ
own_size s = min (size (count s)) (length s)

-- a stream's first record
abbrev pub first_of : List ℕ → List ℕ
first_of s = take (own_size s) s

-- and the second, directly after the first, with all that follows
abbrev pub second_of : List ℕ → List ℕ
second_of s = drop (own_size s) s

-- what a program prints for a stream, by what it prints for two records: that of its first record and of what stands directly after it
abbrev pub stream_line : (List ℕ → List ℕ → List ℕ) → List ℕ → List ℕ
stream_line pair_line s = pair_line (first_of s) (second_of s)
