-- The room that the terms of a pair may take: document 02, item 11.
-- Assumes nothing.
use Rattle.std.specs.Prelude.{ℕ, ◌+◌, ◌*◌, List}
use Rattle.record_format.specs.Gate.{Gate, one, two, X, Y, Z, S, S†, T, T†, H, CX, CZ, SWAP}
use Rattle.amplitude.specs.Circuit.{tally}

-- 1 for each Y, Z, S, T and inverse of S or T, 3 for each CZ, 4 for each H
unfoldable pub room_for : Gate → ℕ
room_for (one X q) = 0
room_for (one Y q) = 1
room_for (one Z q) = 1
room_for (one S q) = 1
room_for (one S† q) = 1
room_for (one T q) = 1
room_for (one T† q) = 1
room_for (one H q) = 4
room_for (two CX a b) = 0
room_for (two CZ a b) = 3
room_for (two SWAP a b) = 0

-- over both lists
abbrev pub room : List Gate → List Gate → ℕ
room first second = tally room_for first + tally room_for second

-- the limit of number 9, as document 02, item 6, sets it: n and the H gates of both lists together
abbrev pub most_variables : ℕ
most_variables = 128

-- the places of a workspace: a coefficient each, or a set
abbrev pub places : ℕ
places = 3200

-- the words of a set
abbrev pub words_each : ℕ
words_each = 2

-- the words of a workspace
abbrev pub set_words : ℕ
set_words = words_each * places
