-- The limits of the dense comparison: document 02, item 2.
-- Assumes nothing.
use Rattle.std.specs.Prelude.{ℕ}

-- the qubits of the largest block
abbrev pub block_qubits : ℕ
block_qubits = 6

-- the H gates that its two lists may have together
abbrev pub block_h_gates : ℕ
block_h_gates = 60

-- the numbers that are needed: a column of 64 amplitudes of four numbers for each list
abbrev pub buffer_size : ℕ
buffer_size = 512
