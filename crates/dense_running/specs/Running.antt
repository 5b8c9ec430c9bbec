-- Lists of gates run on a column: when a column is ready for them.
-- Assumes nothing.
use Rattle.std.specs.Prelude.{ℕ, ◌-◌, ◌≤◌, List, ℤ}
use Rattle.record_format.specs.Gate.{Gate, AllWithin}
use Rattle.amplitude.specs.Circuit.{h_gates}
use Rattle.dense_numbers.specs.Numbers.{most_doublings}
use Rattle.dense_columns.specs.Columns.{amplitude_at, AllSized}

-- a column of n qubits is ready for gates: they are on its qubits, and even when each H gate among them has doubled its numbers, none is
-- too large
pub record Ready (n : ℕ) (gs : List Gate) (xs : List (List ℤ)) : Type 0 where
  pub within : AllWithin n gs
  pub few : h_gates gs ≤ most_doublings
  pub sized : AllSized n (most_doublings - h_gates gs) (amplitude_at xs)
