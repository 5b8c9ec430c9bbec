-- The demands for two records: whatever bytes two accepted records on n qubits hold, their comparison meets them, and their terms fit
-- the places of a workspace.
-- Assumes nothing.
use Prim.Native.Nat.{ℕ}
use mathlib.Core.List.{List}
use Rattle.record_format.specs.Gate.{Gate}
use Rattle.record_format.specs.Promises.{WellFormed}
use Rattle.record_format.proofs.Theorems.{accepted_is_sound}
use Rattle.phase_sum_meaning.proofs.Roominess.{room_fits}
use Rattle.comparison_meaning.specs.Demands.{Accepted, PairFits, Demands}
use Rattle.comparison_meaning.proofs.Theorems.{demands}

module _ (s t : List ℕ) (n : ℕ) (first second : List Gate) (pair : Accepted s t n first second) where
  -- the first record is sound
  sound_first : WellFormed s n first
  sound_first = accepted_is_sound s n first pair.reads_first

  -- and the second
  sound_second : WellFormed t n second
  sound_second = accepted_is_sound t n second pair.reads_second

  -- all demands
  pub demands_pair : Demands n first second
  demands_pair = demands n first second sound_first.within sound_second.within

  -- the places of a workspace are enough
  pub room_fits_pair : PairFits n first second
  room_fits_pair = room_fits n first second sound_first.few_gates sound_second.few_gates sound_first.some_qubit
