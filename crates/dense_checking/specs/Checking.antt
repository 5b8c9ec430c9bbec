-- What the checks on a call of the dense comparison find, for the contracts of functions that licensees do not call.
-- Assumes nothing.
use Rattle.std.specs.Prelude.{ℕ, ◌≤◌, List, Result, Ok, Err}
use Rattle.std.proofs.Math.Option.{Option, none, some}
use Rattle.record_format.specs.Pair.{PairFault}
use Rattle.comparison_types.specs.Call.{fault_of}
use Rattle.comparison_types.specs.Inner.{GatesRead}
use Rattle.comparison_types.specs.declared.Refusal.{Refusal}
use Rattle.dense_meaning.specs.Limits.{buffer_size}
use Rattle.dense_judging.specs.declared.Lists.{Lists}

-- the fault that was found, if any was
abbrev pub found_fault : Result Lists Refusal → Option PairFault
found_fault (Ok b) = none
found_fault (Err r) = some (fault_of r)

-- a pair that passed as a block: both lists accepted, on its qubits and with its gate bytes, and a buffer of k numbers that is long enough.
-- What its H gates are, and that it is within the limits, the block says itself.
pub record Passes (s t : List ℕ) (k : ℕ) (b : Lists) : Type 0 where
  pub first : GatesRead b.n s b.first.now
  pub second : GatesRead b.n t b.second.now
  pub room : buffer_size ≤ k
