-- `phase_sum_reading::odd_mask` meets its contract. The loop's invariant: the mask holds the variables that are in terms of odd
-- coefficient among those so far.
-- Assumes nothing.
use mathlib.Core.Path.{◌≡◌}
use Prim.Native.Nat.{ℕ}
use Rattle.amplitude.specs.Bits.{bit}
use Rattle.phase_sum_meaning.specs.Phase.{in_odd}
use Rattle.phase_sum_types.specs.Workspace.{set_of}
use Rattle.phase_sum_reading.proofs.odd_mask.Given as goal

abbrev pub invariant-loop-term : goal.invariant-loop-term
invariant-loop-term l = (v : ℕ) → bit v (set_of l.mask) ≡ in_odd v l.yielded
