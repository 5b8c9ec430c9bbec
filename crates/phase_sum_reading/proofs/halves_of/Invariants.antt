-- `phase_sum_reading::halves_of` meets its contract. The loop's invariant: the sum mod 8 and the set are those of the terms so far.
-- Assumes nothing.
use mathlib.Core.Path.{◌≡◌}
use Prim.Native.Nat.{◌%◌}
use Rattle.phase_sum_meaning.specs.Stepping as stepping
use Rattle.phase_sum_types.specs.Workspace.{set_of}
use Rattle.phase_sum_reading.proofs.halves_of.Given as goal

abbrev pub invariant-loop-term : goal.invariant-loop-term
invariant-loop-term l = (l.sum ≡ stepping.coeffs l.y l.yielded % 8) × (set_of l.l ≡ stepping.odd_halves l.y l.yielded)
