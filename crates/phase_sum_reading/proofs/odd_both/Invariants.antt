-- `phase_sum_reading::odd_both` meets its contract. The loop's invariant: the set is the exclusive or over the terms so far.
-- Assumes nothing.
use mathlib.Core.Path.{◌≡◌}
use Rattle.phase_sum_types.specs.Inner.{odd_both}
use Rattle.phase_sum_types.specs.Workspace.{set_of}
use Rattle.phase_sum_reading.proofs.odd_both.Given as goal

abbrev pub invariant-loop-term : goal.invariant-loop-term
invariant-loop-term l = set_of l.both ≡ odd_both l.i l.j l.yielded
