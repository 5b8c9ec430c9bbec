-- The count never exceeds the places passed.
-- Assumes nothing.
use Rattle.std.proofs.Common.{◌≤◌}
use Rattle.calls_text.proofs.places.Lent.zeros.Given as goal

abbrev pub invariant-loop-i : goal.invariant-loop-i
invariant-loop-i g l = l.zeros ≤ l.i
