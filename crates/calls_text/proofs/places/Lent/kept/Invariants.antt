-- The count never exceeds the places passed, nor those that there are.
-- Assumes nothing.
use Rattle.std.proofs.Common.{◌≤◌, ◌-◌}
use Rattle.calls_text.proofs.places.Lent.kept.Given as goal

abbrev pub invariant-loop-i : goal.invariant-loop-i
invariant-loop-i g l = (l.kept ≤ l.i - l.from) × (l.kept ≤ l.end - l.from)
