-- `comparison::comparing::reduce_end` meets its contract: a blocked end stays as it is, any other is reduced.
-- Assumes nothing.
use mathlib.Core.Path.{sym, ap}
use Rattle.phase_sum_types.specs.Workspace.{parity_of, lent}
use Rattle.comparison_meaning.specs.Reduction.{reduce_end}
use Rattle.comparison_types.specs.Inner.{end_of, blocked_by}
use Rattle.comparison_types.proofs.VerdictLaws.{reduce_blocked}
use Rattle.comparison.proofs.comparing.reduce_end.Goals as goal

pub returns-in-Some : goal.returns-in-Some
returns-in-Some c =
    let a = c.args in
    let end = end_of a.pinned (lent a.wires.now a.sets.now a.coeffs.now) in
    record { end = sym (reduce_blocked end (parity_of c.in-Some.field-0) (ap blocked_by c.in-Some.is)); sized = c.requires.1 }

pub returns-in-None : goal.returns-in-None
unfolding reduce_end
returns-in-None c = record { end = rw c.in-None.is c.reduce.ensures.end; sized = c.reduce.ensures.sized }
