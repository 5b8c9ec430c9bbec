-- `comparison_reducing::reduce` meets its contract: a step leaves the slices as long as it found them, so the words stay level; and reducing ends where no variable is ready, where a step is blocked, or where no step is left.
-- Assumes nothing.
use mathlib.Core.Path.{sym}
use native.Mathlib.Omega.{arith}
use Rattle.comparison_types.proofs.StepCases.{ready_member, going_few, going_spent, going_idle, going_on, going_blocked}
use Rattle.comparison_reducing.proofs.reduce.Goals as goal

pub step-requires : goal.step-requires
step-requires c =
    let inv = c.loop.invariant in
    let member = ready_member _ _ _ (sym c.in-Some.ensures) in
    (member.0, going_few inv.0, inv.0.sized, inv.1)

pub returns-in-Err : goal.returns-in-Err
returns-in-Err c =
    rw c.blocked_at.ensures
    (going_blocked _ _ _ _ _ c.loop.invariant.0 _ _ (omega arith) (sym (rw c.new.ensures at c.in-Some.ensures)) c.in-Err.ensures)

pub loop-preserved : goal.loop-preserved
loop-preserved c =
    let kept = c.step.auto in (
      going_on _ _ _ _ _ c.loop.invariant.0 _ _ (omega arith) (sym (rw c.new.ensures at c.in-Some.ensures)) c.in-Ok.ensures,
      omega (arith, c.loop.invariant.1, kept.sets, kept.coeffs),
    )

pub returns : goal.returns
returns c = rw c.stops_at-2.ensures (going_spent _ _ _ _ _ c.loop.invariant.0 (omega arith))

pub returns-in_default : goal.returns-in_default
returns-in_default c =
    rw c.stops_at.ensures (going_idle _ _ _ _ _ c.loop.invariant.0 (sym (rw c.new.ensures at c.in_default.ensures)))
