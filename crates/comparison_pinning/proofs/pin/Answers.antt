-- `comparison_pinning::pin` meets its contract: pinning a qubit leaves the slices as long as it found them, so the words stay level; and pinning ends at the first qubit that is blocked, or behind the last.
-- Assumes nothing.
use native.Mathlib.Omega.{arith}
use Rattle.comparison_types.proofs.PinLaws.{more_pinned, pinned_blocked, all_pinned}
use Rattle.comparison_pinning.proofs.pin.Goals as goal

pub pin_qubit-requires : goal.pin_qubit-requires
pin_qubit-requires c =
    let to = c.loop-q.invariant.0 in
    (omega (arith, to.wires), omega (arith, to.pins), to.sized, c.loop-q.invariant.1)

pub returns-in-Err : goal.returns-in-Err
returns-in-Err c = rw c.blocked_at.ensures (pinned_blocked _ _ _ (omega arith) c.loop-q.invariant.0 c.in-Err.ensures)

pub loop-q-preserved : goal.loop-q-preserved
loop-q-preserved c =
    let kept = c.pin_qubit.auto in
    (more_pinned _ _ _ (omega arith) c.loop-q.invariant.0 c.in-Ok.ensures, omega (arith, c.loop-q.invariant.1, kept.sets, kept.coeffs))

pub returns : goal.returns
returns c = rw c.stops_at.ensures (all_pinned _ _ _ (omega arith) c.loop-q.invariant.0)
