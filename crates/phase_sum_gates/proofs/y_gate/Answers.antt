-- `phase_sum_gates::y_gate` meets its contract.
-- Assumes nothing.
use Rattle.phase_sum_types.proofs.Running.{x_moved, y_leaves}
use Rattle.phase_sum_types.specs.Workspace.{lent}
use Rattle.phase_sum_gates.proofs.y_gate.Goals as goal

pub returns : goal.returns
returns c =
    let a = c.args in
    let phase = c.put_phase-phase in
    y_leaves a.run.now a.q (lent a.wires.now a.sets.now a.coeffs.now) _ c.get.result phase.result
    c.add.result
    c.requires.0.started
    c.get.ensures
    phase.ensures
    (x_moved a.q _ _ c.flip.ensures)
    c.add.ensures
