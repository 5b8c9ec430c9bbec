-- `phase_sum_gates::controlled_z` meets its contract.
-- Assumes nothing.
use Rattle.phase_sum_types.proofs.Running.{controlled_z_leaves}
use Rattle.phase_sum_types.specs.Workspace.{lent}
use Rattle.phase_sum_gates.proofs.controlled_z.Goals as goal

pub returns : goal.returns
returns c =
    let a = c.args in
    let phase = c.put_product-run in
    controlled_z_leaves a.run.now a.a a.b (lent a.wires.now a.sets.now a.coeffs.now) c.get.result
    c.get-2.result phase.result
    c.requires.0.started
    c.get.ensures
    c.get-2.ensures
    phase.ensures
