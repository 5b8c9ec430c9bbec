-- `phase_sum_gates::run_two` meets its contract: CX and SWAP only move wires.
-- Assumes nothing.
use Rattle.phase_sum_types.specs.Workspace.{lent}
use Rattle.phase_sum_types.proofs.Running.{moves_leaves}
use Rattle.phase_sum_gates.proofs.run_two.Goals as goal

pub returns-in-Cx : goal.returns-in-Cx
returns-in-Cx c =
    let a = c.args in
    moves_leaves a.run.now _ (lent a.wires.now a.sets.now a.coeffs.now) _ c.requires.0 (rw c.in-Cx.is c.add_wire.ensures)

pub returns-in-Swap : goal.returns-in-Swap
returns-in-Swap c =
    let a = c.args in
    moves_leaves a.run.now _ (lent a.wires.now a.sets.now a.coeffs.now) _ c.requires.0 (rw c.in-Swap.is c.swap_wires.ensures)
