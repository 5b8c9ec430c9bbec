-- `phase_sum_gates::run_one` meets its contract: X only moves wires.
-- Assumes nothing.
use Rattle.phase_sum_types.specs.Workspace.{lent}
use Rattle.phase_sum_types.proofs.Running.{moves_leaves}
use Rattle.phase_sum_gates.proofs.run_one.Goals as goal

pub returns-in-X : goal.returns-in-X
returns-in-X c =
    let a = c.args in
    moves_leaves a.run.now _ (lent a.wires.now a.sets.now a.coeffs.now) _ c.requires.0 (rw c.in-X.is c.flip.ensures)
