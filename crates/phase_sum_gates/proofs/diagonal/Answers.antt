-- `phase_sum_gates::diagonal` meets its contract.
-- Assumes nothing.
use Rattle.phase_sum_types.proofs.Running.{diagonal_leaves}
use Rattle.phase_sum_types.specs.Workspace.{lent}
use Rattle.phase_sum_gates.proofs.diagonal.Goals as goal

pub returns : goal.returns
returns c =
    let a = c.args in
    diagonal_leaves a.run.now a.c a.q (lent a.wires.now a.sets.now a.coeffs.now) c.get.result
    c.put_phase-run.result c.requires.1 c.get.ensures c.put_phase-run.ensures
