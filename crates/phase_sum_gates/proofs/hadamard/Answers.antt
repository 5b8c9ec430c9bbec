-- `phase_sum_gates::hadamard` meets its contract.
-- Assumes nothing.
use mathlib.Core.Path.{refl, ap, ◌∙◌}
use Rattle.phase_sum_types.proofs.Running.{hadamard_leaves}
use Rattle.phase_sum_types.specs.Workspace.{lent}
use Rattle.phase_sum_meaning.specs.Parity.{of}
use Rattle.phase_sum_meaning.specs.Sets.{single}
use Rattle.phase_sum_gates.proofs.hadamard.Goals as goal

pub returns : goal.returns
returns c =
    let a = c.args in
    let phase = c.put_product-run in
    hadamard_leaves a.run.now a.q (lent a.wires.now a.sets.now a.coeffs.now) _ c.get.result _ phase.result _
    c.requires.0.started
    refl
    c.get.ensures
    (c.from-new.ensures ∙ ap (λ v. of (single v)) c.new.ensures)
    phase.ensures
    c.set.ensures
