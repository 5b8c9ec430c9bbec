-- `phase_sum_passing::replace_in_wires` meets its contract: each turn replaces z in one more wire.
-- Assumes nothing.
use mathlib.Core.Path.{◌≡◌, refl}
use native.Mathlib.Omega.{arith}
use lib.ListN.{length}
use Rattle.phase_sum_meaning.specs.Parity.{of, replace_in}
use Rattle.phase_sum_types.specs.Workspace.{parity_of}
use Rattle.phase_sum_types.proofs.Passes.{front_mapped, front_full}
use Rattle.phase_sum_passing.proofs.replace_in_wires.Goals as goal

pub loop-q-preserved : goal.loop-q-preserved
loop-q-preserved c =
    let a = c.args in
    rw (c.set.ensures, c.replace_in-new.ensures, c.get.ensures)
    (front_mapped (replace_in a.z (parity_of a.p)) (of 0) c.loop-q.invariant (omega arith))

pub returns : goal.returns
returns c =
    let a = c.args in
    let done : c.loop-q.q ≡ length a.wires.now = omega arith in
    front_full (replace_in a.z (parity_of a.p)) _ (rw done at c.loop-q.invariant) refl
