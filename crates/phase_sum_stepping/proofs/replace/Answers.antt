-- `phase_sum_stepping::replace` meets its contract: the wires and the terms with z replaced are stored, and the terms merged.
-- Assumes nothing.
use Rattle.phase_sum_meaning.specs.Parity.{of, replace_in}
use Rattle.phase_sum_meaning.specs.Stepping.{replace}
use Rattle.phase_sum_types.specs.Workspace.{set_of, parity_of, lent, sum_of}
use Rattle.phase_sum_types.proofs.Members.{members-without}
use Rattle.phase_sum_types.proofs.Changing.{became}
use Rattle.phase_sum_types.proofs.Passes.{rebuilt}
use Rattle.phase_sum_stepping.proofs.replace.Goals as goal

pub returns : goal.returns
unfolding replace
returns c =
    let a = c.args in
    let stands = c.requires.0 in
    let p = parity_of a.p in
    let l = lent a.wires.now a.sets.now a.coeffs.now in
    let sent = c.replace_unmerged-constant.ensures in
    became (replace a.z p (sum_of a.sum l)) _ l _
    (rebuilt (λ u. replace_in a.z p (of u)) a.sum.phase stands.sets stands.coeffs sent.constant sent.terms
    c.canonical.ensures)
    c.replace_in_wires.ensures
    (rw c.without.ensures (members-without (set_of a.sum.live) a.z))
