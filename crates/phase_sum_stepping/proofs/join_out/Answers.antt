-- `phase_sum_stepping::join_out` meets its contract: the terms without y are stored, then the wires and the terms with z replaced, and all terms are merged.
-- Assumes nothing.
use native.Mathlib.Omega.{arith}
use Rattle.phase_sum_meaning.specs.Parity.{of, replace_in}
use Rattle.phase_sum_meaning.specs.Stepping.{replace, take_out}
use Rattle.phase_sum_types.specs.Workspace.{set_of, parity_of, lent, sum_of}
use Rattle.phase_sum_types.proofs.TwoWords.{all_inside}
use Rattle.phase_sum_types.proofs.Members.{members-without}
use Rattle.phase_sum_types.proofs.Changing.{became}
use Rattle.phase_sum_types.proofs.Passes.{rebuilt, joined_out}
use Rattle.phase_sum_stepping.proofs.join_out.Goals as goal

pub returns : goal.returns
unfolding replace take_out
returns c =
    let a = c.args in
    let stands = c.requires.0 in
    let taken = c.take_out_unmerged in
    let p = parity_of a.p in
    let l = lent a.wires.now a.sets.now a.coeffs.now in
    let sent = c.replace_unmerged-constant.ensures in
    became (replace a.z p (take_out a.y (sum_of a.sum l))) _ l _
    (joined_out a.y a.z p a.sum.phase stands.sets stands.coeffs taken.ensures
    (rebuilt (λ u. replace_in a.z p (of u)) a.sum.phase
    (all_inside _ (omega (arith, taken.auto.sets, c.requires.1, stands.coeffs))) stands.coeffs sent.constant sent.terms
    c.canonical.ensures))
    c.replace_in_wires.ensures
    (rw
    (c.without-2.ensures, c.without.ensures, members-without _ a.z, members-without (set_of a.sum.live) a.y))
