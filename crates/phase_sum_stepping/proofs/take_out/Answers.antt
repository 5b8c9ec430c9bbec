-- `phase_sum_stepping::take_out` meets its contract: the terms without y are stored, and then merged.
-- Assumes nothing.
use mathlib.Core.Path.{refl}
use native.Mathlib.Omega.{arith}
use Rattle.phase_sum_meaning.specs.Parity.{of}
use Rattle.phase_sum_meaning.specs.Stepping.{out_of, take_out}
use Rattle.phase_sum_types.specs.Workspace.{set_of, sets_at, held, slices, sum_of}
use Rattle.phase_sum_types.proofs.TwoWords.{all_inside}
use Rattle.phase_sum_types.proofs.Members.{members-without}
use Rattle.phase_sum_types.proofs.Changing.{became}
use Rattle.phase_sum_types.proofs.Passes.{sent_constant, sent_stored, rebuilt}
use Rattle.phase_sum_stepping.proofs.take_out.Goals as goal

pub returns : goal.returns
unfolding take_out
returns c wires =
    let a = c.args in
    let pre = c.requires in
    let ss = sets_at a.sets.now in
    let cs = a.coeffs.now in
    let phase = a.sum.phase in
    let n = phase.count in
    let l = slices wires ss cs in
    let room = all_inside a.sets.now {m = n} (omega (arith, pre.0, pre.1)) in
    became (take_out a.y (sum_of a.sum l)) _ l _
    (rebuilt (λ u. of (out_of a.y u)) phase room pre.1
    (rw (sent_constant (out_of a.y) phase.constant (held n ss cs)) (omega (arith, c.add.ensures)))
    (sent_stored (out_of a.y) n ss cs _ room pre.1 c.take_out_unmerged.ensures)
    c.canonical.ensures)
    refl
    (rw c.without.ensures (members-without (set_of a.sum.live) a.y))
