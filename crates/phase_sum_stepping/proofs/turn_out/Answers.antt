-- `phase_sum_stepping::turn_out` meets its contract: the terms without y are stored, the turn's term is put behind them, and all are merged.
-- Assumes nothing.
use mathlib.Core.Path.{refl}
use mathlib.Core.List.{[], ◌∷◌}
use native.Mathlib.Omega.{arith}
use Rattle.phase_sum_meaning.specs.Stepping.{take_out, turned}
use Rattle.phase_sum_types.specs.Workspace.{set_of, sets_at, slices, sum_of}
use Rattle.phase_sum_types.proofs.TwoWords.{all_inside}
use Rattle.phase_sum_types.proofs.Members.{members-without}
use Rattle.phase_sum_types.proofs.Changing.{became}
use Rattle.phase_sum_types.proofs.Passes.{turned_out}
use Rattle.phase_sum_types.proofs.WireLaws.{stored-count}
use Rattle.phase_sum_stepping.proofs.turn_out.Goals as goal

pub canonical-requires : goal.canonical-requires
canonical-requires c =
    let pre = c.requires in
    let long = c.take_out_unmerged.auto.sets in
    let count = stored-count (_ ∷ []) (all_inside _ (omega (arith, pre.0, pre.1, long))) (omega (arith, pre.1)) c.append-more.ensures in
    (omega arith, omega arith)

pub returns : goal.returns
unfolding turned take_out
returns c wires =
    let a = c.args in
    let pre = c.requires in
    let phase = a.sum.phase in
    let l = slices wires (sets_at a.sets.now) a.coeffs.now in
    let room = all_inside a.sets.now {m = phase.count} (omega (arith, pre.0, pre.1)) in
    became (turned a.halves.c (set_of a.halves.l) (take_out a.y (sum_of a.sum l))) _ l _
    (turned_out a.y a.halves.c (set_of a.halves.l) phase room (omega (arith, pre.1))
    (rw (← c.turn-constant.ensures.constant) c.add.ensures)
    c.take_out_unmerged.ensures
    (rw c.turn-constant.ensures.coeff at c.append-more.ensures)
    c.canonical.ensures)
    refl
    (rw c.without.ensures (members-without (set_of a.sum.live) a.y))
