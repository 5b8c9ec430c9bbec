-- `phase_sum_building::path_variables` meets its contract: each turn puts one more variable in the set.
-- Assumes nothing.
use mathlib.Core.Path.{◌≡◌}
use native.Mathlib.Omega.{arith}
use Rattle.phase_sum_types.specs.Workspace.{set_of}
use Rattle.phase_sum_types.proofs.Windows.{window_empty, window_more, members_window}
use Rattle.phase_sum_building.proofs.path_variables.Goals as goal

pub loop-v-init : goal.loop-v-init
loop-v-init c = rw c.empty-set.ensures (window_empty c.args.n)

pub loop-v-preserved : goal.loop-v-preserved
loop-v-preserved c =
    let loop = c.loop-v in
    window_more c.args.n loop.v (set_of loop.set) (set_of c.bitor-set.result) (omega arith) (rw (c.single.ensures, c.new.ensures) at c.bitor-set.ensures)
    loop.invariant

pub returns : goal.returns
returns c =
    let a = c.args in
    let done : c.loop-v.v ≡ a.next = omega arith in
    members_window a.n a.next (set_of c.loop-v.set) (omega arith) (omega arith) (rw done at c.loop-v.invariant)
