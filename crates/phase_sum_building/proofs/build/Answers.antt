-- `phase_sum_building::build` meets its contract: the gates of both lists have run, and the terms are merged.
-- Assumes nothing.
use Rattle.phase_sum_types.specs.Unmerged.{miter_in}
use Rattle.phase_sum_types.proofs.Running.{built}
use Rattle.phase_sum_building.proofs.build.Goals as goal

pub returns : goal.returns
returns c =
    let a = c.args in
    built (miter_in a.first.now a.second.now) {s = c.run_pair-run.result} c.run_pair-run.ensures.sum c.canonical.ensures
    (rw c.len-n.ensures at c.path_variables.ensures)
