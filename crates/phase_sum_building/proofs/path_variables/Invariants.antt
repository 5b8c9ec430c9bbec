-- `phase_sum_building::path_variables` meets its contract. The loop's invariant: the set holds the variables from n to below v
-- and no others.
-- Assumes nothing.
use Rattle.phase_sum_types.specs.Workspace.{set_of}
use Rattle.phase_sum_types.proofs.Windows.{Window}
use Rattle.phase_sum_building.proofs.path_variables.Given as goal

abbrev pub invariant-loop-v : goal.invariant-loop-v
invariant-loop-v l = Window l.n l.v (set_of l.set)
