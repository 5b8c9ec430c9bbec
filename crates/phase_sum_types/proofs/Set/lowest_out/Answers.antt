-- `phase_sum_types::Set::lowest_out` meets its contract: by the lowest variable of what the first set has alone.
-- Assumes nothing.
use mathlib.Core.Path.{◌∙◌}
use native.Mathlib.Omega.{arith}
use Rattle.phase_sum_types.specs.Workspace.{set_of}
use Rattle.phase_sum_types.proofs.Choosing.{lowest_except}
use Rattle.phase_sum_types.proofs.TwoWords.{pair_except}
use Rattle.phase_sum_types.proofs.Set.lowest_out.Goals as goal

pub returns : goal.returns
unfolding set_of
returns c =
    let live = c.args.self in
    let s = c.args.s in
    c.lowest.ensures
    ∙ lowest_except (set_of live) (set_of s) _
    (pair_except live.low live.high (omega arith) (omega arith) s.low s.high (omega arith) (omega arith))
