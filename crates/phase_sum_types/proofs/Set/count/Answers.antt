-- `phase_sum_types::Set::count` meets its contract: a set has as many members as its words have ones.
-- Assumes nothing.
use mathlib.Core.Path.{sym, ◌∙◌}
use native.Mathlib.Omega.{arith}
use Rattle.phase_sum_types.specs.Workspace.{set_of}
use Rattle.phase_sum_types.proofs.Members.{length-members}
use Rattle.phase_sum_types.proofs.TwoWords.{pair_below, pair_ones}
use Rattle.phase_sum_types.proofs.Set.count.Goals as goal

pub returns : goal.returns
unfolding set_of
returns c =
    let s = c.args.self in
    sym (length-members (set_of s) (pair_below s.low s.high (omega arith) (omega arith)) ∙ pair_ones s.low s.high (omega arith) (omega arith))
