-- `phase_sum_passing::take_out_unmerged` meets its contract: each turn takes y out of one more set.
-- Assumes nothing.
use native.Mathlib.Omega.{arith}
use Rattle.phase_sum_meaning.specs.Stepping.{out_of}
use Rattle.phase_sum_types.proofs.TwoWords.{inside}
use Rattle.phase_sum_types.proofs.Passes.{front_mapped}
use Rattle.phase_sum_passing.proofs.take_out_unmerged.Goals as goal

pub loop-i-preserved : goal.loop-i-preserved
loop-i-preserved c = rw c.remove_at.ensures (front_mapped (out_of c.args.y) 0 c.loop-i.invariant (inside _ (omega arith)))
