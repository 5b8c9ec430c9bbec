-- `comparison_pinning::mismatch` meets its contract: input q is the set of variable q alone.
-- Assumes nothing.
use mathlib.Core.Path.{refl}
use Rattle.amplitude.proofs.BitLaws.{bit_zero}
use Rattle.phase_sum_meaning.specs.Building.{input}
use Rattle.comparison_pinning.proofs.mismatch.Goals as goal

pub returns : goal.returns
unfolding input
returns c = rw (c.bitxor.ensures, c.from.ensures, c.new.ensures, ← c.get.ensures, bit_zero c.args.q) refl
