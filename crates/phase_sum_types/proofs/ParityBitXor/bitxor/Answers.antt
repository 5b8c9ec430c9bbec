-- `phase_sum_types::ParityBitXor::bitxor` meets its contract. That two bits differ is their exclusive or.
-- Assumes nothing.
use mathlib.Core.Bool.{xor}
use Rattle.phase_sum_meaning.specs.Parity.{◌⊕◌}
use Rattle.phase_sum_types.proofs.ParityBitXor.bitxor.Goals as goal

pub returns : goal.returns
unfolding ◌⊕◌ xor
returns c = rw c.bitxor.ensures
