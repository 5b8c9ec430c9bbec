-- `comparison_pinning::rest_of` meets its contract: the parity of one variable is not complemented.
-- Assumes nothing.
use mathlib.Core.Path.{◌≡◌, refl}
use Prim.Native.Nat.{ℕ}
use Rattle.amplitude.proofs.XorLaws.{xor_falseʳ}
use Rattle.phase_sum_meaning.specs.Sets.{single}
use Rattle.phase_sum_meaning.specs.Parity.{Parity, of, ◌⊕◌, rest}
use Rattle.phase_sum_types.specs.Workspace.{parity_of}
use Rattle.comparison_pinning.proofs.rest_of.Goals as goal

-- a parity with one variable's added
rest_is : (z : ℕ) (p : Parity) → p ⊕ of (single z) ≡ rest z p
unfolding ◌⊕◌ rest
rest_is z p = rw (xor_falseʳ p.flipped) refl

pub returns : goal.returns
returns c = rw (c.bitxor.ensures, c.from.ensures) (rest_is c.args.z (parity_of c.args.w))
