-- A variable replaced by a parity in what stands at one place, and a pass over the places with one place more.
-- Assumes nothing.
use mathlib.Core.Path.{◌≡◌}
use mathlib.Core.Bool.{true, false}
use Prim.Native.Nat.{ℕ}
use lib.Seq.{set-get_or}
use Rattle.amplitude.specs.Bits.{bit}
use Rattle.amplitude.proofs.XorLaws.{xor_falseˡ, xor_falseʳ}
use Rattle.phase_sum_meaning.specs.Sets.{◌△◌, single}
use Rattle.phase_sum_meaning.specs.Parity.{Parity, of, replace_in, ◌⊕◌}
use Rattle.phase_sum_meaning.proofs.ParityLaws.{replace_in_absent}

module _ (z : ℕ) (p : Parity) where
  -- a parity that holds z
  pub replaced_in :
      (w : Parity) → bit z w.vars ≡ true →
      replace_in z p w ≡ (w ⊕ of (single z)) ⊕ p
  unfolding replace_in ◌⊕◌
  replaced_in w h = rw (h, xor_falseʳ w.flipped)

  -- a set that holds z
  pub replaced : (u : ℕ) → bit z u ≡ true → replace_in z p (of u) ≡ record { vars = (u △ single z) △ p.vars; flipped = p.flipped }
  unfolding replace_in ◌⊕◌
  replaced u h = rw (h, xor_falseˡ p.flipped)

  -- a set that does not
  pub kept : (u : ℕ) → bit z u ≡ false → replace_in z p (of u) ≡ of u
  kept u h = replace_in_absent z p (of u) h

-- what a place holds after that
pub ruleset at_place = (replaced, kept, set-get_or)
