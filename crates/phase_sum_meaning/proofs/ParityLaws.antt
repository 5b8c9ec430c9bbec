-- Laws of parities: their values at an assignment, and what replacing a variable by a parity changes.
-- Assumes nothing.
use mathlib.Core.Path.{◌≡◌, refl, sym, ◌∙◌}
use mathlib.Core.Bool.{Bool, true, false, not, xor}
use Prim.Native.Nat.{ℕ}
use Rattle.amplitude.specs.Bits.{bit, flip}
use Rattle.amplitude.proofs.BitLaws.{bit-power}
use Rattle.phase_sum_meaning.specs.Sets.{◌△◌, single, parity}
use Rattle.phase_sum_meaning.specs.Parity.{Parity, value, of, ◌⊕◌, complement, rest, replace_in}
use Rattle.amplitude.proofs.XorLaws.{xor_falseʳ, xor_trueˡ, xor_self, xor_comm, xor_assoc, xor_cancel, xor-left_comm, xor_swap}
use Rattle.phase_sum_meaning.proofs.SetLaws.{bit-△, parity-△, parity-single, parity-flip, parity_agree}

-- the value of an exclusive or
pub value-⊕ : (p q : Parity) (x : ℕ) → value (◌⊕◌ p q) x ≡ xor (value p x) (value q x)
unfolding value ◌⊕◌
value-⊕ p q x = rw parity-△ (xor_swap (parity p.vars x) (parity q.vars x) p.flipped q.flipped)

-- the value of a complement
pub value-complement : (p : Parity) (x : ℕ) → value (complement p) x ≡ not (value p x)
unfolding value complement
value-complement p x = xor-left_comm (parity p.vars x) true p.flipped ∙ xor_trueˡ (value p x)

-- the value of a set's parity
pub value_of : (s x : ℕ) → value (of s) x ≡ parity s x
unfolding value
value_of s x = xor_falseʳ (parity s x)

-- flipping a variable flips each parity that holds it
pub value-flip : (v : ℕ) (p : Parity) (x : ℕ) → value p (flip v x) ≡ xor (bit v p.vars) (value p x)
unfolding value
value-flip v p x = rw parity-flip (xor_assoc (bit v p.vars) (parity p.vars x) p.flipped)

-- a set that holds z is free of z once z is taken out
pub bit_out_same : (z s : ℕ) → bit z s ≡ true → bit z (s △ single z) ≡ false
bit_out_same z s h = rw (bit-△, h, bit-power) (xor_self true)

-- the rest of a parity is free of the variable
pub rest_free : (z : ℕ) (q : Parity) → bit z q.vars ≡ true → bit z (rest z q).vars ≡ false
unfolding rest
rest_free z q h = bit_out_same z q.vars h

-- a parity is a variable of it and the rest
pub value_rest : (z : ℕ) (q : Parity) (x : ℕ) → value q x ≡ xor (bit z x) (value (rest z q) x)
unfolding value rest
value_rest z q x =
    rw (parity-△, parity-single, xor_comm (parity q.vars x) (bit z x), xor_assoc) (sym (xor_cancel (bit z x) (value q x)))

-- replacing a variable by a parity of the same value keeps the value
pub value-replace_in : (z : ℕ) (p w : Parity) (x : ℕ) → bit z x ≡ value p x → value (replace_in z p w) x ≡ value w x
unfolding replace_in rest
value-replace_in z p w x e = go (bit z w.vars) refl
  where
    go : (b : Bool) → bit z w.vars ≡ b → value (replace_in z p w) x ≡ value w x
    go true h = rw h (rw (value-⊕, ← e) (xor_comm (value (rest z w) x) (bit z x) ∙ sym (value_rest z w x)))
    go false h = rw h

-- a variable replaced by a parity without it is gone
pub replace_in_free : (z : ℕ) (p w : Parity) → bit z p.vars ≡ false → bit z (replace_in z p w).vars ≡ false
unfolding replace_in ◌⊕◌
replace_in_free z p w f = go (bit z w.vars) refl
  where
    go : (b : Bool) → bit z w.vars ≡ b → bit z (replace_in z p w).vars ≡ false
    go true h = rw h (rw (bit-△, bit_out_same z w.vars h, f) (xor_self false))
    go false h = rw h h

-- a parity without the variable stays
pub replace_in_absent : (z : ℕ) (p w : Parity) → bit z w.vars ≡ false → replace_in z p w ≡ w
unfolding replace_in
replace_in_absent z p w h = rw h

-- a parity has the same value at assignments that agree on its variables
pub value_agree : (p : Parity) (x y : ℕ) → ((v : ℕ) → bit v p.vars ≡ true → bit v x ≡ bit v y) → value p x ≡ value p y
unfolding value
value_agree p x y h = rw (parity_agree p.vars x y h)
