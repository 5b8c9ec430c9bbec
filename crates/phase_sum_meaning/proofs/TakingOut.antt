-- Taking a ready variable y out of the phase: what is left, and what y adds where it is 1. With each coefficient of a term that
-- holds y even, a term c on y +ω p is c on p, and y times c − 2cp, where −2c counts as 4 times half of c, modulo 8.
-- Assumes nothing.
use mathlib.Core.Path.{◌≡◌, refl, sym, ◌∙◌, ap}
use mathlib.Core.Bool.{Bool, true, false, not, cond, ◌&&◌, ◌||◌, xor, true≢false, and-false}
use mathlib.Core.List.{List, [], ◌∷◌}
use Prim.Native.Nat.{ℕ, ◌+◌, ◌*◌, ◌/◌, ◌%◌}
use native.Mathlib.Omega.{arith}
use lib.Dec.{eqb}
use borrow.Author.Tests.{eqb-false}
use Rattle.amplitude.specs.Bits.{digit, bit, flip}
use Rattle.amplitude.proofs.BitLaws.{bit_zero, bit-power_other, digit-eqb, rest_below}
use Rattle.phase_sum_meaning.specs.Sets.{◌△◌, single, parity}
use Rattle.phase_sum_meaning.specs.Parity.{value, of}
use Rattle.phase_sum_meaning.specs.Phase.{Term, sum_at, phase_at, in_odd}
use Rattle.phase_sum_meaning.specs.Building.{PathSum}
use Rattle.phase_sum_meaning.specs.Stepping.{coeffs, out_of, odd_halves, take_out}
use Rattle.amplitude.proofs.XorLaws.{xor_falseˡ, xor_falseʳ, xor_trueˡ, xor_comm, xor_cancel}
use Rattle.phase_sum_meaning.proofs.SetLaws.{bit-△, parity-△, parity_empty, parity-single, △_idl}
use Rattle.phase_sum_meaning.proofs.ParityLaws.{value_of, bit_out_same}
use Rattle.phase_sum_meaning.proofs.PhaseLaws.{sum_by, phase_at-rebuild, sum_at_free, free_rebuild}
use Rattle.phase_sum_meaning.proofs.Replacing.{sum_by_same}

-- a set without y does not hold y
pub out_of_free : (y u : ℕ) → bit y (out_of y u) ≡ false
unfolding out_of
out_of_free y u = go (bit y u) refl
  where
    go : (b : Bool) → bit y u ≡ b → bit y (cond b (u △ single y) u) ≡ false
    go true e = bit_out_same y u e
    go false e = e

-- and leaves the others
pub out_of_other : (u v s : ℕ) → (u ≡ v → ⊥) → bit u (out_of v s) ≡ bit u s
unfolding out_of
out_of_other u v s ne = go (bit v s)
  where
    go : (b : Bool) → bit u (cond b (s △ single v) s) ≡ bit u s
    go true = rw (bit-△, bit-power_other u v ne) (xor_falseʳ (bit u s))
    go false = refl

-- what is left does not depend on y
pub take_out_free :
    (y : ℕ) (s : PathSum) (x : ℕ) → phase_at (take_out y s).phase (flip y x) ≡ phase_at (take_out y s).phase x
unfolding take_out phase_at
take_out_free y s x =
    ap (λ (n : ℕ). (take_out y s).phase.constant + n) (sum_at_free y _ x (free_rebuild y (λ u. of (out_of y u)) _ _ (out_of_free y)))

-- nor does L
pub odd_halves_free : (y : ℕ) (ts : List Term) → bit y (odd_halves y ts) ≡ false
unfolding odd_halves
odd_halves_free y [] = bit_zero y
odd_halves_free y (t ∷ ts) =
    rw (bit-△, odd_halves_free y ts) (xor_falseʳ _ ∙ go (bit y t.set) (eqb (t.coeff / 2 % 2) 1))
  where
    go : (b o : Bool) → bit y (cond b (cond o (out_of y t.set) 0) 0) ≡ false
    go true true = out_of_free y t.set
    go true false = bit_zero y
    go false o = bit_zero y

-- a set's parity by y and the set without y
pub parity_out_of : (y u x : ℕ) → parity u x ≡ xor (bit y u && bit y x) (parity (out_of y u) x)
unfolding out_of
parity_out_of y u x = go (bit y u)
  where
    go : (b : Bool) → parity u x ≡ xor (b && bit y x) (parity (cond b (u △ single y) u) x)
    go true = rw (parity-△, parity-single, xor_comm (parity u x) (bit y x)) (sym (xor_cancel (bit y x) (parity u x)))
    go false = sym (xor_falseˡ (parity u x))

-- where y is 0, a set has the parity that it has without y
pub value_out_of : (y u x : ℕ) → bit y x ≡ false → value (of (out_of y u)) x ≡ parity u x
value_out_of y u x e = rw (parity_out_of y u x, e, and-false, xor_falseˡ) (value_of (out_of y u) x)

-- a set's parity where a condition keeps the set
pub parity_cond : (o : Bool) (u x : ℕ) → parity (cond o u 0) x ≡ o && parity u x
parity_cond true u x = refl
parity_cond false u x = parity_empty x

-- a term that holds y, where y is 1: its coefficient c is even, p is the parity of its set without y, l that of the other terms' L
pub held-term :
    (c : ℕ) (p l : Bool) (m n k : ℕ) →
    c % 2 ≡ 0 →
    m % 8 ≡ (n + k + 4 * digit l) % 8 →
    (c * digit (not p) + m) % 8 ≡ (c * digit p + n + (c + k) + 4 * digit (xor (eqb (c / 2 % 2) 1 && p) l)) % 8
unfolding xor
held-term c p l m n k even h =
    go p l (eqb (c / 2 % 2) 1) (rw (digit-eqb (c / 2 % 2) (rest_below (c / 2))) (omega arith)) h
  where
    go :
        (p l o : Bool) →
        c ≡ 4 * (c / 4) + 2 * digit o →
        m % 8 ≡ (n + k + 4 * digit l) % 8 →
        (c * digit (not p) + m) % 8 ≡ (c * digit p + n + (c + k) + 4 * digit (xor (o && p) l)) % 8
    go true true true e h = omega arith
    go true true false e h = omega arith
    go true false true e h = omega arith
    go true false false e h = omega arith
    go false true true e h = omega arith
    go false true false e h = omega arith
    go false false true e h = omega arith
    go false false false e h = omega arith

-- where y is in no term of odd coefficient, a first term that holds y has an even one
pub in_odd_first : (y : ℕ) (t : Term) (ts : List Term) → in_odd y (t ∷ ts) ≡ false → bit y t.set ≡ true → t.coeff % 2 ≡ 0
unfolding in_odd
in_odd_first y t ts h held = go (eqb (t.coeff % 2) 1) refl (rw held at h)
  where
    go : (o : Bool) → eqb (t.coeff % 2) 1 ≡ o → (eqb (t.coeff % 2) 1 || in_odd y ts) ≡ false → t.coeff % 2 ≡ 0
    go true e g = absurd (true≢false (rw e at g))
    go false e g = omega (arith, eqb-false (t.coeff % 2) 1 e)

-- and y is in no other term of odd coefficient
pub in_odd_others : (y : ℕ) (t : Term) (ts : List Term) → in_odd y (t ∷ ts) ≡ false → in_odd y ts ≡ false
unfolding in_odd
in_odd_others y t ts h = go (cond (bit y t.set) (eqb (t.coeff % 2) 1) false) h
  where
    go : (b : Bool) → (b || in_odd y ts) ≡ false → in_odd y ts ≡ false
    go true g = absurd (true≢false g)
    go false g = g

-- the coefficients of the terms that hold y add up to an even number
pub coeffs_even : (y : ℕ) (ts : List Term) → in_odd y ts ≡ false → coeffs y ts % 2 ≡ 0
unfolding coeffs
coeffs_even y [] h = refl
coeffs_even y (t ∷ ts) h = go (bit y t.set) refl (coeffs_even y ts (in_odd_others y t ts h))
  where
    go : (b : Bool) → bit y t.set ≡ b → coeffs y ts % 2 ≡ 0 → (cond b t.coeff 0 + coeffs y ts) % 2 ≡ 0
    go true e g = omega (arith, in_odd_first y t ts h e)
    go false e g = omega arith

-- where y is 1, the terms that hold y also add their coefficients, and 4 where L is 1
pub sum_at_one :
    (y : ℕ) (ts : List Term) (x : ℕ) →
    in_odd y ts ≡ false →
    bit y x ≡ true →
    sum_at ts x % 8
    ≡ (sum_by (λ u. of (out_of y u)) ts x + coeffs y ts + 4 * digit (parity (odd_halves y ts) x)) % 8
unfolding sum_at sum_by coeffs odd_halves
sum_at_one y [] x h e = rw parity_empty
sum_at_one y (t ∷ ts) x h e = go (bit y t.set) refl (sum_at_one y ts x (in_odd_others y t ts h) e)
  where
    go :
        (b : Bool) →
        bit y t.set ≡ b →
        sum_at ts x % 8
        ≡ (sum_by (λ u. of (out_of y u)) ts x + coeffs y ts + 4 * digit (parity (odd_halves y ts) x)) % 8 →
        sum_at (t ∷ ts) x % 8
        ≡ (sum_by (λ u. of (out_of y u)) (t ∷ ts) x + coeffs y (t ∷ ts) + 4 * digit (parity (odd_halves y (t ∷ ts)) x)) % 8
    go true held g =
        rw (parity_out_of y t.set x, held, e, value_of, xor_trueˡ, parity-△, parity_cond (eqb (t.coeff / 2 % 2) 1))
        (held-term t.coeff (parity (out_of y t.set) x) _ (sum_at ts x) _ _ (in_odd_first y t ts h held) g)
    go false held g = rw (parity_out_of y t.set x, held, value_of, xor_falseˡ, △_idl) (omega arith)

-- the phase is what is left when y is taken out, and y times the coefficients of its terms and 4 on L
pub phase_take_out :
    (y : ℕ) (s : PathSum) (x : ℕ) →
    in_odd y s.phase.terms ≡ false →
    phase_at s.phase x % 8
    ≡ (phase_at (take_out y s).phase x
    + digit (bit y x) * (coeffs y s.phase.terms + 4 * digit (parity (odd_halves y s.phase.terms) x)))
    % 8
unfolding phase_at take_out
phase_take_out y s x h = go (bit y x) refl
  where
    left : phase_at (take_out y s).phase x % 8 ≡ (s.phase.constant + sum_by (λ u. of (out_of y u)) s.phase.terms x) % 8
    left = phase_at-rebuild (λ u. of (out_of y u)) s.phase.constant s.phase.terms x

    go :
        (b : Bool) →
        bit y x ≡ b →
        phase_at s.phase x % 8
        ≡ (phase_at (take_out y s).phase x
        + digit b * (coeffs y s.phase.terms + 4 * digit (parity (odd_halves y s.phase.terms) x)))
        % 8
    go true e = omega (arith, left, sum_at_one y s.phase.terms x h e)
    go false e = omega (arith, left, sum_by_same (λ u. of (out_of y u)) s.phase.terms x (λ u. value_out_of y u x e))
