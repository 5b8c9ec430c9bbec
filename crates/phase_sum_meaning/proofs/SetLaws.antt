-- Laws of sets of variables: the exclusive or bit by bit, and the parity of a set at an assignment.
-- Assumes nothing.
use mathlib.Core.Path.{◌≡◌, refl, sym, ◌∙◌, ap}
use mathlib.Core.Bool.{Bool, true, false, not, ◌&&◌, xor, and-false}
use Prim.Native.Nat.{ℕ, zero, suc, ◌+◌, ◌*◌, ◌/◌, ◌%◌, ◌^◌, ◌<◌, ◌≤◌}
use native.Mathlib.Nat.{pow-succ'}
use native.Mathlib.Omega.{arith}
use lib.Arith.{lt-one, half_le, bin_ind}
use lib.Dec.{eqb, eqb-suc-zero}
use borrow.Author.Tests.{eqb-true, eqb-false, eq-eqb, ne_eqb}
use Rattle.amplitude.proofs.XorLaws.{xor_falseˡ, xor_falseʳ, xor_self, xor_comm, xor_assoc, xor-left_comm, xor_swap, xor_and}
use Rattle.amplitude.specs.Bits.{digit, bit, put, flip}
use Rattle.amplitude.proofs.BitLaws.{digit-below, double_half, double_rest, rest_below, bit_zero, bits_ext, power_half, bit-power_other, bit-flip_same, bit-flip_other}
use Rattle.phase_sum_meaning.specs.Sets.{single, xor_up_to, ◌△◌, parity_up_to, parity}

-- and with a complement
and_not : (a b : Bool) → a && not b ≡ xor a (a && b)
unfolding xor
and_not true true = refl
and_not true false = refl
and_not false b = refl

-- and reads its second value only where the first is true
and_agree : (a b c : Bool) → (a ≡ true → b ≡ c) → a && b ≡ a && c
and_agree true b c h = h refl
and_agree false b c h = refl

-- the count of a parity does not matter once it covers the set
parity-count : (j k s x : ℕ) → s ≤ j → s ≤ k → parity_up_to j s x ≡ parity_up_to k s x
unfolding parity_up_to
parity-count zero zero s x l m = refl
parity-count zero (suc k) s x l m = rw (eq-eqb s 0 (omega arith), parity_up_to)
parity-count (suc j) zero s x l m = rw (eq-eqb s 0 (omega arith), parity_up_to)
parity-count (suc j) (suc k) s x l m =
    ap
    (λ (t : Bool). elim (eqb s 0) [ true ↦ false | false ↦ xor (bit 0 s && bit 0 x) t ])
    (parity-count j k (s / 2) (x / 2) (half_le l) (half_le m))

-- a parity by the lowest variable and the others
pub parity_step : (s x : ℕ) → parity s x ≡ xor (bit 0 s && bit 0 x) (parity (s / 2) (x / 2))
unfolding parity parity_up_to bit xor
parity_step zero x = refl
parity_step (suc s) x =
    rw (eqb-suc-zero s, parity_up_to) (rw (parity-count s (suc s / 2) (suc s / 2) (x / 2) (half_le (omega arith)) (omega arith)))

-- the count of an exclusive or does not matter once it covers the first set
xor_count : (j k s r : ℕ) → s ≤ j → s ≤ k → xor_up_to j s r ≡ xor_up_to k s r
unfolding xor_up_to
xor_count zero zero s r l m = refl
xor_count zero (suc k) s r l m = rw (eq-eqb s 0 (omega arith), xor_up_to)
xor_count (suc j) zero s r l m = rw (eq-eqb s 0 (omega arith), xor_up_to)
xor_count (suc j) (suc k) s r l m =
    ap
    (λ (t : ℕ). elim (eqb s 0) [ true ↦ r | false ↦ 2 * t + (s + r) % 2 ])
    (xor_count j k (s / 2) (r / 2) (half_le l) (half_le m))

-- an exclusive or by the lowest variable and the others
pub △_step : (s r : ℕ) → s △ r ≡ 2 * ((s / 2) △ (r / 2)) + (s + r) % 2
unfolding ◌△◌ xor_up_to
△_step zero r = omega arith
△_step (suc s) r =
    rw (eqb-suc-zero s, xor_up_to) (rw (xor_count s (suc s / 2) (suc s / 2) (r / 2) (half_le (omega arith)) (omega arith)))

-- the lowest bit of a sum
pub sum_bit : (s r : ℕ) → eqb ((s + r) % 2) 1 ≡ xor (eqb (s % 2) 1) (eqb (r % 2) 1)
unfolding xor
sum_bit s r = go (eqb (s % 2) 1) (eqb (r % 2) 1) refl refl
  where
    go : (a b : Bool) → eqb (s % 2) 1 ≡ a → eqb (r % 2) 1 ≡ b → eqb ((s + r) % 2) 1 ≡ xor (eqb (s % 2) 1) (eqb (r % 2) 1)
    go true true e f = rw (e, f) (ne_eqb ((s + r) % 2) 1 (omega (arith, eqb-true (s % 2) 1 e, eqb-true (r % 2) 1 f)))
    go true false e f = rw (e, f) (eq-eqb ((s + r) % 2) 1 (omega (arith, eqb-true (s % 2) 1 e, eqb-false (r % 2) 1 f)))
    go false true e f = rw (e, f) (eq-eqb ((s + r) % 2) 1 (omega (arith, eqb-false (s % 2) 1 e, eqb-true (r % 2) 1 f)))
    go false false e f = rw (e, f) (ne_eqb ((s + r) % 2) 1 (omega (arith, eqb-false (s % 2) 1 e, eqb-false (r % 2) 1 f)))

-- an exclusive or halved
pub △_half : (s r : ℕ) → (s △ r) / 2 ≡ (s / 2) △ (r / 2)
△_half s r = rw (△_step s r) (double_half ((s / 2) △ (r / 2)) ((s + r) % 2) (rest_below (s + r)))

-- a variable is in the exclusive or where it is in one of the sets and not in both
pub bit-△ : (q s r : ℕ) → bit q (s △ r) ≡ xor (bit q s) (bit q r)
unfolding bit
bit-△ zero s r = rw (△_step, double_rest ((s / 2) △ (r / 2)) ((s + r) % 2) (rest_below (s + r))) (sum_bit s r)
bit-△ (suc q) s r = rw △_half (bit-△ q (s / 2) (r / 2))

-- the exclusive or of sets commutes
pub △_comm : (s r : ℕ) → s △ r ≡ r △ s
△_comm s r = bits_ext (s △ r) (r △ s) (λ q. simp bit-△ (xor_comm (bit q s) (bit q r)))

-- it regroups
pub △_assoc : (s r t : ℕ) → (s △ r) △ t ≡ s △ (r △ t)
△_assoc s r t = bits_ext ((s △ r) △ t) (s △ (r △ t)) (λ q. simp bit-△ (xor_assoc (bit q s) (bit q r) (bit q t)))

-- a set cancels itself
pub △_self : (s : ℕ) → s △ s ≡ 0
△_self s = bits_ext (s △ s) 0 (λ q. simp (bit-△, bit_zero) (xor_self (bit q s)))

-- the empty set is neutral in front
pub △_idl : (s : ℕ) → 0 △ s ≡ s
△_idl s = bits_ext (0 △ s) s (λ q. simp (bit-△, bit_zero) (xor_falseˡ (bit q s)))

-- and behind
pub △_idr : (s : ℕ) → s △ 0 ≡ s
△_idr s = △_comm s 0 ∙ △_idl s

-- a set put in twice is gone
pub △_cancel : (s r : ℕ) → (s △ r) △ r ≡ s
△_cancel s r = △_assoc s r r ∙ (ap (λ (t : ℕ). s △ t) (△_self r) ∙ △_idr s)

-- the parity of the empty set
pub parity_empty : (x : ℕ) → parity 0 x ≡ false
unfolding parity parity_up_to
parity_empty x = refl

-- the parity where every variable is 0
pub parity_zero : (s : ℕ) → parity s 0 ≡ false
parity_zero = bin_ind (λ s. parity s 0 ≡ false) (parity_empty 0) (λ s h. rw (parity_step, bit_zero, and-false, h) (xor_self false))

-- the parity of an exclusive or
pub parity-△ : (s r x : ℕ) → parity (s △ r) x ≡ xor (parity s x) (parity r x)
parity-△ =
    bin_ind
    (λ s. (r x : ℕ) → parity (s △ r) x ≡ xor (parity s x) (parity r x))
    (λ r x. rw (△_idl, parity_empty, xor_falseˡ))
    (λ s h r x.
    rw
    (parity_step (s △ r) x, bit-△, △_half, h (r / 2) (x / 2), xor_and, parity_step s x, parity_step r x)
    (xor_swap _ _ _ _))

-- the parity of one variable
pub parity-single : (v x : ℕ) → parity (single v) x ≡ bit v x
unfolding bit
parity-single zero x = rw (parity_step, parity_empty) (xor_falseʳ (bit 0 x))
parity-single (suc v) x =
    rw
    (parity_step (single (suc v)) x, power_half, bit-power_other 0 (suc v) (omega arith), parity-single v (x / 2))
    (xor_falseˡ (bit v (x / 2)))

-- the half of a number with its lowest bit flipped
flip_half_zero : (x : ℕ) → flip 0 x / 2 ≡ x / 2
unfolding flip put
flip_half_zero x = double_half (x / 2) (digit (not (bit 0 x))) (digit-below (not (bit 0 x)))

-- the half of a number with a higher bit flipped
flip_half_suc : (v x : ℕ) → flip (suc v) x / 2 ≡ flip v (x / 2)
unfolding flip put bit
flip_half_suc v x = double_half (flip v (x / 2)) (x % 2) (rest_below x)

-- flipping a variable flips the parity of each set that holds it
pub parity-flip : (v s x : ℕ) → parity s (flip v x) ≡ xor (bit v s) (parity s x)
parity-flip zero s x =
    rw
    (parity_step s (flip 0 x), bit-flip_same, flip_half_zero, and_not, parity_step s x)
    (xor_assoc (bit 0 s) (bit 0 s && bit 0 x) (parity (s / 2) (x / 2)))
parity-flip (suc v) s x =
    rw
    (parity_step s (flip (suc v) x), bit-flip_other 0 (suc v) x (omega arith), flip_half_suc, parity-flip v (s / 2) (x / 2), parity_step s x)
    (unfold bit in xor-left_comm (bit 0 s && bit 0 x) (bit (suc v) s) (parity (s / 2) (x / 2)))

-- the parity of a set reads the variables of the set alone
pub parity_agree : (s x y : ℕ) → ((q : ℕ) → bit q s ≡ true → bit q x ≡ bit q y) → parity s x ≡ parity s y
unfolding bit
parity_agree =
    bin_ind
    (λ s. (x y : ℕ) → ((q : ℕ) → bit q s ≡ true → bit q x ≡ bit q y) → parity s x ≡ parity s y)
    (λ x y h. parity_empty x ∙ sym (parity_empty y))
    (λ s h x y g.
    rw (parity_step s x, parity_step s y, h (x / 2) (y / 2) (λ q. g (suc q)), and_agree (bit 0 s) (bit 0 x) (bit 0 y) (g 0)))

-- adding 2^n to a number below it flips bit n
pub power-flip : (n v : ℕ) → v < 2 ^ n → 2 ^ n + v ≡ flip n v
unfolding flip put bit
power-flip zero v l = rw (lt-one l)
power-flip (suc n) v l =
    let half : 2 ^ n + v / 2 ≡ flip n (v / 2) = power-flip n (v / 2) (omega (arith, pow-succ' 2 n)) in
    omega (arith, pow-succ' 2 n)
