-- Laws of the bits of a natural number: putting and flipping bits, numbers by their bits, bits below and above a power of 2.
-- Assumes nothing.
use mathlib.Core.Path.{◌≡◌, refl, sym, ◌∙◌, ap}
use mathlib.Core.Bool.{Bool, true, false, not}
use Prim.Native.Nat.{ℕ, zero, suc, ◌+◌, ◌*◌, ◌/◌, ◌%◌, ◌^◌, ◌<◌, ◌≤◌}
use native.Mathlib.Nat.{le_of_suc-le-suc, pow-succ'}
use native.Mathlib.Omega.{arith}
use lib.Arith.{lt-one}
use lib.Dec.{eqb}
use borrow.Author.Tests.{eqb-true, eqb-false}
use Rattle.amplitude.specs.Bits.{digit, bit, put, flip}

-- a digit is 0 or 1
pub digit-below : (b : Bool) → digit b < 2
digit-below true = omega arith
digit-below false = omega arith

-- a digit tested for 1 gives its bit back
eqb-digit : (b : Bool) → eqb (digit b) 1 ≡ b
eqb-digit true = refl
eqb-digit false = refl

-- a number below 2 is the digit of the test for 1
pub digit-eqb : (r : ℕ) → r < 2 → digit (eqb r 1) ≡ r
digit-eqb zero l = refl
digit-eqb (suc zero) l = refl
digit-eqb (suc (suc r)) l = absurd (omega arith)

-- the half of a number written as a double and a rest
pub double_half : (x r : ℕ) → r < 2 → (2 * x + r) / 2 ≡ x
double_half x r l = omega arith

-- the rest of a number written as a double and a rest
pub double_rest : (x r : ℕ) → r < 2 → (2 * x + r) % 2 ≡ r
double_rest x r l = omega arith

-- the rest by 2 is below 2
pub rest_below : (w : ℕ) → w % 2 < 2
rest_below w = omega arith

-- the bit that is put is there
pub bit_put_same : (q : ℕ) (b : Bool) (w : ℕ) → bit q (put q b w) ≡ b
unfolding bit put
bit_put_same zero b w = rw (double_rest, digit-below b) (eqb-digit b)
bit_put_same (suc q) b w = rw (double_half, rest_below w) (bit_put_same q b (w / 2))

-- putting leaves the other bits
pub bit_put_other : (p q : ℕ) (b : Bool) (w : ℕ) → (p ≡ q → ⊥) → bit p (put q b w) ≡ bit p w
unfolding bit put
bit_put_other zero zero b w ne = absurd (ne refl)
bit_put_other zero (suc q) b w ne = rw (double_rest, rest_below w)
bit_put_other (suc p) zero b w ne = rw (double_half, digit-below b)
bit_put_other (suc p) (suc q) b w ne = rw (double_half, rest_below w) (bit_put_other p q b (w / 2) (λ e. ne (ap suc e)))

-- what is put last stays
pub put_put_same : (q : ℕ) (b c : Bool) (w : ℕ) → put q b (put q c w) ≡ put q b w
unfolding put
put_put_same zero b c w = rw (double_half, digit-below c)
put_put_same (suc q) b c w = simp (double_half, double_rest, rest_below w) (rw (put_put_same q b c (w / 2)))

-- two different bits may be put in either order
pub put_put_other : (p q : ℕ) (b c : Bool) (w : ℕ) → (p ≡ q → ⊥) → put p b (put q c w) ≡ put q c (put p b w)
unfolding put
put_put_other zero zero b c w ne = absurd (ne refl)
put_put_other zero (suc q) b c w ne = simp (double_half, double_rest, rest_below w, digit-below b)
put_put_other (suc p) zero b c w ne = simp (double_half, double_rest, rest_below w, digit-below c)
put_put_other (suc p) (suc q) b c w ne =
    simp (double_half, double_rest, rest_below w) (ap (λ (x : ℕ). 2 * x + w % 2) (put_put_other p q b c (w / 2) (λ e. ne (ap suc e))))

-- a bit put to its own value changes nothing
pub put_bit : (q w : ℕ) → put q (bit q w) w ≡ w
unfolding bit put
put_bit zero w = rw (digit-eqb (w % 2) (rest_below w)) (omega arith)
put_bit (suc q) w = rw (put_bit q (w / 2)) (omega arith)

-- a number below 2^n stays there when one of its n bits is put
pub put_below : (n q : ℕ) (b : Bool) (w : ℕ) → q < n → w < 2 ^ n → put q b w < 2 ^ n
unfolding put
put_below zero q b w l h = absurd (omega arith)
put_below (suc n) zero b w l h = omega (arith, digit-below b, pow-succ' 2 n)
put_below (suc n) (suc q) b w l h =
    let r : put q b (w / 2) < 2 ^ n = put_below n q b (w / 2) (le_of_suc-le-suc l) (omega (arith, pow-succ' 2 n)) in
    omega (arith, pow-succ' 2 n)

-- a number from 2^n on stays there when one of its lowest n bits is put
pub put_above : (n q : ℕ) (b : Bool) (w : ℕ) → q < n → 2 ^ n ≤ w → 2 ^ n ≤ put q b w
unfolding put
put_above zero q b w l h = absurd (omega arith)
put_above (suc n) zero b w l h = omega (arith, pow-succ' 2 n)
put_above (suc n) (suc q) b w l h =
    let r : 2 ^ n ≤ put q b (w / 2) = put_above n q b (w / 2) (le_of_suc-le-suc l) (omega (arith, pow-succ' 2 n)) in
    omega (arith, pow-succ' 2 n)

-- no bit of 0 is 1
pub bit_zero : (q : ℕ) → bit q 0 ≡ false
unfolding bit
bit_zero zero = refl
bit_zero (suc q) = bit_zero q

-- a number below 2^n has no bit from n on
pub bit_above : (n q w : ℕ) → w < 2 ^ n → n ≤ q → bit q w ≡ false
unfolding bit
bit_above zero q w l h = rw (lt-one l) (bit_zero q)
bit_above (suc n) zero w l h = absurd (omega arith)
bit_above (suc n) (suc q) w l h = bit_above n q (w / 2) (omega (arith, pow-succ' 2 n)) (le_of_suc-le-suc h)

-- numbers up to k with the same bits are equal
bits_ext_upto : (k v w : ℕ) → v ≤ k → w ≤ k → ((q : ℕ) → bit q v ≡ bit q w) → v ≡ w
unfolding bit
bits_ext_upto zero v w l m h = omega arith
bits_ext_upto (suc k) v w l m h =
    let halves : v / 2 ≡ w / 2 = bits_ext_upto k (v / 2) (w / 2) (omega arith) (omega arith) (λ q. h (suc q)) in
    let rests : v % 2 ≡ w % 2 = sym (digit-eqb (v % 2) (rest_below v)) ∙ (ap digit (h 0) ∙ digit-eqb (w % 2) (rest_below w)) in
    omega arith

-- numbers with the same bits are equal
pub bits_ext : (v w : ℕ) → ((q : ℕ) → bit q v ≡ bit q w) → v ≡ w
bits_ext v w h = bits_ext_upto (v + w) v w (omega arith) (omega arith) h

-- a power of 2 halved
pub power_half : (q : ℕ) → 2 ^ suc q / 2 ≡ 2 ^ q
power_half q = omega (arith, pow-succ' 2 q)

-- 2^q has bit q
pub bit-power : (q : ℕ) → bit q (2 ^ q) ≡ true
unfolding bit
bit-power zero = refl
bit-power (suc q) = rw power_half (bit-power q)

-- 2^q has no other bit
pub bit-power_other : (p q : ℕ) → (p ≡ q → ⊥) → bit p (2 ^ q) ≡ false
unfolding bit
bit-power_other zero zero ne = absurd (ne refl)
bit-power_other zero (suc q) ne =
    let even : 2 ^ suc q % 2 ≡ 0 = omega (arith, pow-succ' 2 q) in
    rw even
bit-power_other (suc p) zero ne = bit_zero p
bit-power_other (suc p) (suc q) ne = rw power_half (bit-power_other p q (λ e. ne (ap suc e)))

-- flipping negates bit q
pub bit-flip_same : (q w : ℕ) → bit q (flip q w) ≡ not (bit q w)
unfolding flip
bit-flip_same q w = bit_put_same q (not (bit q w)) w

-- flipping leaves the other bits
pub bit-flip_other : (p q w : ℕ) → (p ≡ q → ⊥) → bit p (flip q w) ≡ bit p w
unfolding flip
bit-flip_other p q w ne = bit_put_other p q (not (bit q w)) w ne

-- flips commute
pub flip_comm : (p q w : ℕ) → flip p (flip q w) ≡ flip q (flip p w)
unfolding flip
flip_comm p q w = go (eqb p q) refl
  where
    go : (t : Bool) → eqb p q ≡ t → flip p (flip q w) ≡ flip q (flip p w)
    go true e = rw (eqb-true p q e)
    go false e =
        let ne : p ≡ q → ⊥ = eqb-false p q e in
        let en : q ≡ p → ⊥ = λ r. ne (sym r) in
        simp bit_put_other (put_put_other p q (not (bit p w)) (not (bit q w)) w ne)
