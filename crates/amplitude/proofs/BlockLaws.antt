-- A number cut at 2^n: its rest by 2^n has the bits below n, its quotient the others. Both by halving, a bit read or put on either side of
-- the cut, and a number joined from both.
-- Assumes nothing.
use mathlib.Core.Path.{◌≡◌, ◌∙◌}
use mathlib.Core.Bool.{Bool}
use Prim.Native.Nat.{ℕ, zero, suc, ◌+◌, ◌*◌, ◌/◌, ◌%◌, ◌^◌, ◌<◌}
use native.Mathlib.Nat.{le_of_suc-le-suc, zero-add, suc-add, div-one, mod-one, div-eq_of_lt, mod-eq_of_lt, add-mul-div_left, add-mul-mod_self_left, div-div-eq-div-mul, pow-suc, pow-succ'}
use native.Mathlib.Omega.{arith}
use lib.Arith.{mod-mul}
use lib.Pow.{pow_pos}
use Rattle.amplitude.specs.Bits.{bit, put}
use Rattle.amplitude.proofs.BitLaws.{digit-below, double_half, double_rest, rest_below}

-- the quotient by twice as much, by halving first
pub high_half : (n x : ℕ) → x / 2 / 2 ^ n ≡ x / 2 ^ suc n
high_half n x = rw pow-succ' (div-div-eq-div-mul x 2 (2 ^ n))

-- the rest by twice as much, by that of the half and the lowest bit
low_step : (n x : ℕ) → x % 2 ^ suc n ≡ 2 * (x / 2 % 2 ^ n) + x % 2
low_step n x =
    let parts : x % 2 ^ suc n ≡ x / 2 % 2 ^ n * 2 + x % 2 = rw pow-suc (mod-mul x (pow_pos n) (omega arith)) in
    omega arith

-- the rest by twice as much, halved
pub low_half : (n x : ℕ) → x % 2 ^ suc n / 2 ≡ x / 2 % 2 ^ n
low_half n x = omega (arith, low_step n x)

-- and its own rest by 2
low_odd : (n x : ℕ) → x % 2 ^ suc n % 2 ≡ x % 2
low_odd n x = omega (arith, low_step n x)

-- the quotient of a double and a rest
high_double : (n x r : ℕ) → r < 2 → (2 * x + r) / 2 ^ suc n ≡ x / 2 ^ n
high_double n x r l = rw (← high_half, double_half)

-- the rest of a double and a rest
low_double : (n x r : ℕ) → r < 2 → (2 * x + r) % 2 ^ suc n ≡ 2 * (x % 2 ^ n) + r
low_double n x r l = rw (low_step, double_half, double_rest)

-- a bit below n is that of the rest by 2^n
pub bit_low : (n q x : ℕ) → q < n → bit q (x % 2 ^ n) ≡ bit q x
unfolding bit
bit_low zero q x l = absurd (omega arith)
bit_low (suc n) zero x l = rw low_odd
bit_low (suc n) (suc q) x l = rw low_half (bit_low n q (x / 2) (le_of_suc-le-suc l))

-- a bit from n on is that of the quotient
pub bit_high : (n q x : ℕ) → bit (n + q) x ≡ bit q (x / 2 ^ n)
unfolding bit
bit_high zero q x = rw (zero-add, div-one)
bit_high (suc n) q x = rw (suc-add, ← high_half) (bit_high n q (x / 2))

-- a bit put below n is put in the rest by 2^n
pub put_low : (n q : ℕ) (b : Bool) (x : ℕ) → q < n → put q b x % 2 ^ n ≡ put q b (x % 2 ^ n)
unfolding put
put_low zero q b x l = absurd (omega arith)
put_low (suc n) zero b x l = simp (low_double, low_half, digit-below b)
put_low (suc n) (suc q) b x l = simp (low_double, low_half, low_odd, rest_below x, put_low n q b (x / 2) (le_of_suc-le-suc l))

-- and leaves the quotient
pub put_low_high : (n q : ℕ) (b : Bool) (x : ℕ) → q < n → put q b x / 2 ^ n ≡ x / 2 ^ n
unfolding put
put_low_high zero q b x l = absurd (omega arith)
put_low_high (suc n) zero b x l = simp (high_double, digit-below b, high_half)
put_low_high (suc n) (suc q) b x l = simp (high_double, rest_below x, put_low_high n q b (x / 2) (le_of_suc-le-suc l), high_half)

-- a bit put from n on is put in the quotient
pub put_high : (n q : ℕ) (b : Bool) (x : ℕ) → put (n + q) b x / 2 ^ n ≡ put q b (x / 2 ^ n)
unfolding put
put_high zero q b x = simp (zero-add, div-one)
put_high (suc n) q b x = rw suc-add (simp (high_double, rest_below x, put_high n q b (x / 2), high_half))

-- and leaves the rest by 2^n
pub put_high_low : (n q : ℕ) (b : Bool) (x : ℕ) → put (n + q) b x % 2 ^ n ≡ x % 2 ^ n
unfolding put
put_high_low zero q b x = simp mod-one
put_high_low (suc n) q b x = rw suc-add (simp (low_double, rest_below x, put_high_low n q b (x / 2), low_step))

-- the rest of a number joined from a rest and a quotient
pub joined_low : (n x y : ℕ) → x < 2 ^ n → (x + 2 ^ n * y) % 2 ^ n ≡ x
joined_low n x y l = add-mul-mod_self_left x (2 ^ n) y ∙ mod-eq_of_lt l

-- and its quotient
pub joined_high : (n x y : ℕ) → x < 2 ^ n → (x + 2 ^ n * y) / 2 ^ n ≡ y
joined_high n x y l = add-mul-div_left x y (pow_pos n) ∙ rw (div-eq_of_lt l) (zero-add y)
