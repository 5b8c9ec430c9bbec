-- Sizes of amplitudes: a sum and √2 at most double them, a power of ω keeps them.
-- Assumes nothing.
use mathlib.Core.Path.{◌≡◌, refl, sym, ap, ◌∙◌}
use Prim.Native.Nat.{ℕ, zero, suc, ◌+◌, ◌-◌, ◌^◌, ◌≤◌}
use native.Mathlib.Nat.{le_trans, pow-succ', add-zero, add-suc}
use native.Mathlib.Omega.{arith}
use lib.Pow.{pow_mono}
use lib.IntN.{ℤ, neg_ℤ, nat_abs, ◌+ℤ◌, ◌-ℤ◌, +ℤ_comm, neg_ℤ-neg_ℤ}
use Rattle.amplitude.specs.Number.{Zω, whole, 0ω, 1ω, ◌+ω◌, neg, mulω, ω^, mul√2, √2^}
use Rattle.amplitude.specs.Matrix.{Entry, O, ω, times}
use Rattle.amplitude.proofs.NumberLaws.{zω≡, ω^_four, ω^-add}
use Rattle.dense_numbers.specs.Numbers.{Sized, most_doublings}
use Rattle.dense_numbers.proofs.Whole.{size_sum, size_negative}

-- two whole numbers added
sum_size : (k : ℕ) (x y : ℤ) → nat_abs x ≤ 2 ^ k → nat_abs y ≤ 2 ^ k → nat_abs (x +ℤ y) ≤ 2 ^ suc k
sum_size k x y h l = omega (arith, size_sum x y, pow-succ' 2 k)

-- a larger bound
pub sized_more : (j k : ℕ) (z : Zω) → j ≤ k → Sized j z → Sized k z
sized_more j k z l s =
    record { a = le_trans s.a (pow_mono l); b = le_trans s.b (pow_mono l); c = le_trans s.c (pow_mono l); d = le_trans s.d (pow_mono l) }

-- 0
pub sized_0ω : (k : ℕ) → Sized k 0ω
unfolding 0ω whole
sized_0ω k = record { a = omega arith; b = omega arith; c = omega arith; d = omega arith }

-- 1
pub sized_1ω : Sized 0 1ω
unfolding 1ω whole
sized_1ω = record { a = omega arith; b = omega arith; c = omega arith; d = omega arith }

-- a sum
pub sized_sum : (k : ℕ) (x y : Zω) → Sized k x → Sized k y → Sized (suc k) (x +ω y)
unfolding ◌+ω◌
sized_sum k x y s t =
    record {
      a = sum_size k x.a y.a s.a t.a;
      b = sum_size k x.b y.b s.b t.b;
      c = sum_size k x.c y.c s.c t.c;
      d = sum_size k x.d y.d s.d t.d;
    }

-- a negative
pub sized_neg : (k : ℕ) (x : Zω) → Sized k x → Sized k (neg x)
unfolding neg
sized_neg k x s =
    record {
      a = rw (size_negative x.a) s.a;
      b = rw (size_negative x.b) s.b;
      c = rw (size_negative x.c) s.c;
      d = rw (size_negative x.d) s.d;
    }

-- ω times a number
pub sized_mulω : (k : ℕ) (x : Zω) → Sized k x → Sized k (mulω x)
unfolding mulω
sized_mulω k x s = record { a = rw (size_negative x.d) s.d; b = s.a; c = s.b; d = s.c }

-- as the code has it
pub sized_omega : (x y : Zω) → y ≡ mulω x → Sized most_doublings x → Sized most_doublings y
sized_omega x y e s = rw e (sized_mulω most_doublings x s)

-- a power of ω times a number
pub sized_ω^ : (j k : ℕ) (x : Zω) → Sized k x → Sized k (ω^ j x)
unfolding ω^
sized_ω^ zero k x s = s
sized_ω^ (suc j) k x s = sized_mulω k (ω^ j x) (sized_ω^ j k x s)

-- an entry of a matrix times a number
pub sized_times : (e : Entry) (k : ℕ) (x : Zω) → Sized k x → Sized k (times e x)
unfolding times
sized_times O k x s = sized_0ω k
sized_times (ω j) k x s = sized_ω^ j k x s

-- √2 times a number
sized_mul√2 : (k : ℕ) (x : Zω) → Sized k x → Sized (suc k) (mul√2 x)
unfolding mul√2
sized_mul√2 k x s = sized_sum k (ω^ 1 x) (neg (ω^ 3 x)) (sized_ω^ 1 k x s) (sized_neg k (ω^ 3 x) (sized_ω^ 3 k x s))

-- and so k times
pub sized_√2^ : (k j : ℕ) (x : Zω) → Sized j x → Sized (j + k) (√2^ k x)
unfolding √2^
sized_√2^ zero j x s = rw (add-zero j) s
sized_√2^ (suc k) j x s = rw (add-suc j k) (sized_mul√2 (j + k) (√2^ k x) (sized_√2^ k j x s))

-- √2 times a number, by its coefficients
pub root_two : (x : Zω) → mul√2 x ≡ record { a = x.b -ℤ x.d; b = x.a +ℤ x.c; c = x.b +ℤ x.d; d = x.c -ℤ x.a }
unfolding mul√2 ω^ mulω neg ◌+ω◌
root_two x =
    zω≡ (rw (neg_ℤ-neg_ℤ x.b) (+ℤ_comm (neg_ℤ x.d) x.b)) (rw (neg_ℤ-neg_ℤ x.c))
    (rw (neg_ℤ-neg_ℤ x.d)) refl

-- ω⁴ is −1
pub upper_half : (k : ℕ) (x : Zω) → 4 ≤ k → ω^ (k - 4) (neg x) ≡ ω^ k x
upper_half k x high =
    let same : k - 4 + 4 ≡ k = omega arith in
    ap (ω^ (k - 4)) (sym (ω^_four x)) ∙ sym (ω^-add (k - 4) 4 x) ∙ ap (λ m. ω^ m x) same
