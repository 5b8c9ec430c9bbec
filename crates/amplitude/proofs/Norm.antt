-- The size of a number: the sum of the squares of its four coefficients. A power of ω keeps it, √2 doubles it, and only 0 has
-- size 0. It grows and shrinks by the parallelogram law, as every sum of squares does.
-- Assumes nothing.
use mathlib.Core.Path.{◌≡◌, refl, sym, ◌∙◌, ap, subst}
use Prim.Native.Nat.{ℕ, zero, suc, ◌+◌, ◌*◌, ◌-◌, ◌^◌}
use mathlib.Core.Bool.{Bool, true, false, cond}
use native.Mathlib.Nat.{add-zero, add_comm, mul-add, add-mul, mul_comm, mul_assoc, mul-one, suc-mul, pow-succ'}
use native.Mathlib.Omega.{arith}
use lib.Dec.{ltb}
use lib.IntN.{ℤ, pos, negsuc, neg_ℤ, nat_abs, sub_ℕ, ◌+ℤ◌, ◌-ℤ◌, +ℤ_comm, neg_ℤ-+ℤ, neg_ℤ-neg_ℤ}
use borrow.Author.Tests.{ltb-true, ltb-false}
use Rattle.amplitude.specs.Number.{Zω, whole, 0ω, 1ω, ◌+ω◌, neg, mulω, ω^, mul√2, √2^}
use Rattle.amplitude.proofs.NumberLaws.{zω≡}

-- the square of a whole number
unfoldable pub sq : ℤ → ℕ
sq k = nat_abs k * nat_abs k

-- the sum of the four squares
unfoldable pub norm : Zω → ℕ
norm z = sq z.a + sq z.b + sq z.c + sq z.d

-- the squares of a sum and of the difference, for the larger number first
squares : (m n d : ℕ) → m ≡ n + d → (m + n) * (m + n) + d * d ≡ 2 * (m * m) + 2 * (n * n)
squares m n d e = subst (λ k. (k + n) * (k + n) + d * d ≡ 2 * (k * k) + 2 * (n * n)) (sym e) expanded
  where
    expanded : (n + d + n) * (n + d + n) + d * d ≡ 2 * ((n + d) * (n + d)) + 2 * (n * n)
    expanded = simp (mul-add, add-mul) (omega (arith, mul_comm n d))

-- the same, whichever is larger
sum_and_difference : (m n : ℕ) → (m + n) * (m + n) + sq (sub_ℕ m n) ≡ 2 * (m * m) + 2 * (n * n)
unfolding sq
sum_and_difference m n = go (ltb m n) refl
  where
    abs : Bool → ℕ
    abs b = nat_abs (cond b (negsuc (n - suc m)) (pos (m - n)))

    go : (b : Bool) → ltb m n ≡ b → (m + n) * (m + n) + abs b * abs b ≡ 2 * (m * m) + 2 * (n * n)
    go true e = rw (add_comm m n) (squares n m (suc (n - suc m)) (omega (arith, ltb-true)) ∙ add_comm (2 * (n * n)) (2 * (m * m)))
    go false e = squares m n (m - n) (omega (arith, ltb-false))

-- a number and its negative have one square
sq_neg_ℤ : (k : ℤ) → sq (neg_ℤ k) ≡ sq k
unfolding sq
sq_neg_ℤ (pos zero) = refl
sq_neg_ℤ (pos (suc n)) = refl
sq_neg_ℤ (negsuc n) = refl

-- the parallelogram law for whole numbers, the first not negative
at_pos : (m : ℕ) (y : ℤ) → sq (pos m +ℤ y) + sq (pos m -ℤ y) ≡ 2 * sq (pos m) + 2 * sq y
unfolding sq
at_pos m (pos zero) = rw (add-zero m) (omega arith)
at_pos m (pos (suc n)) = sum_and_difference m (suc n)
at_pos m (negsuc n) = omega (arith, sum_and_difference m (suc n))

-- negating both summands changes no square
sq_both : (x y : ℤ) → sq (neg_ℤ x +ℤ neg_ℤ y) ≡ sq (x +ℤ y)
sq_both x y = ap sq (sym (neg_ℤ-+ℤ x y)) ∙ sq_neg_ℤ (x +ℤ y)

-- the law for the first of any sign
parallelogram : (x y : ℤ) → sq (x +ℤ y) + sq (x -ℤ y) ≡ 2 * sq x + 2 * sq y
parallelogram (pos m) y = at_pos m y
parallelogram (negsuc m) y =
    omega (arith, at_pos (suc m) y, sq_both (negsuc m) y, sq_both (pos (suc m)) y, sq_neg_ℤ (negsuc m))

-- only 0 has the square 0
sq_zero : (k : ℤ) → sq k ≡ 0 → k ≡ pos 0
unfolding sq
sq_zero (pos zero) h = refl
sq_zero (pos (suc n)) h = absurd (omega (arith, suc-mul n (suc n)))
sq_zero (negsuc n) h = absurd (omega (arith, suc-mul n (suc n)))

-- ω keeps the size
pub norm_mulω : (z : Zω) → norm (mulω z) ≡ norm z
unfolding norm mulω
norm_mulω z = rw (sq_neg_ℤ z.d) (omega arith)

-- so does each power of ω
pub norm_ω^ : (k : ℕ) (z : Zω) → norm (ω^ k z) ≡ norm z
unfolding ω^
norm_ω^ zero z = refl
norm_ω^ (suc k) z = norm_mulω (ω^ k z) ∙ norm_ω^ k z

-- √2 doubles the size
pub norm_mul√2 : (z : Zω) → norm (mul√2 z) ≡ 2 * norm z
unfolding norm mul√2 ω^ mulω neg ◌+ω◌
norm_mul√2 z =
    simp (neg_ℤ-neg_ℤ, +ℤ_comm (neg_ℤ z.d) z.b, +ℤ_comm z.a z.c)
    (omega (arith, parallelogram z.b z.d, parallelogram z.c z.a))

-- √2 to a power
pub norm_√2^ : (k : ℕ) (z : Zω) → norm (√2^ k z) ≡ 2 ^ k * norm z
unfolding √2^
norm_√2^ zero z = omega arith
norm_√2^ (suc k) z =
    norm_mul√2 (√2^ k z)
    ∙ ap (λ m. 2 * m) (norm_√2^ k z)
    ∙ sym (ap (λ m. m * norm z) (pow-succ' 2 k) ∙ mul_assoc 2 (2 ^ k) (norm z))

-- the parallelogram law
pub norm_parallelogram : (x y : Zω) → norm (x +ω y) + norm (x +ω neg y) ≡ 2 * norm x + 2 * norm y
unfolding norm ◌+ω◌ neg
norm_parallelogram x y =
    omega (arith, parallelogram x.a y.a, parallelogram x.b y.b, parallelogram x.c y.c, parallelogram x.d y.d)

-- only 0 has size 0
pub norm_zero : (z : Zω) → norm z ≡ 0 → z ≡ 0ω
unfolding norm 0ω whole
norm_zero z h =
    zω≡ (sq_zero z.a (omega arith)) (sq_zero z.b (omega arith)) (sq_zero z.c (omega arith)) (sq_zero z.d (omega arith))

-- the size of 0
pub norm_0ω : norm 0ω ≡ 0
unfolding norm sq 0ω whole
norm_0ω = refl

-- the size of 1
pub norm_1ω : norm 1ω ≡ 1
unfolding norm sq 1ω whole
norm_1ω = refl

-- the size of a power of ω times one of √2
pub norm_power : (h k : ℕ) → norm (√2^ h (ω^ k 1ω)) ≡ 2 ^ h
norm_power h k = norm_√2^ h (ω^ k 1ω) ∙ ap (λ m. 2 ^ h * m) (norm_ω^ k 1ω ∙ norm_1ω) ∙ mul-one (2 ^ h)
