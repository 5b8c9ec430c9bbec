-- The product of numbers a + bω + cω² + dω³: it commutes, associates, distributes over sums and passes ω and √2 through. Also sums over
-- the numbers below m.
-- Assumes nothing.
use mathlib.Core.Path.{◌≡◌, refl, sym, ◌∙◌, ap, subst}
use Prim.Native.Nat.{ℕ, zero, suc, ◌<◌}
use native.Mathlib.Decide.{ℕ_discrete}
use native.Mathlib.Omega.{arith}
use lib.IntN.{ℤ, one, +ℤ_assoc, +ℤ_idl, +ℤ_idr, ℤ_ind, neg_ℤ-+ℤ, *ℤ_comm, *ℤ-zero, *ℤ-one}
use Rattle.amplitude.specs.Number.{Zω, whole, 0ω, 1ω, ◌+ω◌, neg, mulω, ω^, mul√2, √2^, ◌*ω◌, sum_below}
use Rattle.amplitude.proofs.NumberLaws.{+ω_idl, +ω_idr, ω^_four}
use Rattle.amplitude.proofs.WholeLaws.{sorting, *ℤ-+ℤ, *ℤ_neg_ℤ}

-- the product commutes
pub *ω_comm : (x y : Zω) → x *ω y ≡ y *ω x
unfolding ◌*ω◌
*ω_comm x y = simp (*ℤ_comm, sorting)

-- it distributes over a sum on its right
pub *ω-+ω : (x y z : Zω) → x *ω (y +ω z) ≡ x *ω y +ω x *ω z
unfolding ◌*ω◌ ◌+ω◌
*ω-+ω x y z = simp (*ℤ-+ℤ, neg_ℤ-+ℤ, sorting)

-- and over a sum on its left
pub +ω-*ω : (x y z : Zω) → (x +ω y) *ω z ≡ x *ω z +ω y *ω z
+ω-*ω x y z = rw (*ω_comm (x +ω y) z, *ω_comm x z, *ω_comm y z) (*ω-+ω z x y)

-- times 0
pub *ω-0ω : (x : Zω) → x *ω 0ω ≡ 0ω
unfolding ◌*ω◌ 0ω whole
*ω-0ω x = simp *ℤ-zero

-- times 1
pub *ω-1ω : (x : Zω) → x *ω 1ω ≡ x
unfolding ◌*ω◌ 1ω whole one
*ω-1ω x = simp (*ℤ-zero, *ℤ-one, +ℤ_idl, +ℤ_idr)

-- times a number that ω multiplies
pub *ω-mulω : (x y : Zω) → x *ω mulω y ≡ mulω (x *ω y)
unfolding ◌*ω◌ mulω
*ω-mulω x y = simp (*ℤ_neg_ℤ, neg_ℤ-+ℤ, +ℤ_assoc)

-- times one that ω^k multiplies
pub *ω-ω^ : (k : ℕ) (x y : Zω) → x *ω ω^ k y ≡ ω^ k (x *ω y)
unfolding ω^
*ω-ω^ zero x y = refl
*ω-ω^ (suc k) x y = *ω-mulω x (ω^ k y) ∙ ap mulω (*ω-ω^ k x y)

-- times a negative, which ω⁴ makes
*ω-neg : (x y : Zω) → x *ω neg y ≡ neg (x *ω y)
*ω-neg x y = ap (λ z. x *ω z) (sym (ω^_four y)) ∙ *ω-ω^ 4 x y ∙ ω^_four (x *ω y)

-- times one that a power of √2 multiplies
pub *ω-√2^ : (k : ℕ) (x y : Zω) → x *ω √2^ k y ≡ √2^ k (x *ω y)
unfolding √2^ mul√2
*ω-√2^ zero x y = refl
*ω-√2^ (suc k) x y = simp (*ω-+ω, *ω-neg, *ω-ω^, *ω-√2^ k x y)

-- 1 times a number
1ω-*ω : (x : Zω) → 1ω *ω x ≡ x
1ω-*ω x = *ω_comm 1ω x ∙ *ω-1ω x

-- a number that ω multiplies, times another
mulω-*ω : (x y : Zω) → mulω x *ω y ≡ mulω (x *ω y)
mulω-*ω x y = rw (*ω_comm (mulω x) y, *ω_comm x y) (*ω-mulω y x)

-- what holds of 1 and is kept by sums and by ω holds of every number
from_one : (P : Zω → Type 0) → P 1ω → ((x y : Zω) → P x → P y → P (x +ω y)) → ((x : Zω) → P x → P (mulω x)) → (x : Zω) → P x
unfolding 1ω whole ◌+ω◌ neg mulω
from_one P at_one sum turn x =
    subst P built (sum _ _ (at_whole x.a) (turn _ (sum _ _ (at_whole x.b) (turn _ (sum _ _ (at_whole x.c) (turn _ (at_whole x.d)))))))
  where
    built : whole x.a +ω mulω (whole x.b +ω mulω (whole x.c +ω mulω (whole x.d))) ≡ x
    built = simp (+ℤ_idl, +ℤ_idr)

    at_minus : P (neg 1ω)
    at_minus = turn _ (turn _ (turn _ (turn _ at_one)))

    at_whole : (k : ℤ) → P (whole k)
    at_whole = ℤ_ind (λ k. P (whole k)) (sum _ _ at_one at_minus) (λ n h. sum _ _ h at_one) (λ n h. sum _ _ h at_minus)

-- the product associates
pub *ω_assoc : (x y z : Zω) → (x *ω y) *ω z ≡ x *ω (y *ω z)
*ω_assoc x y z =
    from_one (λ x. (x *ω y) *ω z ≡ x *ω (y *ω z))
    (simp 1ω-*ω) (λ x x' h h'. simp (+ω-*ω, h, h')) (λ x h. simp (mulω-*ω, h)) x

-- sums of functions that agree below m are equal
pub sum_below_cong : (m : ℕ) (f g : ℕ → Zω) → ((u : ℕ) → u < m → f u ≡ g u) → sum_below m f ≡ sum_below m g
unfolding sum_below
sum_below_cong zero f g h = refl
sum_below_cong (suc m) f g h = rw (sum_below_cong m f g (λ u l. h u (omega arith)), h m (omega arith))

-- a sum of zeros is 0
pub sum_below_zero : (m : ℕ) (f : ℕ → Zω) → ((u : ℕ) → u < m → f u ≡ 0ω) → sum_below m f ≡ 0ω
unfolding sum_below
sum_below_zero zero f h = refl
sum_below_zero (suc m) f h = rw (sum_below_zero m f (λ u l. h u (omega arith)), h m (omega arith)) (+ω_idl 0ω)

-- a sum of zeros and one other summand is that summand
pub sum_below_only : (m v : ℕ) (f : ℕ → Zω) → v < m → ((u : ℕ) → u < m → (u ≡ v → ⊥) → f u ≡ 0ω) → sum_below m f ≡ f v
unfolding sum_below
sum_below_only zero v f l h = absurd (omega arith)
sum_below_only (suc m) v f l h = go (ℕ_discrete v m) (λ below. sum_below_only m v f below (λ u b. h u (omega arith)))
  where
    go : Dec (v ≡ m) → (v < m → sum_below m f ≡ f v) → sum_below m f +ω f m ≡ f v
    go (yes last) before = rw (sum_below_zero m f (λ u b. h u (omega arith) (λ same. omega arith)), last) (+ω_idl (f m))
    go (no earlier) before = rw (before (omega arith), h m (omega arith) (λ same. earlier (sym same))) (+ω_idr (f v))
