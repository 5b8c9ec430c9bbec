-- Whole numbers of bounded size, as the machine adds and subtracts them. A number that is stored is read back as
-- `to_z w64 (of_z w64 z)`, which is z where z fits.
-- Assumes nothing.
use mathlib.Core.Path.{◌≡◌, refl, ◌∙◌, ap}
use Prim.Native.Nat.{ℕ, zero, suc, ◌+◌, ◌-◌, ◌^◌, ◌≤◌}
use mathlib.Core.Bool.{Bool, true, false, cond}
use native.Mathlib.Omega.{arith}
use lib.Dec.{ltb}
use lib.IntN.{ℤ, pos, negsuc, neg_ℤ, nat_abs, sub_ℕ, ◌+ℤ◌, ◌-ℤ◌, +ℤ_idl}
use borrow.Author.Tests.{ltb-true, ltb-false}
use mir.Syntax.{w64}
use mir.Val.{SFits, to_z, of_z}
use mir.ValLaws.{to_z-of_z}
use Rattle.dense_numbers.specs.Numbers.{most_doublings}

-- what is read back of a number that was stored
abbrev pub back : ℤ → ℤ
back z = to_z w64 (of_z w64 z)

-- a difference of two naturals is no larger than their sum
size_sub_ℕ : (m n : ℕ) → nat_abs (sub_ℕ m n) ≤ m + n
size_sub_ℕ m n = go (ltb m n) refl
  where
    go : (b : Bool) → ltb m n ≡ b → nat_abs (cond b (negsuc (n - suc m)) (pos (m - n))) ≤ m + n
    go true e = omega (arith, ltb-true)
    go false e = omega (arith, ltb-false)

-- a sum is no larger than its parts together
pub size_sum : (x y : ℤ) → nat_abs (x +ℤ y) ≤ nat_abs x + nat_abs y
size_sum (pos m) (pos n) = omega arith
size_sum (pos m) (negsuc n) = size_sub_ℕ m (suc n)
size_sum (negsuc m) (pos n) = omega (arith, size_sub_ℕ n (suc m))
size_sum (negsuc m) (negsuc n) = omega arith

-- a number's negative has its size
pub size_negative : (x : ℤ) → nat_abs (neg_ℤ x) ≡ nat_abs x
size_negative (pos zero) = refl
size_negative (pos (suc n)) = refl
size_negative (negsuc n) = refl

-- twice the largest size still fits
fits : (z : ℤ) → nat_abs z ≤ 2 ^ suc most_doublings → SFits w64 z
fits (pos n) h = record { sfits = omega arith }
fits (negsuc n) h = record { sfits = omega arith }

-- a small number is read back as it is
pub same_back : (x : ℤ) → nat_abs x ≤ 2 ^ most_doublings → back x ≡ x
same_back x h = to_z-of_z w64 x (fits x (omega arith))

-- two small numbers
module _ (x y : ℤ) (h : nat_abs x ≤ 2 ^ most_doublings) (k : nat_abs y ≤ 2 ^ most_doublings) where
  -- their sum fits
  pub sum_fits : SFits w64 (back x +ℤ back y)
  sum_fits = rw (same_back x h, same_back y k) (fits (x +ℤ y) (omega (arith, size_sum x y)))

  -- and is read back as the sum
  pub sum_back : back (back x +ℤ back y) ≡ x +ℤ y
  sum_back = to_z-of_z w64 _ sum_fits ∙ (λ i. same_back x h i +ℤ same_back y k i)

  -- their difference fits
  pub difference_fits : SFits w64 (back x -ℤ back y)
  difference_fits =
      rw (same_back x h, same_back y k) (fits (x -ℤ y) (omega (arith, size_sum x (neg_ℤ y), size_negative y)))

  -- and is read back as the difference
  pub difference_back : back (back x -ℤ back y) ≡ x -ℤ y
  difference_back = to_z-of_z w64 _ difference_fits ∙ (λ i. same_back x h i -ℤ same_back y k i)

-- one small number
module _ (x : ℤ) (h : nat_abs x ≤ 2 ^ most_doublings) where
  -- its negative fits
  pub negative_fits : SFits w64 (pos 0 -ℤ back x)
  negative_fits = rw (same_back x h) (fits (pos 0 -ℤ x) (rw (+ℤ_idl (neg_ℤ x)) (omega (arith, size_negative x))))

  -- and is read back as the negative
  pub negative_back : back (pos 0 -ℤ back x) ≡ neg_ℤ x
  negative_back = to_z-of_z w64 _ negative_fits ∙ ap (λ z. pos 0 -ℤ z) (same_back x h) ∙ +ℤ_idl (neg_ℤ x)
