-- Laws of whole numbers: sums of the same summands come to one form; a product distributes over a sum and passes a negative through.
-- Assumes nothing.
use mathlib.Core.Path.{◌≡◌, sym, ◌∙◌, ap}
use Prim.Native.Nat.{zero, suc}
use lib.IntN.{ℤ, pos, negsuc, neg_ℤ, ◌+ℤ◌, ◌-ℤ◌, ◌*ℤ◌, +ℤ_comm, +ℤ_assoc, +ℤ_one, -ℤ_one, ℤ_ind, neg_ℤ-+ℤ, neg_ℤ-neg_ℤ, zero-*ℤ, *ℤ-zero, *ℤ-negsuc, suc_ℤ-*ℤ, pred_ℤ-*ℤ}

-- the first two of three summands exchanged
pub +ℤ-left : (a b c : ℤ) → a +ℤ (b +ℤ c) ≡ b +ℤ (a +ℤ c)
+ℤ-left a b c = sym (+ℤ_assoc a b c) ∙ ap (λ x. x +ℤ c) (+ℤ_comm a b) ∙ +ℤ_assoc b a c

-- the laws that sort the summands of a sum
pub ruleset sorting = (+ℤ_assoc, +ℤ_comm, +ℤ-left)

-- a product distributes over a sum on its right: 0 as a factor does, and with a number its neighbours do
pub *ℤ-+ℤ : (a b c : ℤ) → a *ℤ (b +ℤ c) ≡ a *ℤ b +ℤ a *ℤ c
*ℤ-+ℤ a b c = ℤ_ind Distributes (simp zero-*ℤ) (λ n. up (pos n)) (λ n. down (neg_ℤ (pos n))) a
  where
    Distributes : ℤ → Type 0
    Distributes k = k *ℤ (b +ℤ c) ≡ k *ℤ b +ℤ k *ℤ c

    up : (k : ℤ) → Distributes k → Distributes (k +ℤ pos 1)
    up k h = rw (+ℤ_one k) (simp (suc_ℤ-*ℤ, h, sorting))

    down : (k : ℤ) → Distributes k → Distributes (k -ℤ pos 1)
    down k h = rw (-ℤ_one k) (simp (pred_ℤ-*ℤ, h, neg_ℤ-+ℤ, sorting))

-- a product with a negative on its right
pub *ℤ_neg_ℤ : (a b : ℤ) → a *ℤ neg_ℤ b ≡ neg_ℤ (a *ℤ b)
*ℤ_neg_ℤ a (pos zero) = simp *ℤ-zero
*ℤ_neg_ℤ a (pos (suc n)) = *ℤ-negsuc a n
*ℤ_neg_ℤ a (negsuc n) = sym (ap neg_ℤ (*ℤ-negsuc a n) ∙ neg_ℤ-neg_ℤ (a *ℤ pos (suc n)))
