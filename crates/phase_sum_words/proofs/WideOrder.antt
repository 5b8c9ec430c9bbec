-- Sets over any number of words as numbers: which of two is the greater, when they are the same, and when one is empty.
-- Assumes nothing.
use mathlib.Core.Path.{◌≡◌, refl}
use mathlib.Core.Bool.{Bool, true, false}
use mathlib.Core.List.{List, [], ◌∷◌}
use Prim.Native.Nat.{ℕ, zero, suc, ◌^◌, ◌<◌, ◌≤◌}
use native.Mathlib.Omega.{arith}
use lib.Dec.{eqb, leb, ltb}
use lib.ListN.{length, get_or, replicate}
use lib.Seq.{ext_get_or}
use borrow.Author.Tests.{eqb-true, eqb-false, eq-eqb, ne_eqb, leb-true, leb-false, le-leb, lt-leb, ltb-true, ltb-false}
use Rattle.phase_sum_words.specs.Words.{word_bits, wide, AreWords}
use Rattle.phase_sum_words.proofs.Wide.{one_less}

-- one word is its own set
pub wide_one : (h : ℕ) → wide (h ∷ []) ≡ h
unfolding wide
wide_one h = omega arith

-- The same words above the lowest.
module _ (a b : ℕ) (ws : List ℕ) where
  -- a lowest word that is no greater, a set that is no greater
  pub wide_low_le : a ≤ b → wide (a ∷ ws) ≤ wide (b ∷ ws)
  unfolding wide
  wide_low_le l = omega arith

  -- a smaller one, a smaller set
  pub wide_low_lt : a < b → wide (a ∷ ws) < wide (b ∷ ws)
  unfolding wide
  wide_low_lt l = omega arith

-- Two sets by their lowest words and the words above.
module _ (x y : ℕ) (xs ys : List ℕ) where
  -- smaller words above, a smaller set
  high_lt : x < 2 ^ word_bits → wide xs < wide ys → wide (x ∷ xs) < wide (y ∷ ys)
  unfolding wide
  high_lt p l = omega arith

  -- the same set, the same words above
  same_high : x < 2 ^ word_bits → y < 2 ^ word_bits → wide (x ∷ xs) ≡ wide (y ∷ ys) → wide xs ≡ wide ys
  unfolding wide
  same_high p q e = omega arith

  -- and the same lowest word
  same_low : x < 2 ^ word_bits → y < 2 ^ word_bits → wide (x ∷ xs) ≡ wide (y ∷ ys) → x ≡ y
  unfolding wide
  same_low p q e = omega arith

  -- where the words above are the same, the lowest words decide the order
  pub leb_same : wide xs ≡ wide ys → leb (wide (x ∷ xs)) (wide (y ∷ ys)) ≡ leb x y
  leb_same e = go (leb x y) refl
    where
      go : (t : Bool) → leb x y ≡ t → leb (wide (x ∷ xs)) (wide (y ∷ ys)) ≡ t
      go true h = unfold wide in le-leb (wide (x ∷ xs)) (wide (y ∷ ys)) (omega (arith, leb-true x y h))
      go false h = unfold wide in lt-leb (wide (x ∷ xs)) (wide (y ∷ ys)) (omega (arith, leb-false x y h))

  -- where they differ, they decide it
  pub leb_other :
      x < 2 ^ word_bits → y < 2 ^ word_bits → (wide xs ≡ wide ys → ⊥) → leb (wide (x ∷ xs)) (wide (y ∷ ys)) ≡ ltb (wide xs) (wide ys)
  leb_other p q n = go (ltb (wide xs) (wide ys)) refl
    where
      go : (t : Bool) → ltb (wide xs) (wide ys) ≡ t → leb (wide (x ∷ xs)) (wide (y ∷ ys)) ≡ t
      go true h = unfold wide in le-leb (wide (x ∷ xs)) (wide (y ∷ ys)) (omega (arith, ltb-true (wide xs) (wide ys) h))
      go false h = unfold wide in lt-leb (wide (x ∷ xs)) (wide (y ∷ ys)) (omega (arith, ltb-false (wide xs) (wide ys) h))

  -- where the words above are the same, the sets are where the lowest words are
  pub eqb_same : x < 2 ^ word_bits → y < 2 ^ word_bits → wide xs ≡ wide ys → eqb (wide (x ∷ xs)) (wide (y ∷ ys)) ≡ eqb x y
  eqb_same p q e = go (eqb x y) refl
    where
      go : (t : Bool) → eqb x y ≡ t → eqb (wide (x ∷ xs)) (wide (y ∷ ys)) ≡ t
      go true h = unfold wide in eq-eqb (wide (x ∷ xs)) (wide (y ∷ ys)) (omega (arith, eqb-true x y h))
      go false h = ne_eqb (wide (x ∷ xs)) (wide (y ∷ ys)) (λ s. eqb-false x y h (same_low p q s))

  -- where they differ, the sets do
  pub eqb_other : x < 2 ^ word_bits → y < 2 ^ word_bits → (wide xs ≡ wide ys → ⊥) → eqb (wide (x ∷ xs)) (wide (y ∷ ys)) ≡ false
  eqb_other p q n = ne_eqb (wide (x ∷ xs)) (wide (y ∷ ys)) (λ s. n (same_high p q s))

-- the highest word in which two sets differ decides their order as numbers
pub wide_order :
    (xs ys : List ℕ) (i : ℕ) →
    length xs ≡ length ys →
    AreWords xs →
    get_or xs i 0 < get_or ys i 0 →
    ((j : ℕ) → i < j → get_or xs j 0 ≡ get_or ys j 0) →
    wide xs < wide ys
wide_order [] [] i e p l s = absurd (omega arith)
wide_order [] (y ∷ ys) i e p l s = absurd (omega arith)
wide_order (x ∷ xs) [] i e p l s = absurd (omega arith)
wide_order (x ∷ xs) (y ∷ ys) zero e p l s =
    let above : xs ≡ ys = ext_get_or 0 xs ys (one_less e) (λ j h. s (suc j) (omega arith)) in
    rw above (wide_low_lt x y ys l)
wide_order (x ∷ xs) (y ∷ ys) (suc i) e p l s =
    high_lt x y xs ys (p 0) (wide_order xs ys i (one_less e) (λ j. p (suc j)) l (λ j h. s (suc j) (omega arith)))

-- the same set, the same words
pub wide_injective : (xs ys : List ℕ) → length xs ≡ length ys → AreWords xs → AreWords ys → wide xs ≡ wide ys → xs ≡ ys
wide_injective [] [] e p q s = refl
wide_injective [] (y ∷ ys) e p q s = absurd (omega arith)
wide_injective (x ∷ xs) [] e p q s = absurd (omega arith)
wide_injective (x ∷ xs) (y ∷ ys) e p q s =
    let above : wide xs ≡ wide ys = same_high x y xs ys (p 0) (q 0) s in
    rw (same_low x y xs ys (p 0) (q 0) s, wide_injective xs ys (one_less e) (λ i. p (suc i)) (λ i. q (suc i)) above)

-- a set is empty where every word is 0
pub wide_emptied : (ws : List ℕ) → ((i : ℕ) → get_or ws i 0 ≡ 0) → wide ws ≡ 0
unfolding wide
wide_emptied [] z = refl
wide_emptied (w ∷ ws) z = rw (wide_emptied ws (λ i. z (suc i)), z 0)

-- and only there
pub wide_empty : (ws : List ℕ) → wide ws ≡ 0 → (i : ℕ) → get_or ws i 0 ≡ 0
unfolding wide
wide_empty [] e i = refl
wide_empty (w ∷ ws) e zero = omega arith
wide_empty (w ∷ ws) e (suc i) = wide_empty ws (omega arith) i

-- words that are 0 make up the empty set
pub wide_zeros : (k : ℕ) → wide (replicate k 0) ≡ 0
unfolding wide
wide_zeros zero = refl
wide_zeros (suc k) = rw (wide_zeros k)
