-- The variables of sets over any number of words: a set of one, the lowest, the parity of the lowest word's, and a set within another.
-- Assumes nothing.
use mathlib.Core.Path.{◌≡◌, refl, sym, ◌∙◌}
use mathlib.Core.Bool.{Bool, true, false, cond}
use mathlib.Core.List.{List, ◌∷◌}
use mathlib.Core.Option.{some}
use Prim.Native.Nat.{ℕ, zero, suc, ◌+◌, ◌-◌, ◌*◌, ◌/◌, ◌%◌, ◌^◌, ◌<◌, ◌≤◌}
use native.Mathlib.Nat.{add-zero, pow-succ', mod-eq_of_lt, div-eq_of_lt}
use native.Mathlib.Omega.{arith}
use lib.Arith.{bin_ind, lt-one}
use lib.Count.{count_trailing_zeros, under}
use lib.Dec.{eqb, ltb}
use lib.ListN.{get_or}
use lib.Pow.{pow-add, low}
use borrow.Author.Tests.{eqb-true, eqb-false, eq-eqb, ltb-true, ltb-false}
use Rattle.amplitude.specs.Bits.{bit}
use Rattle.amplitude.proofs.BitLaws.{bit_zero}
use Rattle.amplitude.proofs.XorLaws.{xor_falseʳ}
use Rattle.phase_sum_meaning.specs.Sets.{single, parity, first_such, from}
use Rattle.phase_sum_meaning.proofs.SetLaws.{parity_zero}
use Rattle.phase_sum_words.specs.Words.{word_bits, wide, AreWords, single_words, Lowest}
use Rattle.phase_sum_words.proofs.Word.{parity_cut}
use Rattle.phase_sum_words.proofs.Wide.{wide_bit}
use Rattle.phase_sum_words.proofs.WideOrder.{wide_zeros}

-- the set of variable v is word v / word_bits with its variable v % word_bits, the other words 0
pub wide-single : (k v : ℕ) → v < word_bits * k → wide (single_words k v) ≡ single v
unfolding wide
wide-single zero v l = absurd (omega arith)
wide-single (suc k) v l = go (ltb v word_bits) refl (wide-single k (v - word_bits))
  where
    go :
        (t : Bool) → ltb v word_bits ≡ t →
        (v - word_bits < word_bits * k → wide (single_words k (v - word_bits)) ≡ single (v - word_bits)) →
        wide (single_words (suc k) v) ≡ single v
    go true h later =
        let inside : v < word_bits = ltb-true v word_bits h in
        let word : v / word_bits ≡ 0 = omega arith in
        let place : v % word_bits ≡ v = omega arith in
        rw (word, place, wide_zeros k) (omega arith)
    go false h later =
        let above : word_bits ≤ v = ltb-false v word_bits h in
        let word : v / word_bits ≡ suc ((v - word_bits) / word_bits) = omega arith in
        let place : v % word_bits ≡ (v - word_bits) % word_bits = omega arith in
        let whole : v - word_bits + word_bits ≡ v = omega arith in
        rw (word, place, later (omega arith), add-zero) (sym (pow-add 2 (v - word_bits) word_bits) ∙ rw whole)

-- the lowest variable of a set is that of its first word that is not 0
pub wide_lowest :
    (ws : List ℕ) (i v : ℕ) →
    AreWords ws →
    v < word_bits →
    ((j : ℕ) → j < i → get_or ws j 0 ≡ 0) →
    Lowest v (get_or ws i 0) →
    Lowest (word_bits * i + v) (wide ws)
wide_lowest ws i v a l z m =
    let word : (word_bits * i + v) / word_bits ≡ i = omega arith in
    let place : (word_bits * i + v) % word_bits ≡ v = omega arith in
    (wide_bit ws a (word_bits * i + v) ∙ rw (word, place) m.0, λ u h. wide_bit ws a u ∙ below u h (ltb (u / word_bits) i) refl)
  where
    below :
        (u : ℕ) → u < word_bits * i + v → (t : Bool) → ltb (u / word_bits) i ≡ t → bit (u % word_bits) (get_or ws (u / word_bits) 0) ≡ false
    below u h true e = rw (z (u / word_bits) (ltb-true (u / word_bits) i e)) (bit_zero (u % word_bits))
    below u h false e =
        let word : u / word_bits ≡ i = omega (arith, ltb-false (u / word_bits) i e) in
        rw word (m.1 (u % word_bits) (omega arith))

-- the lowest variable is the first that the set holds, among the m variables from a on
first_from : (m a v s : ℕ) → a ≤ v → v < a + m → Lowest v s → first_such (λ u. bit u s) (from a m) ≡ some v
unfolding first_such from
first_from zero a v s l h w = absurd (omega arith)
first_from (suc m) a v s l h w = go (eqb a v) refl (first_from m (suc a) v s)
  where
    go :
        (t : Bool) → eqb a v ≡ t →
        (suc a ≤ v → v < suc a + m → Lowest v s → first_such (λ u. bit u s) (from (suc a) m) ≡ some v) →
        cond (bit a s) (some a) (first_such (λ u. bit u s) (from (suc a) m)) ≡ some v
    go true e later = rw (eqb-true a v e, w.0)
    go false e later =
        let before : a < v = omega (arith, eqb-false a v e) in
        rw (w.1 a before) (later before (omega arith) w)

-- among the first m
pub first_lowest : (m v s : ℕ) → v < m → Lowest v s → first_such (λ u. bit u s) (from 0 m) ≡ some v
first_lowest m v s h w = first_from m 0 v s (omega arith) (omega arith) w

-- the lowest variable of an odd number
odd_lowest : (s : ℕ) → s % 2 ≡ 1 → Lowest 0 s
odd_lowest s e = (unfold bit in eq-eqb (s % 2) 1 e, λ u h. absurd (omega arith))

-- that of an even one, by its half
even_lowest : (v s : ℕ) → s % 2 ≡ 0 → Lowest v (s / 2) → Lowest (suc v) s
unfolding bit
even_lowest v s e m = (m.0, below)
  where
    below : (u : ℕ) → u < suc v → bit u s ≡ false
    below zero h = unfold bit in rw e
    below (suc u) h = unfold bit in m.1 u (omega arith)

-- the count of zeros below the lowest 1 is the lowest variable
pub trailing_lowest : (k s : ℕ) → s < 2 ^ k → (s ≡ 0 → ⊥) → Lowest (count_trailing_zeros k s) s × (count_trailing_zeros k s < k)
unfolding count_trailing_zeros
trailing_lowest zero s l n = absurd (n (lt-one l))
trailing_lowest (suc k) s l n = go (s % 2) refl (trailing_lowest k (s / 2) (omega (arith, pow-succ' 2 k)))
  where
    go :
        (d : ℕ) → s % 2 ≡ d →
        ((s / 2 ≡ 0 → ⊥) → Lowest (count_trailing_zeros k (s / 2)) (s / 2) × (count_trailing_zeros k (s / 2) < k)) →
        Lowest (under d (count_trailing_zeros k (s / 2))) s × (under d (count_trailing_zeros k (s / 2)) < suc k)
    go zero e later =
        let half = later (λ z. n (omega arith)) in
        (even_lowest (count_trailing_zeros k (s / 2)) s e half.0, omega (arith, half.1))
    go (suc zero) e later = (odd_lowest s e, omega arith)
    go (suc (suc d)) e later = absurd (omega arith)

-- an input of one word meets the variables of the lowest word alone
pub parity_low : (w : ℕ) (ws : List ℕ) (x : ℕ) → w < 2 ^ word_bits → x < 2 ^ word_bits → parity (wide (w ∷ ws)) x ≡ parity w x
unfolding wide
parity_low w ws x p q =
    parity_cut word_bits (wide (w ∷ ws)) x
    ∙ rw (low (wide ws) word_bits p, mod-eq_of_lt q, div-eq_of_lt q, parity_zero) (xor_falseʳ (parity w x))

-- an odd number's lowest variable in another makes that odd
odd_within : (s t : ℕ) → (bit 0 s ≡ true → bit 0 t ≡ true) → s % 2 ≤ t % 2
unfolding bit
odd_within s t h = go (eqb (s % 2) 1) refl
  where
    go : (b : Bool) → eqb (s % 2) 1 ≡ b → s % 2 ≤ t % 2
    go true e = omega (arith, eqb-true (t % 2) 1 (unfold bit in h e), eqb-true (s % 2) 1 e)
    go false e = omega (arith, eqb-false (s % 2) 1 e)

-- a set within another is no greater as a number
pub wide_subset : (s t : ℕ) → ((v : ℕ) → bit v s ≡ true → bit v t ≡ true) → s ≤ t
unfolding bit
wide_subset =
    bin_ind
    (λ s. (t : ℕ) → ((v : ℕ) → bit v s ≡ true → bit v t ≡ true) → s ≤ t)
    (λ t h. omega arith)
    (λ s smaller t h. omega (arith, smaller (t / 2) (λ v. h (suc v)), odd_within s t (h 0)))
