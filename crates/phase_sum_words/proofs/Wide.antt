-- Operations on sets over any number of words, word by word.
-- Assumes nothing.
use mathlib.Core.Path.{◌≡◌, refl, sym, ◌∙◌, ap}
use mathlib.Core.Bool.{Bool, true, false, ◌&&◌, ◌||◌, not, xor}
use mathlib.Core.List.{List, [], ◌∷◌}
use Prim.Native.Nat.{ℕ, zero, suc, ◌+◌, ◌-◌, ◌*◌, ◌/◌, ◌%◌, ◌^◌, ◌<◌, ◌≤◌}
use native.Mathlib.Nat.{mul-suc, add_comm}
use native.Mathlib.Omega.{arith}
use lib.Arith.{digits_lt}
use lib.Bits.{bit_and, bit_or, bit_xor, and_lt, or_lt, xor_lt}
use lib.Count.{ones, ones_in, ones_cat}
use lib.Dec.{ltb}
use lib.ListN.{length, get_or}
use lib.Pow.{pow-add, high, low}
use borrow.Author.Tests.{ltb-true, ltb-false}
use Rattle.amplitude.specs.Bits.{bit}
use Rattle.amplitude.proofs.BitLaws.{bit_zero, bits_ext}
use Rattle.amplitude.proofs.BlockLaws.{bit_low, bit_high}
use Rattle.phase_sum_meaning.specs.Sets.{◌△◌, parity}
use Rattle.phase_sum_meaning.proofs.SetLaws.{bit-△, parity_empty}
use Rattle.phase_sum_words.specs.Words.{word_bits, wide, AreWords, wordwise, except, parities, ones_of}
use Rattle.phase_sum_words.proofs.Word.{bit-bit_and, bit-bit_or, bit-except, xor-sets, parity_cut}

-- two lists with a word more each, of one length
pub one_less : {m n : ℕ} → suc m ≡ suc n → m ≡ n
one_less {m} {n} e = omega arith

-- a set is below what its words can hold
pub wide_below : (ws : List ℕ) → AreWords ws → wide ws < 2 ^ (word_bits * length ws)
unfolding wide
wide_below [] a = omega arith
wide_below (w ∷ ws) a =
    rw (mul-suc word_bits (length ws), pow-add 2 (word_bits * length ws) word_bits) (digits_lt (wide_below ws (λ i. a (suc i))) (a 0))

-- variable v is in word v / word_bits, there variable v % word_bits
pub wide_bit : (ws : List ℕ) → AreWords ws → (v : ℕ) → bit v (wide ws) ≡ bit (v % word_bits) (get_or ws (v / word_bits) 0)
unfolding wide
wide_bit [] a v = bit_zero v ∙ sym (bit_zero (v % word_bits))
wide_bit (w ∷ ws) a v = go (ltb v word_bits) refl (wide_bit ws (λ i. a (suc i)))
  where
    go :
        (t : Bool) → ltb v word_bits ≡ t →
        ((u : ℕ) → bit u (wide ws) ≡ bit (u % word_bits) (get_or ws (u / word_bits) 0)) →
        bit v (wide ws * 2 ^ word_bits + w) ≡ bit (v % word_bits) (get_or (w ∷ ws) (v / word_bits) 0)
    go true h later =
        let l : v < word_bits = ltb-true v word_bits h in
        let e : v / word_bits ≡ 0 = omega arith in
        let f : v % word_bits ≡ v = omega arith in
        rw (e, f) (sym (bit_low word_bits v _ l) ∙ ap (bit v) (low (wide ws) word_bits (a 0)))
    go false h later =
        let l : word_bits ≤ v = ltb-false v word_bits h in
        let e : v / word_bits ≡ suc ((v - word_bits) / word_bits) = omega arith in
        let f : v % word_bits ≡ (v - word_bits) % word_bits = omega arith in
        let g : v ≡ word_bits + (v - word_bits) = omega arith in
        rw (e, f)
        (ap (λ (u : ℕ). bit u (wide ws * 2 ^ word_bits + w)) g
        ∙ (bit_high word_bits (v - word_bits) _ ∙ rw (high (wide ws) word_bits (a 0)) (later (v - word_bits))))

-- An operation on words that goes through their bits by g.
module _ (op : ℕ → ℕ → ℕ) (g : Bool → Bool → Bool)
    (bits : (v a b : ℕ) → bit v (op a b) ≡ g (bit v a) (bit v b))
    (fits : (a b : ℕ) → a < 2 ^ word_bits → b < 2 ^ word_bits → op a b < 2 ^ word_bits)
    (none : g false false ≡ false) where
  -- nothing of nothing
  op_none : op 0 0 ≡ 0
  op_none = bits_ext (op 0 0) 0 (λ v. bits v 0 0 ∙ (rw (bit_zero v) none))

  -- a word of the result
  word_of : (xs ys : List ℕ) → length xs ≡ length ys → (i : ℕ) → get_or (wordwise op xs ys) i 0 ≡ op (get_or xs i 0) (get_or ys i 0)
  unfolding wordwise
  word_of [] [] e i = sym op_none
  word_of [] (y ∷ ys) e i = absurd (omega arith)
  word_of (x ∷ xs) [] e i = absurd (omega arith)
  word_of (x ∷ xs) (y ∷ ys) e zero = refl
  word_of (x ∷ xs) (y ∷ ys) e (suc i) = word_of xs ys (one_less e) i

  -- a variable of the result
  pub wide_op : (xs ys : List ℕ) → length xs ≡ length ys → AreWords xs → AreWords ys → (v : ℕ)
      → bit v (wide (wordwise op xs ys)) ≡ g (bit v (wide xs)) (bit v (wide ys))
  wide_op xs ys e p q v =
      let fit : AreWords (wordwise op xs ys) = λ i. rw (word_of xs ys e i) (fits _ _ (p i) (q i)) in
      wide_bit (wordwise op xs ys) fit v
      ∙ rw (word_of xs ys e (v / word_bits), bits (v % word_bits), wide_bit xs p v, wide_bit ys q v)

-- Two sets of as many words.
module _ (xs ys : List ℕ) (e : length xs ≡ length ys) (p : AreWords xs) (q : AreWords ys) where
  -- the union
  pub wide_or : (v : ℕ) → bit v (wide (wordwise bit_or xs ys)) ≡ bit v (wide xs) || bit v (wide ys)
  wide_or = wide_op bit_or ◌||◌ bit-bit_or (or_lt word_bits) refl xs ys e p q

  -- what both have
  pub wide_and : (v : ℕ) → bit v (wide (wordwise bit_and xs ys)) ≡ bit v (wide xs) && bit v (wide ys)
  wide_and = wide_op bit_and ◌&&◌ bit-bit_and (and_lt word_bits) refl xs ys e p q

  -- what the first has alone
  pub wide-except : (v : ℕ) → bit v (wide (wordwise except xs ys)) ≡ bit v (wide xs) && not (bit v (wide ys))
  wide-except =
      wide_op except (λ x y. x && not y) bit-except (λ a b l m. xor_lt word_bits a (bit_and a b) l (and_lt word_bits a b l m)) refl xs ys e p q

  -- the exclusive or
  pub wide-xor : wide (wordwise bit_xor xs ys) ≡ wide xs △ wide ys
  unfolding xor
  wide-xor =
      bits_ext (wide (wordwise bit_xor xs ys)) (wide xs △ wide ys)
      (λ v.
      wide_op bit_xor xor (λ u a b. ap (bit u) (xor-sets a b) ∙ bit-△ u a b) (xor_lt word_bits) refl xs ys e p q v
      ∙ sym (bit-△ v (wide xs) (wide ys)))

-- the parity of a set is the exclusive or of the parities of its words
pub wide-parity : (ws xs : List ℕ) → length ws ≡ length xs → AreWords ws → AreWords xs → parity (wide ws) (wide xs) ≡ parities ws xs
unfolding wide parities
wide-parity [] [] e p q = parity_empty 0
wide-parity [] (x ∷ xs) e p q = absurd (omega arith)
wide-parity (w ∷ ws) [] e p q = absurd (omega arith)
wide-parity (w ∷ ws) (x ∷ xs) e p q =
    parity_cut word_bits (wide ws * 2 ^ word_bits + w) (wide xs * 2 ^ word_bits + x)
    ∙ rw
    (low (wide ws) word_bits (p 0), low (wide xs) word_bits (q 0), high (wide ws) word_bits (p 0), high (wide xs) word_bits (q 0))
    (ap (λ (t : Bool). xor (parity w x) t) (wide-parity ws xs (one_less e) (λ i. p (suc i)) (λ i. q (suc i))))

-- a set has as many variables as its words together
pub wide_ones : (ws : List ℕ) → AreWords ws → ones (wide ws) ≡ ones_of ws
unfolding wide ones_of
wide_ones [] a = unfold ones ones_in in refl
wide_ones (w ∷ ws) a =
    ones_cat word_bits (wide ws) w (a 0) ∙ (rw (wide_ones ws (λ i. a (suc i))) (add_comm (ones_of ws) (ones w)))
