-- One machine word as a set of variables: its shifts, its bit operations, and the parity of its bits by their count.
-- Assumes nothing.
use mathlib.Core.Path.{◌≡◌, refl, sym, ◌∙◌}
use mathlib.Core.Bool.{Bool, true, false, not, ◌&&◌, ◌||◌, xor, and_self}
use Prim.Native.Nat.{ℕ, zero, suc, ◌+◌, ◌*◌, ◌/◌, ◌%◌, ◌^◌, ◌<◌, min, max}
use native.Mathlib.Nat.{mod-eq_of_lt, mod-mod, one-mul, div-one, mod-one, zero-lt-suc}
use native.Mathlib.Omega.{arith}
use lib.Arith.{bin_ind}
use lib.Pow.{pow-lt}
use lib.Bits.{bit_and, bit_or, bit_xor, differ, and_step, or_step, xor_step}
use lib.Count.{ones, ones_step}
use lib.Dec.{eqb}
use Rattle.amplitude.specs.Bits.{digit, bit}
use Rattle.amplitude.proofs.BitLaws.{digit-below, digit-eqb, rest_below, bits_ext}
use Rattle.amplitude.proofs.BlockLaws.{high_half, low_half, bit_low}
use Rattle.amplitude.proofs.XorLaws.{xor_falseˡ, xor_assoc}
use Rattle.phase_sum_meaning.specs.Sets.{◌△◌, single, parity}
use Rattle.phase_sum_meaning.proofs.SetLaws.{sum_bit, bit-△, parity_step, parity_empty}
use Rattle.phase_sum_words.specs.Words.{word_bits, except}

-- 1 shifted by the number of a variable is the set of that variable
pub shifted_one : (v : ℕ) → v < word_bits → (1 * 2 ^ v) % 2 ^ word_bits ≡ single v
shifted_one v l = rw one-mul (mod-eq_of_lt (pow-lt l))

-- the lowest bit of a set shifted down by the number of a variable is the variable's
pub shifted_bit : (v s : ℕ) → eqb (s / 2 ^ v % 2) 1 ≡ bit v s
unfolding bit
shifted_bit zero s = rw div-one
shifted_bit (suc v) s = rw (← high_half) (shifted_bit v (s / 2))

-- a digit tested for 1 gives its bit back
digit_test : (x : Bool) → eqb (digit x) 1 ≡ x
digit_test true = refl
digit_test false = refl

-- An operation that goes through the digits of two numbers by f, where f is g on digits.
module _ (op f : ℕ → ℕ → ℕ) (g : Bool → Bool → Bool)
    (step : (a b : ℕ) → op a b ≡ op (a / 2) (b / 2) * 2 + f (a % 2) (b % 2))
    (digits : (x y : Bool) → f (digit x) (digit y) ≡ digit (g x y)) where
  -- the result by its lowest bit and the others
  op_step : (a b : ℕ) → op a b ≡ op (a / 2) (b / 2) * 2 + digit (g (bit 0 a) (bit 0 b))
  unfolding bit
  op_step a b = rw (step a b, ← digits, digit-eqb (a % 2) (rest_below a), digit-eqb (b % 2) (rest_below b))

  -- the result halved
  op_half : (a b : ℕ) → op a b / 2 ≡ op (a / 2) (b / 2)
  op_half a b = omega (arith, op_step a b, digit-below (g (bit 0 a) (bit 0 b)))

  -- each bit of the result
  bit_op : (v a b : ℕ) → bit v (op a b) ≡ g (bit v a) (bit v b)
  unfolding bit
  bit_op zero a b =
      let odd : op a b % 2 ≡ digit (g (bit 0 a) (bit 0 b)) = omega (arith, op_step a b, digit-below (g (bit 0 a) (bit 0 b))) in
      rw odd (digit_test (g (bit 0 a) (bit 0 b)))
  bit_op (suc v) a b = rw op_half (bit_op v (a / 2) (b / 2))

-- the smaller of two digits is 1 where both are
min-digits : (x y : Bool) → min (digit x) (digit y) ≡ digit (x && y)
min-digits true true = refl
min-digits true false = refl
min-digits false true = refl
min-digits false false = refl

-- the larger of two digits is 1 where one is
max-digits : (x y : Bool) → max (digit x) (digit y) ≡ digit (x || y)
max-digits true true = refl
max-digits true false = refl
max-digits false true = refl
max-digits false false = refl

-- two digits differ where one is 1 and not both
differ_digits : (x y : Bool) → differ (digit x) (digit y) ≡ digit (xor x y)
unfolding xor
differ_digits true true = refl
differ_digits true false = refl
differ_digits false true = refl
differ_digits false false = refl

-- the machine's or is the union
pub bit-bit_or : (v a b : ℕ) → bit v (bit_or a b) ≡ bit v a || bit v b
bit-bit_or = bit_op bit_or max ◌||◌ or_step max-digits

-- the machine's and is what both have
pub bit-bit_and : (v a b : ℕ) → bit v (bit_and a b) ≡ bit v a && bit v b
bit-bit_and = bit_op bit_and min ◌&&◌ and_step min-digits

-- the machine's exclusive or is that of sets
pub xor-sets : (a b : ℕ) → bit_xor a b ≡ a △ b
xor-sets a b =
    bits_ext (bit_xor a b) (a △ b) (λ v. bit_op bit_xor differ xor xor_step differ_digits v a b ∙ sym (bit-△ v a b))

-- what is in one set and not in another
and_not : (a b : Bool) → xor a (a && b) ≡ a && not b
unfolding xor
and_not true true = refl
and_not true false = refl
and_not false b = refl

-- the machine's exclusive or with what both have is the difference
pub bit-except : (v a b : ℕ) → bit v (except a b) ≡ bit v a && not (bit v b)
bit-except v a b = rw (xor-sets, bit-△, bit-bit_and) (and_not (bit v a) (bit v b))

-- the parity of a set at an input is that of the bits that both have
parity_and : (s x : ℕ) → parity s x ≡ parity (bit_and s x) (bit_and s x)
parity_and =
    bin_ind
    (λ s. (x : ℕ) → parity s x ≡ parity (bit_and s x) (bit_and s x))
    (λ x. parity_empty x ∙ sym (parity_empty 0))
    (λ s h x.
    rw (
      parity_step s x,
      h (x / 2),
      parity_step (bit_and s x) (bit_and s x),
      and_self,
      bit-bit_and 0 s x,
      op_half bit_and min ◌&&◌ and_step min-digits s x,
    ))

-- a parity by the first k variables and the others
pub parity_cut : (k s x : ℕ) → parity s x ≡ xor (parity (s % 2 ^ k) (x % 2 ^ k)) (parity (s / 2 ^ k) (x / 2 ^ k))
parity_cut zero s x = simp (mod-one, div-one, parity_empty, xor_falseˡ)
parity_cut (suc k) s x =
    rw
    (parity_step s x, parity_cut k (s / 2) (x / 2), high_half k s, high_half k x, parity_step (s % 2 ^ suc k) (x % 2 ^ suc k))
    (simp (low_half, bit_low (suc k) 0, zero-lt-suc k) (sym (xor_assoc _ _ _)))

-- the parity of a word's own bits is that of how many are 1
parity_ones : (x : ℕ) → eqb (ones x % 2) 1 ≡ parity x x
unfolding ones bit
parity_ones =
    bin_ind
    (λ x. eqb (ones x % 2) 1 ≡ parity x x)
    (sym (parity_empty 0))
    (λ x h. rw (parity_step x x, and_self, ← h, ones_step x, sum_bit (x % 2) (ones (x / 2)), mod-mod x 2))

-- the parity of a set at an input, by the count of the bits that both have
pub parity_counted : (s x : ℕ) → eqb (ones (bit_and s x) % 2) 1 ≡ parity s x
parity_counted s x = parity_ones (bit_and s x) ∙ sym (parity_and s x)
