-- Worked cases of the definitions, by computation.
-- Assumes nothing.
use mathlib.Core.Path.{◌≡◌, refl}
use mathlib.Core.Bool.{true, xor}
use mathlib.Core.List.{[], ◌∷◌}
use Prim.Native.Nat.{◌+◌, ◌*◌, ◌^◌}
use lib.Bits.{bit_and, bit_or, bit_xor}
use lib.Count.{ones, ones_in}
use Rattle.amplitude.specs.Bits.{bit}
use Rattle.phase_sum_meaning.specs.Sets.{parity, parity_up_to}
use Rattle.phase_sum_words.specs.Words.{word_bits, wide, wordwise, except, parities, ones_of, single_words, words_of, first_sets, sets_in, words_in}

-- the low variables stand in the first word
pub low_first : wide (3 ∷ 5 ∷ 7 ∷ []) ≡ 3 + 5 * 2 ^ word_bits + 7 * 2 ^ (2 * word_bits)
unfolding wide
low_first = refl

-- and so they do among the words of a set
pub words_of_set_lem : words_of 3 (3 + 5 * 2 ^ word_bits + 7 * 2 ^ (2 * word_bits)) ≡ 3 ∷ 5 ∷ 7 ∷ []
unfolding words_of
words_of_set_lem = refl

-- the variable behind 63 is the first of the second word
pub second_word : single_words 2 (63 + 1) ≡ 0 ∷ 1 ∷ []
second_word = refl

-- five words hold two sets of two words, and the last word is in none
pub two_sets : sets_in 2 (1 ∷ 2 ∷ 3 ∷ 4 ∷ 5 ∷ []) ≡ (1 + 2 * 2 ^ word_bits) ∷ (3 + 4 * 2 ^ word_bits) ∷ []
unfolding sets_in first_sets wide
two_sets = refl

-- two sets as words, two words each
pub four_words : words_in 2 ((1 + 2 * 2 ^ word_bits) ∷ 3 ∷ []) ≡ 1 ∷ 2 ∷ 3 ∷ 0 ∷ []
unfolding words_in words_of
four_words = refl

-- what is in one of two sets, in either, in both, and in the first alone, word by word
pub words_xor : wordwise bit_xor (12 ∷ 1 ∷ []) (10 ∷ 0 ∷ []) ≡ 6 ∷ 1 ∷ []
unfolding wordwise
words_xor = refl

pub words_or : wordwise bit_or (12 ∷ 1 ∷ []) (10 ∷ 0 ∷ []) ≡ 14 ∷ 1 ∷ []
unfolding wordwise
words_or = refl

pub words_and : wordwise bit_and (12 ∷ 1 ∷ []) (10 ∷ 0 ∷ []) ≡ 8 ∷ 0 ∷ []
unfolding wordwise
words_and = refl

pub words_except : wordwise except (12 ∷ 1 ∷ []) (10 ∷ 0 ∷ []) ≡ 4 ∷ 1 ∷ []
unfolding wordwise
words_except = refl

-- two variables of the first word and one of the second, all of them 1
pub parity_of_words : parities (3 ∷ 1 ∷ []) (3 ∷ 1 ∷ []) ≡ true
unfolding parities parity parity_up_to bit xor
parity_of_words = refl

-- the count of the same three
pub ones_of_words : ones_of (3 ∷ 1 ∷ []) ≡ 3
unfolding ones_of ones ones_in
ones_of_words = refl
