-- What holds of sets of any number of words. Document 02, item 6.
-- Assumes nothing.
use mathlib.Core.Path.{◌≡◌, sym, ◌∙◌}
use mathlib.Core.List.{List}
use Prim.Native.Nat.{ℕ}
use lib.ListN.{length}
use Rattle.phase_sum_words.specs.Words.{Words, AnyWidth}
use Rattle.phase_sum_words.proofs.Wide.{wide_bit, wide_below, wide-xor, wide_or, wide_and, wide-except, wide-parity, wide_ones}
use Rattle.phase_sum_words.proofs.WideOrder.{wide_order, wide_injective, wide_empty, wide_emptied}
use Rattle.phase_sum_words.proofs.Variables.{wide-single, wide_lowest}
use Rattle.phase_sum_words.proofs.Views.{words_wide, length-sets_in, get_d_sets_in, set-sets_in, take-sets_in, drop-sets_in, sets_in_append, sets_in_zeros, bit-sets_in, words_sets_in, sets_in_injective}

-- two sets have as many words
as_many : {k : ℕ} {xs ys : List ℕ} → Words k xs → Words k ys → length xs ≡ length ys
as_many p q = p.count ∙ sym q.count

-- each operation on sets of k words is one on their words
pub any_width : (k : ℕ) → AnyWidth k
any_width k =
    record {
      member = λ ws p. wide_bit ws p.fit;
      below = λ ws p. rw p.count at (wide_below ws p.fit);
      single = wide-single k;
      exclusive_or = λ xs ys p q. wide-xor xs ys (as_many p q) p.fit q.fit;
      union = λ xs ys p q. wide_or xs ys (as_many p q) p.fit q.fit;
      common = λ xs ys p q. wide_and xs ys (as_many p q) p.fit q.fit;
      difference = λ xs ys p q. wide-except xs ys (as_many p q) p.fit q.fit;
      parity = λ ws xs p q. wide-parity ws xs (as_many p q) p.fit q.fit;
      count = λ ws p. wide_ones ws p.fit;
      order = λ xs ys i p q. wide_order xs ys i (as_many p q) p.fit;
      same = λ xs ys p q. wide_injective xs ys (as_many p q) p.fit q.fit;
      empty = λ ws p. wide_empty ws;
      emptied = wide_emptied;
      lowest = λ ws i v p. wide_lowest ws i v p.fit;
      words = λ ws p. rw p.count at (words_wide ws p.fit);
      places = length-sets_in k;
      at = get_d_sets_in k;
      stored = set-sets_in k;
      front = take-sets_in k;
      back = drop-sets_in k;
      joined = sets_in_append k;
      zeros = sets_in_zeros k;
      member_at = bit-sets_in k;
      words_back = words_sets_in k;
      injective = sets_in_injective k;
    }
