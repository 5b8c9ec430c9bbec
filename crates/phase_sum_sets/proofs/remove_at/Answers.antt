-- `phase_sum_sets::remove_at` meets its contract: the variable is taken out of its word.
-- Assumes nothing.
use Prim.Native.Nat.{◌%◌}
use native.Mathlib.Omega.{arith}
use borrow.Author.Rules.{rules}
use Rattle.phase_sum_words.specs.Words.{word_bits}
use Rattle.phase_sum_words.proofs.Word.{shifted_one}
use Rattle.phase_sum_types.proofs.TwoWords.{fitting, pair_without}
use Rattle.phase_sum_sets.proofs.remove_at.Goals as goal

pub returns : goal.returns
returns c =
    let a = c.args in
    rw (c.number-n.ensures.number, shifted_one (a.v % word_bits) (omega arith))
    (pair_without a.words.now a.i (search rules) (fitting a.words.now (search rules)) a.v (search rules))
