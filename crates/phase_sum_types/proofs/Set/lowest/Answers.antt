-- `phase_sum_types::Set::lowest` meets its contract: the zeros below the lowest bit of the first word that is not 0 count up to the lowest variable.
-- Assumes nothing.
use mathlib.Core.Path.{◌≡◌, sym}
use Prim.Native.Nat.{◌+◌}
use native.Mathlib.Omega.{arith}
use lib.Count.{count_trailing_zeros}
use Rattle.phase_sum_meaning.specs.Room.{most_variables}
use Rattle.phase_sum_words.specs.Words.{word_bits}
use Rattle.phase_sum_words.proofs.Variables.{first_lowest}
use Rattle.phase_sum_types.specs.Workspace.{set_of}
use Rattle.phase_sum_types.proofs.Members.{lowest_none}
use Rattle.phase_sum_types.proofs.TwoWords.{pair_lowest_low, pair_lowest_high, pair_none}
use Rattle.phase_sum_types.proofs.Set.lowest.Goals as goal

pub returns-then-self-ne0 : goal.returns-then-self-ne0
unfolding set_of
returns-then-self-ne0 c =
    let s = c.args.self in
    let found = pair_lowest_low s.low s.high (omega arith) (omega arith) c.if-self-ne0.true in
    rw c.new.ensures
    (sym (first_lowest most_variables (count_trailing_zeros word_bits s.low) (set_of s) (omega (arith, found.1)) found.0))

pub returns-then-self-ne0-2 : goal.returns-then-self-ne0-2
unfolding set_of
returns-then-self-ne0-2 c =
    let s = c.args.self in
    let found = pair_lowest_high s.low s.high (omega arith) (omega arith) (omega arith) c.if-self-ne0-2.true in
    rw c.new-then-self-ne0-2.ensures
    (sym (first_lowest most_variables (word_bits + count_trailing_zeros word_bits s.high) (set_of s) (omega (arith, found.1)) found.0))

pub returns : goal.returns
unfolding set_of
returns c =
    let s = c.args.self in
    let low : s.low ≡ 0 = omega arith in
    let high : s.high ≡ 0 = omega arith in
    rw (low, high, pair_none) (sym lowest_none)
