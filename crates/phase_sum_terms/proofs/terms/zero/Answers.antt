-- `phase_sum_terms::terms::zero` meets its contract: zeros in the words of sets are empty sets.
-- Assumes nothing.
use mathlib.Core.Path.{◌∙◌, ap}
use Prim.Native.Nat.{◌*◌}
use native.Mathlib.Omega.{arith}
use Rattle.phase_sum_meaning.specs.Room.{words_each}
use Rattle.phase_sum_words.specs.Words.{sets_in}
use Rattle.phase_sum_types.proofs.TwoWords.{some}
use Rattle.phase_sum_terms.proofs.Zeros.{zeros_put, sets_filled}
use Rattle.phase_sum_terms.proofs.terms.zero.Goals as goal

pub returns-clause-sets : goal.returns-clause-sets
returns-clause-sets c =
    let a = c.args in
    let ws = a.sets.now in
    let zeros = zeros_put (2 * a.from) (2 * a.to) ws c.fill.new.self (omega arith) (omega arith) (c.fill.ensures.after (λ y e. e)) in
    ap (sets_in words_each) zeros ∙ sets_filled words_each some ws a.from a.to c.requires.0 (omega arith)
