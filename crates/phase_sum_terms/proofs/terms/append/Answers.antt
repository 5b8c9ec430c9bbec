-- `phase_sum_terms::terms::append` meets its contract. Two stores put the term behind those in use.
-- Assumes nothing.
use native.Mathlib.Omega.{arith}
use Rattle.phase_sum_meaning.specs.Room.{words_each}
use Rattle.phase_sum_words.specs.Words.{sets_in}
use Rattle.phase_sum_types.specs.Workspace.{set_of}
use Rattle.phase_sum_types.proofs.Places.{stored_next}
use Rattle.phase_sum_types.proofs.TwoWords.{inside}
use Rattle.phase_sum_terms.proofs.terms.append.Goals as goal

pub returns : goal.returns
returns c =
    let a = c.args in
    let ws = a.sets.now in
    rw c.store.ensures
    (stored_next
    a.count
    (set_of a.set)
    a.coeff
    (sets_in words_each ws)
    a.coeffs.now
    (inside ws (omega arith))
    c.requires.1)
