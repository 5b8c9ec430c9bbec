-- `comparison_pinning::pin` meets its contract. The loop's invariant: pinning has come to qubit q, not blocked, and pinning what is left pins the whole; and the words are level.
-- Assumes nothing.
use Rattle.phase_sum_types.specs.Workspace.{Level}
use Rattle.phase_sum_types.proofs.TwoWords.{by_words}
use Rattle.comparison_types.proofs.PinLaws.{PinnedTo}
use Rattle.comparison_pinning.proofs.pin.Given as goal

abbrev pub invariant-loop-q : goal.invariant-loop-q
invariant-loop-q l = PinnedTo l.q l.fn.sum l.reached (by_words l.initial.wires l.initial.sets l.initial.coeffs) (by_words l.wires l.sets l.coeffs) × Level l.sets l.coeffs
