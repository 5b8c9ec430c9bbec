-- `phase_sum_terms::reading::PhaseTerms::at` meets its contract. The loop's invariant: the sum is the phase of the terms so far, mod 8.
-- Assumes nothing.
use mathlib.Core.Path.{◌≡◌}
use Prim.Native.Nat.{◌+◌, ◌%◌}
use Rattle.phase_sum_meaning.specs.Phase.{sum_at}
use Rattle.phase_sum_terms.proofs.reading.PhaseTerms.at.Given as goal

abbrev pub invariant-loop-term : goal.invariant-loop-term
invariant-loop-term l = l.sum ≡ (l.self.constant + sum_at l.yielded l.input) % 8
