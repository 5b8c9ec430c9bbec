-- `phase_sum_passing::replace_unmerged` meets its contract. The loop's invariant: the constant is that of the first i terms,
-- these have been sent, and the others are as they were.
-- Assumes nothing.
use mathlib.Core.Path.{◌≡◌}
use Prim.Native.Nat.{ℕ, ◌%◌}
use Rattle.phase_sum_meaning.specs.Parity.{Parity, of, replace_in}
use Rattle.phase_sum_meaning.specs.Phase.{rebuild}
use Rattle.phase_sum_meaning.specs.Room.{words_each}
use Rattle.phase_sum_words.specs.Words.{sets_in}
use Rattle.phase_sum_types.specs.Workspace.{held, parity_of}
use Rattle.phase_sum_types.specs.Inner.{sent_to}
use Rattle.phase_sum_types.specs.declared.Parity.{Parity as ParityWord}
use Rattle.phase_sum_types.proofs.Passes.{Passed}
use Rattle.phase_sum_passing.proofs.replace_unmerged.Given as goal

-- the parity that a set becomes
abbrev pub replaced : ℕ → ParityWord → ℕ → Parity
replaced z p u = replace_in z (parity_of p) (of u)

abbrev pub invariant-loop-i : goal.invariant-loop-i
invariant-loop-i l = ((k : ℕ) → k % 8 ≡ l.initial.constant → l.constant ≡ (rebuild (replaced l.z l.p) k (held l.i (sets_in words_each l.initial.sets) l.initial.coeffs)).constant)
    × Passed (sent_to (replaced l.z l.p)) l.i (sets_in words_each l.initial.sets) l.initial.coeffs (sets_in words_each l.sets) l.coeffs
