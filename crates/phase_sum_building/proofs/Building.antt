-- The next of the gates that are to run, by the chunks that are left: the first of them, or backwards and inverted the last.
-- Assumes nothing.
use mathlib.Core.Path.{◌≡◌}
use mathlib.Core.List.{List, [], ◌∷◌, ◌++◌}
use Prim.Native.Nat.{ℕ, ◌+◌, ◌<◌}
use lib.ListN.{length, get_or, drop}
use Rattle.std.proofs.lemmas.List.{at_drop_more}
use Rattle.record_format.specs.Gate.{Gate, gate_of_three, inverse_gate, inverse_list}
use Rattle.record_format.proofs.Chunks.{gates_of, gates_of_last}
use Rattle.record_format.proofs.GateLaws.{inverse_snoc}
use Rattle.phase_sum_meaning.specs.Building.{PathSum}
use Rattle.phase_sum_types.specs.declared.Run.{Run}
use Rattle.phase_sum_types.specs.Workspace.{Lent}
use Rattle.phase_sum_types.proofs.Running.{ToRun}

module _ {u : PathSum} {m : ℕ} {r : Run} {l l' : Lent} {g : Gate} where
  -- in list order
  pub next_forwards :
      (chunks : List (List ℕ)) (i : ℕ) →
      i < length chunks →
      g ≡ gate_of_three (get_or chunks i []) →
      ToRun u (gates_of (drop i chunks)) m r l l' →
      ToRun u (g ∷ gates_of (drop (i + 1) chunks)) m r l l'
  next_forwards chunks i k e run = rw (e, ← at_drop_more gates_of chunks i [] k) run

  -- backwards
  pub next_backwards :
      {chunks : List (List ℕ)} (before : List (List ℕ)) (chunk : List ℕ) →
      chunks ≡ before ++ chunk ∷ [] →
      g ≡ inverse_gate (gate_of_three chunk) →
      ToRun u (inverse_list (gates_of chunks)) m r l l' →
      ToRun u (g ∷ inverse_list (gates_of before)) m r l l'
  next_backwards before chunk e f run = rw (e, gates_of_last, inverse_snoc, ← f) at run
