-- `comparison_searching::search` meets its contract: an input on at most 16 qubits is below 2^16.
-- Assumes nothing.
use mathlib.Core.Path.{◌≡◌}
use Prim.Native.Nat.{ℕ, ◌<◌, ◌≤◌, ◌^◌}
use Rattle.std.specs.Prelude.{Option, Some, None, IfSome}
use Rattle.phase_sum_meaning.specs.Phase.{Phase}
use Rattle.phase_sum_types.specs.Workspace.{found_of}
use Rattle.comparison_meaning.specs.Verdict.{candidates, first_differing}
use Rattle.comparison_types.proofs.VerdictLaws.{input-below}
use Rattle.comparison_searching.proofs.search.Goals as goal

-- what is found is an input
fits : (n : ℕ) (φ : Phase) (o : Option ℕ) → n ≤ 16 → found_of o ≡ first_differing φ (candidates 0 n) → IfSome o (λ x. x < 2 ^ 16)
fits n φ (Some x) few found = input-below n x φ few found
fits n φ None few found = tt

pub returns-clause-fits : goal.returns-clause-fits
returns-clause-fits c = fits _ _ _ c.count-n.ensures.few (rw c.count-n.ensures.count at c.first_differing.ensures)
