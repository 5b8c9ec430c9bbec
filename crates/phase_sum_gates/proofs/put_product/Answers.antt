-- `phase_sum_gates::put_product` meets its contract. Each call of `put_phase` leaves the workspaces as long as they were,
-- with one term more in them.
-- Assumes nothing.
use mathlib.Core.Path.{◌≡◌}
use Prim.Native.Nat.{ℕ, ◌+◌, ◌≤◌}
use native.Mathlib.Omega.{arith}
use mathlib.Core.List.{List, [], ◌∷◌}
use lib.ListN.{length}
use Rattle.phase_sum_meaning.specs.Parity.{Parity}
use Rattle.phase_sum_meaning.specs.Building.{with_phase}
use Rattle.phase_sum_types.specs.declared.Phase.{Phase}
use Rattle.phase_sum_types.specs.Workspace.{parity_of, phase_of, Phased, places_in, sets_at}
use Rattle.phase_sum_types.specs.Unmerged.{put_behind}
use Rattle.phase_sum_types.proofs.TwoWords.{all_inside}
use Rattle.phase_sum_types.proofs.WireLaws.{stored-count, put_more}
use Rattle.phase_sum_gates.proofs.put_product.Goals as goal

-- a phase put behind the others is one term more
one_more :
    (c : ℕ) (w : Parity) (p : Phase) {q : Phase} (words : List ℕ) {cs ss' cs' : List ℕ} →
    p.count ≤ places_in words →
    p.count ≤ length cs →
    Phased (put_behind c w (phase_of p (sets_at words) cs)) p.count q (sets_at words) cs ss' cs' →
    q.count ≡ p.count + 1
unfolding put_behind
one_more c w p words l k e = stored-count (_ ∷ []) (all_inside words l) k e.terms

pub put_phase-twice-requires : goal.put_phase-twice-requires
put_phase-twice-requires c =
    let once = one_more _ _ c.args.phase c.args.sets.now (omega arith) (omega arith) c.put_phase-once.ensures in
    (omega arith, omega arith)

pub put_phase-requires : goal.put_phase-requires
put_phase-requires c =
    let once = one_more _ _ c.args.phase c.args.sets.now (omega arith) (omega arith) c.put_phase-once.ensures in
    let twice = one_more _ _ c.put_phase-once.result _ (omega arith) (omega arith) c.put_phase-twice.ensures in
    (omega arith, omega arith)

pub returns : goal.returns
unfolding with_phase
returns c =
    let sum = c.bitxor in
    let v = parity_of c.args.v in
    rw (← sum.ensures)
    (put_more 6 (parity_of sum.result) (put_more 2 v c.put_phase-once.ensures c.put_phase-twice.ensures)
    c.put_phase.ensures)
