-- `phase_sum_building::forwards` meets its contract: the gate of the next chunk fits, and once it has run, those of the chunks behind it are left.
-- Assumes nothing.
use mathlib.Core.List.{[], ◌∷◌}
use native.Mathlib.Omega.{arith}
use Rattle.std.proofs.lemmas.List.{at_drop_all}
use Rattle.record_format.proofs.Chunks.{gates_of, gates_of_chunks}
use Rattle.phase_sum_types.proofs.TwoWords.{words_long}
use Rattle.phase_sum_types.proofs.Running.{none_run, one_run, all_run, first_fit, gate_wires}
use Rattle.phase_sum_building.proofs.Building.{next_forwards}
use Rattle.phase_sum_building.proofs.forwards.Goals as goal

pub loop-bytes-init : goal.loop-bytes-init
loop-bytes-init c = rw (c.as_chunks.ensures.front, gates_of_chunks) (none_run _ _ _ c.requires.0)

pub run_gate-requires : goal.run_gate-requires
run_gate-requires c =
    let loop = c.loop-bytes in
    let next = next_forwards c.as_chunks.result.0.now loop.bytes-index c.loop-bytes-test.true c.from.ensures loop.invariant in
    (first_fit (_ ∷ []) _ next, omega arith)

pub loop-bytes-preserved : goal.loop-bytes-preserved
loop-bytes-preserved c =
    let loop = c.loop-bytes in
    let next = next_forwards c.as_chunks.result.0.now loop.bytes-index c.loop-bytes-test.true c.from.ensures loop.invariant in
    let kept = c.run_gate.auto in
    one_run _ _ _ next c.run_gate.ensures (words_long _ _ (gate_wires _ _ _ c.run_gate.ensures) kept.sets kept.coeffs)

pub returns : goal.returns
returns c =
    let loop = c.loop-bytes in
    all_run (rw (at_drop_all gates_of c.as_chunks.result.0.now loop.bytes-index c.loop-bytes-test.false) at loop.invariant)
