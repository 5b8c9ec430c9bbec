-- `phase_sum_building::backwards` meets its contract: the inverse of the last chunk's gate fits, and once it has run, those of the chunks before it
-- are left.
-- Assumes nothing.
use mathlib.Core.Path.{◌≡◌, ap, ◌∙◌}
use mathlib.Core.List.{[], ◌∷◌}
use native.Mathlib.Omega.{arith}
use Rattle.std.proofs.lemmas.List.{nil_from_length}
use Rattle.record_format.specs.Gate.{inverse_gate, inverse_list}
use Rattle.record_format.specs.Reading.{gates_in}
use Rattle.record_format.proofs.Chunks.{gates_of, gates_of_chunks}
use Rattle.phase_sum_types.proofs.TwoWords.{words_long}
use Rattle.phase_sum_types.proofs.Running.{none_run, one_run, all_run, first_fit, gate_wires}
use Rattle.phase_sum_building.proofs.Building.{next_backwards}
use Rattle.phase_sum_building.proofs.backwards.Goals as goal

pub loop-bytes-init : goal.loop-bytes-init
loop-bytes-init c =
    let whole : gates_of c.into_iter-bytes-iterator.result.iter.rest.now ≡ gates_in c.args.gates.now =
    cc (gates_of_chunks c.args.gates.now, c.as_chunks.ensures.front, c.iter.ensures.rest)
    in
    rw whole (none_run _ _ _ c.requires.0)

pub run_gate-requires : goal.run_gate-requires
run_gate-requires c =
    let inverted = c.inverse.ensures ∙ ap inverse_gate c.from.ensures in
    let next = next_backwards _ _ c.in-Some.ensures.steps inverted c.loop-bytes.invariant in
    (first_fit (_ ∷ []) _ next, omega arith)

pub loop-bytes-preserved : goal.loop-bytes-preserved
loop-bytes-preserved c =
    let inverted = c.inverse.ensures ∙ ap inverse_gate c.from.ensures in
    let next = next_backwards _ _ c.in-Some.ensures.steps inverted c.loop-bytes.invariant in
    let kept = c.run_gate.auto in
    one_run _ _ _ next c.run_gate.ensures (words_long _ _ (gate_wires _ _ _ c.run_gate.ensures) kept.sets kept.coeffs)

pub returns : goal.returns
unfolding inverse_list
returns c = all_run (rw (nil_from_length _ c.in-None.ensures.steps.0) at c.loop-bytes.invariant)
