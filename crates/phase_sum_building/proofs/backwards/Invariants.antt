-- `phase_sum_building::backwards`, its loop: the gates of the chunks that are left, backwards and inverted, are still to run.
-- Assumes nothing.
use lib.ListN.{length}
use Rattle.record_format.specs.Gate.{inverse_list}
use Rattle.record_format.specs.Reading.{gates_in}
use Rattle.record_format.proofs.Chunks.{gates_of}
use Rattle.phase_sum_types.specs.Unmerged.{append_gates, sum_in}
use Rattle.phase_sum_types.proofs.TwoWords.{by_words}
use Rattle.phase_sum_types.proofs.Running.{ToRun}
use Rattle.phase_sum_building.proofs.backwards.Given as goal

abbrev pub invariant-loop-bytes : goal.invariant-loop-bytes
invariant-loop-bytes l =
    let old = by_words l.initial.wires l.initial.sets l.initial.coeffs in
    ToRun (append_gates (length old.wires) (inverse_list (gates_in l.gates)) (sum_in l.initial.now old))
    (inverse_list (gates_of l.bytes-iterator.iter.rest.now)) l.initial.now.phase.count l.now old (by_words l.wires l.sets l.coeffs)
