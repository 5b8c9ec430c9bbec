-- `phase_sum_building::forwards`, its loop: the gates of the chunks that are left are still to run.
-- Assumes nothing.
use lib.ListN.{length, drop}
use Rattle.record_format.specs.Reading.{gates_in}
use Rattle.record_format.proofs.Chunks.{gates_of}
use Rattle.phase_sum_types.specs.Unmerged.{append_gates, sum_in}
use Rattle.phase_sum_types.proofs.TwoWords.{by_words}
use Rattle.phase_sum_types.proofs.Running.{ToRun}
use Rattle.phase_sum_building.proofs.forwards.Given as goal

abbrev pub invariant-loop-bytes : goal.invariant-loop-bytes
invariant-loop-bytes l =
    let old = by_words l.initial.wires l.initial.sets l.initial.coeffs in
    ToRun (append_gates (length old.wires) (gates_in l.gates) (sum_in l.initial.now old)) (gates_of (drop l.bytes-index l.bytes-items))
    l.initial.now.phase.count l.now old (by_words l.wires l.sets l.coeffs)
