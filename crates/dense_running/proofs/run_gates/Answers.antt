-- `dense_running::run_gates` meets its contract: the gates from the place that is reached on are still to run.
-- Assumes nothing.
use mathlib.Core.Path.{refl}
use mathlib.Core.List.{[]}
use Prim.Native.Nat.{◌+◌}
use lib.ListN.{get_or, drop}
use Rattle.std.proofs.lemmas.List.{at_drop_more, at_drop_all}
use Rattle.record_format.specs.Gate.{gate_of_three}
use Rattle.record_format.specs.Reading.{gates_in}
use Rattle.record_format.proofs.Chunks.{gates_of, gates_of_chunks}
use Rattle.amplitude.specs.Circuit.{run}
use Rattle.dense_columns.specs.Columns.{amplitude_at}
use Rattle.dense_running.proofs.Stepwise.{ready_small, one_run, all_run}
use Rattle.dense_running.proofs.run_gates.Goals as goal

pub loop-bytes-init : goal.loop-bytes-init
loop-bytes-init c = rw (c.as_chunks.ensures.front, gates_of_chunks c.args.gates.now) (record { ready = c.requires.ready; reaches = λ w b. refl })

pub run_gate-requires-clause-within : goal.run_gate-requires-clause-within
run_gate-requires-clause-within c =
    let l = c.loop-bytes in
    let t = rw (at_drop_more gates_of c.as_chunks.result.0.now l.bytes-index [] c.loop-bytes-test.true) at l.invariant in
    rw c.from.ensures t.ready.within.0

pub run_gate-requires-clause-small : goal.run_gate-requires-clause-small
run_gate-requires-clause-small c = ready_small c.args.n _ c.loop-bytes.column c.loop-bytes.invariant.ready

pub loop-bytes-preserved : goal.loop-bytes-preserved
loop-bytes-preserved c =
    let l = c.loop-bytes in
    let chunks = c.as_chunks.result.0.now in
    let ran = rw c.from.ensures at c.run_gate.ensures in
    one_run c.args.n (run (gates_in c.args.gates.now) (amplitude_at c.args.column.now)) (gate_of_three (get_or chunks l.bytes-index []))
    (gates_of (drop (l.bytes-index + 1) chunks)) l.column c.run_gate.new.column
    (rw (at_drop_more gates_of chunks l.bytes-index [] c.loop-bytes-test.true) at l.invariant) ran

pub returns : goal.returns
returns c =
    let l = c.loop-bytes in
    all_run c.args.n _ l.column (rw (at_drop_all gates_of c.as_chunks.result.0.now l.bytes-index c.loop-bytes-test.false) at l.invariant)
