-- `dense_running::run_gates` meets its contract: the gates from the place that is reached on are still to run.
-- Assumes nothing.
use lib.ListN.{drop}
use Rattle.record_format.specs.Reading.{gates_in}
use Rattle.record_format.proofs.Chunks.{gates_of}
use Rattle.amplitude.specs.Circuit.{run}
use Rattle.dense_columns.specs.Columns.{amplitude_at}
use Rattle.dense_running.proofs.Stepwise.{ToRun}
use Rattle.dense_running.proofs.run_gates.Given as goal

abbrev pub invariant-loop-bytes : goal.invariant-loop-bytes
invariant-loop-bytes l =
    ToRun l.n (run (gates_in l.gates) (amplitude_at l.initial.column)) (gates_of (drop l.bytes-index l.bytes-items)) l.column
