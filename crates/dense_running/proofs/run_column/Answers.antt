-- `dense_running::run_column` meets its contract: the scaled input is ready for the gates, and they take it to the scaled column.
-- Assumes nothing.
use Rattle.record_format.specs.Reading.{gates_in}
use Rattle.dense_running.proofs.Starting.{start_ready, column-run}
use Rattle.dense_running.proofs.run_column.Goals as goal

pub run_gates-requires-clause-ready : goal.run_gates-requires-clause-ready
run_gates-requires-clause-ready c =
    start_ready c.args.n c.args.v c.args.k (gates_in c.args.gates.now) c.requires.within c.start.new.column c.start.ensures c.requires.few

pub returns : goal.returns
returns c =
    let ran = c.run_gates in
    column-run c.args.n c.args.v c.args.k (gates_in c.args.gates.now) c.requires.within c.start.new.column
    c.start.ensures ran.new.column ran.ensures
