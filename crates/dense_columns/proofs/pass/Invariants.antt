-- `dense_columns::pass` meets its contract: after w turns the places whose key is below w are done, and no other.
-- Assumes nothing.
use Rattle.dense_columns.specs.Columns.{amplitude_at}
use Rattle.dense_columns.proofs.Passes.{Passed}
use Rattle.dense_columns.proofs.pass.Given as goal

abbrev pub invariant-loop-w : goal.invariant-loop-w
invariant-loop-w g l =
    Passed l.n (g.S.Step.key l.step) (g.S.Step.makes l.step) (amplitude_at l.initial.column) l.w l.column
