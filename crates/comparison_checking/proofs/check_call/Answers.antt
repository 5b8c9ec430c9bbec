-- `comparison_checking::check_call` meets its contract: a pair that the checks on the records refuse is refused by the same fault, and for
-- another the workspaces decide.
-- Assumes nothing.
use mathlib.Core.Path.{sym, ◌∙◌}
use mathlib.Core.Bool.{true, false}
use Rattle.std.proofs.lemmas.Result.{err_from_is_err_and}
use Rattle.comparison_types.proofs.PairLaws.{still_refused, call_decides}
use Rattle.comparison_checking.proofs.check_call.Goals as goal

pub returns-in_err-pair-clause-fault : goal.returns-in_err-pair-clause-fault
returns-in_err-pair-clause-fault c =
    let p = err_from_is_err_and c.from_residual.result c.from_residual.ensures.1 in
    rw (p.1, p.2) (still_refused _ _ _ _ c.in_err-pair.ensures.fault)

pub returns-then-workspace_short-clause-fault : goal.returns-then-workspace_short-clause-fault
returns-then-workspace_short-clause-fault c =
    let a = c.args in
    call_decides a.first.now a.second.now a.words a.bytes c.in_ok-pair.ensures.fault true (sym c.if-workspace_short.true ∙ c.workspace_short.ensures)

pub returns-clause-fault : goal.returns-clause-fault
returns-clause-fault c =
    let a = c.args in
    call_decides a.first.now a.second.now a.words a.bytes c.in_ok-pair.ensures.fault false (sym c.if-workspace_short.false ∙ c.workspace_short.ensures)
