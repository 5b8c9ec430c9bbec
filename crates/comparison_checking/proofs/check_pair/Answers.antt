-- `comparison_checking::check_pair` meets its contract: what `check` answered says how each list reads, and for two accepted lists
-- `check_sizes` decides.
-- Assumes nothing.
use mathlib.Core.List.{[]}
use Rattle.std.proofs.lemmas.Result.{err_from_is_err_and}
use Rattle.record_format.proofs.Results.{told_ok, told_err}
use Rattle.comparison_types.specs.declared.Refusal.TheVariants.{First, Second}
use Rattle.comparison_types.proofs.PairLaws.{accepted_with, first_refused, second_refused}
use Rattle.comparison_checking.proofs.check_pair.Goals as goal

pub returns-in_err-one-clause-fault : goal.returns-in_err-one-clause-fault
returns-in_err-one-clause-fault c =
    let p = err_from_is_err_and c.from_residual.result c.from_residual.ensures.1 in
    let (e, was, is) = told_err First c.check.result c.map_err.result c.map_err.ensures.cases _ c.in_err-one.was in
    rw (p.1, p.2, is) (first_refused c.args.first.now c.args.second.now [] _ (rw was at c.check.ensures.answers))

pub returns-in_err-other-clause-fault : goal.returns-in_err-other-clause-fault
returns-in_err-other-clause-fault c =
    let q = c.from_residual-in_err-other in
    let p = err_from_is_err_and q.result q.ensures.1 in
    let ok = told_ok First c.check.result c.map_err.result c.map_err.ensures.cases _ c.in_ok-one.was in
    let (e, was, is) = told_err Second c.check-2.result c.map_err-2.result c.map_err-2.ensures.cases _ c.in_err-other.was in
    let first = accepted_with c.args.first.now (rw ok at c.check.ensures.answers) in
    rw (p.1, p.2, is) (second_refused c.args.first.now c.args.second.now [] _ first (rw was at c.check-2.ensures.answers))
