-- `comparison_searching::Candidates::weight_two` meets its contract: each qubit is passed with those below it, or the input is found beside it.
-- Assumes nothing.
use mathlib.Core.Path.{sym}
use native.Mathlib.Omega.{arith}
use Rattle.comparison_types.proofs.SearchLaws.{beside_start, pass_more, found_more, answer_none, answer_found}
use Rattle.comparison_searching.proofs.Candidates.weight_two.Goals as goal

pub loop-i-init : goal.loop-i-init
loop-i-init c = beside_start _ 0 1

pub returns-in-Some : goal.returns-in-Some
returns-in-Some c =
    answer_found _ 2 _ _ (found_more _ 0 _ 1 _ (omega arith) c.loop-i.invariant _ _ (omega arith) (sym c.in-Some.ensures))

pub loop-i-preserved : goal.loop-i-preserved
loop-i-preserved c = pass_more _ 0 _ 1 _ (omega arith) c.loop-i.invariant _ (omega arith) (sym c.in_default.ensures)

pub returns : goal.returns
returns c = answer_none _ 2 _ _ (omega arith) c.loop-i.invariant
