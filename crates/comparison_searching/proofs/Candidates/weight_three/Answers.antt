-- `comparison_searching::Candidates::weight_three` meets its contract: each qubit is passed with those below it, or the input is found beside it.
-- Assumes nothing.
use mathlib.Core.Path.{refl, sym, ◌∙◌}
use native.Mathlib.Omega.{arith}
use Rattle.comparison_types.proofs.SearchLaws.{beside_start, pass_itself, pass_more, found-itself, found_more, answer_none, answer_found}
use Rattle.comparison_types.proofs.TripleLaws.{shows_three}
use Rattle.comparison_searching.proofs.Candidates.weight_three.Goals as goal

pub loop-i-init : goal.loop-i-init
loop-i-init c = beside_start _ 0 2

pub loop-j-init : goal.loop-j-init
loop-j-init c = beside_start _ _ 1

pub loop-k-init : goal.loop-k-init
loop-k-init c =
    record {
      passed = beside_start _ _ 0;
      shows = shows_three _ _ c.requires.0 c.loop-i.i c.loop-j.j _ _ (omega arith) (omega arith) (omega arith)
          (rw (c.new.ensures, c.new-in-loop-j.ensures) at c.odd_both_in-both.ensures);
    }

pub returns-then-holds : goal.returns-then-holds
returns-then-holds c =
    let inv = c.loop-k.invariant in
    answer_found _ 3 _ _
    (found_more _ 0 _ 2 _ (omega arith) c.loop-i.invariant _ _ (omega arith)
    (found_more _ _ _ 1 _ (omega arith) c.loop-j.invariant _ _ (omega arith)
    (found_more _ _ _ 0 _ (omega arith) inv.passed _ _ (omega arith)
    (found-itself _ _ _ (inv.shows c.loop-k.k _ (omega arith) (omega arith) ∙ (sym (rw c.new-in-loop-k.ensures at c.holds.ensures) ∙ c.if-holds.true))))))

pub loop-k-preserved : goal.loop-k-preserved
loop-k-preserved c =
    let inv = c.loop-k.invariant in
    record {
      passed =
          pass_more _ _ _ 0 _ refl inv.passed _ refl
          (pass_itself _ _ _ (inv.shows c.loop-k.k _ (omega arith) refl ∙ (sym (rw c.new-in-loop-k.ensures at c.holds.ensures) ∙ c.if-holds.false)));
      shows = inv.shows;
    }

pub loop-j-preserved : goal.loop-j-preserved
loop-j-preserved c = pass_more _ _ _ 1 _ (omega arith) c.loop-j.invariant _ (omega arith) c.loop-k.invariant.passed

pub loop-i-preserved : goal.loop-i-preserved
loop-i-preserved c = pass_more _ 0 _ 2 _ (omega arith) c.loop-i.invariant _ (omega arith) c.loop-j.invariant

pub returns : goal.returns
returns c = answer_none _ 3 _ _ (omega arith) c.loop-i.invariant
