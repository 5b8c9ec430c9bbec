-- `comparison_searching::Candidates::one_beside` meets its contract: each qubit is passed, or found.
-- Assumes nothing.
use mathlib.Core.Path.{◌≡◌, refl, sym, ◌∙◌}
use native.Mathlib.Omega.{arith}
use Rattle.comparison_types.proofs.SearchLaws.{power_small, beside_start, pass_itself, pass_more, found-itself, found_more}
use Rattle.comparison_searching.proofs.Candidates.one_beside.Goals as goal

pub loop-i-init : goal.loop-i-init
loop-i-init c = beside_start _ _ 0

pub overflow_add-input : goal.overflow_add-input
overflow_add-input c = omega (arith, power_small c.loop-i.i)

pub returns-then-differs : goal.returns-then-differs
returns-then-differs c =
    sym (found_more _ _ _ 0 _ (omega arith) c.loop-i.invariant _ _ (omega arith) (found-itself _ _ _ (sym c.differs.ensures ∙ c.if-differs.true)))

pub loop-i-preserved : goal.loop-i-preserved
loop-i-preserved c =
    pass_more _ _ _ 0 _ (omega arith) c.loop-i.invariant _ refl (pass_itself _ _ _ (sym c.differs.ensures ∙ c.if-differs.false))

pub returns : goal.returns
returns c =
    let all : c.args.below ≡ c.loop-i.i = omega arith in
    rw all (sym c.loop-i.invariant)
