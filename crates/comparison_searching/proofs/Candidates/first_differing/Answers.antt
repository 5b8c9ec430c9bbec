-- `comparison_searching::Candidates::first_differing` meets its contract: the answer is that of the first weight that has one; where no coefficient is odd and
-- no input of weight 1 or 2 differs, none of weight 3 does.
-- Assumes nothing.
use mathlib.Core.Path.{sym, ◌∙◌}
use borrow.Author.Tests.{eqb-true}
use Rattle.comparison_types.proofs.SearchLaws.{first_of_one, first_of_two, first_of_three, agreed}
use Rattle.comparison_types.proofs.TripleLaws.{none_of_three}
use Rattle.comparison_searching.proofs.Candidates.first_differing.Goals as goal

pub returns-then-is_some : goal.returns-then-is_some
returns-then-is_some c = first_of_one _ _ _ c.weight_one-one.ensures c.if-is_some.ensures

pub returns-then-is_some-2 : goal.returns-then-is_some-2
returns-then-is_some-2 c =
    first_of_two _ _ _ c.weight_one-one.ensures c.if-is_some.ensures _ c.weight_two-two.ensures c.if-is_some-2.ensures

pub returns-then-is_empty : goal.returns-then-is_empty
returns-then-is_empty c =
    let one = c.weight_one-one.ensures in
    let two = c.weight_two-two.ensures in
    first_of_three _ _ _ one c.if-is_some.ensures _ two c.if-is_some-2.ensures
    (none_of_three _ _ (agreed _ _ _ one c.if-is_some.ensures _ two c.if-is_some-2.ensures) _
    (eqb-true _ 0 (sym c.is_empty.ensures ∙ c.if-is_empty.true)) c.odd_mask-mask.ensures)

pub weight_three-requires : goal.weight_three-requires
weight_three-requires c = (
  agreed _ _ _ c.weight_one-one.ensures c.if-is_some.ensures _ c.weight_two-two.ensures c.if-is_some-2.ensures,
  c.odd_mask-mask.ensures,
)

pub returns : goal.returns
returns c =
    first_of_three _ _ _ c.weight_one-one.ensures c.if-is_some.ensures _ c.weight_two-two.ensures c.if-is_some-2.ensures c.weight_three.ensures
