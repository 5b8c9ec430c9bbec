-- `comparison_searching::Candidates::weight_one` meets its contract: beside none, the inputs are those of weight 1.
-- Assumes nothing.
use mathlib.Core.Path.{◌∙◌}
use Rattle.comparison_types.proofs.SearchLaws.{beside_none}
use Rattle.comparison_searching.proofs.Candidates.weight_one.Goals as goal

pub returns : goal.returns
returns c = c.one_beside.ensures ∙ beside_none _ 1 c.args.self.now.n
