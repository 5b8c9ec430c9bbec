-- `comparison_searching::Candidates::differs` meets its contract: at input 0 the terms add nothing, so the phase there is the constant.
-- Assumes nothing.
use Rattle.comparison_types.proofs.SearchLaws.{differs_from}
use Rattle.comparison_searching.proofs.Candidates.differs.Goals as goal

pub returns : goal.returns
returns c = rw c.constant.ensures (differs_from _ _ _ c.at.ensures)
