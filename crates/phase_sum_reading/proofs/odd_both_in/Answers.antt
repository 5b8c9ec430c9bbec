-- `phase_sum_reading::odd_both_in` meets its contract: no term of odd coefficient holds both variables where the mask has not both.
-- Assumes nothing.
use mathlib.Core.Path.{sym, ◌∙◌}
use Rattle.phase_sum_types.proofs.Passes.{odd_both_none}
use Rattle.phase_sum_reading.proofs.odd_both_in.Goals as goal

pub returns-else-holds_both : goal.returns-else-holds_both
returns-else-holds_both c =
    let a = c.args in
    let odd = c.requires in
    c.empty.ensures
    ∙ sym (odd_both_none a.i a.j _ (rw (← odd a.i, ← odd a.j) (sym c.holds_both.ensures ∙ c.if-holds_both.false)))
