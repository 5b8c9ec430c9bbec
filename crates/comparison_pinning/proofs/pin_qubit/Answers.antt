-- `comparison_pinning::pin_qubit` meets its contract: where the search finds a variable, the qubit is pinned by it; where not, the mismatch decides.
-- Assumes nothing.
use mathlib.Core.Path.{sym, ap, ◌∙◌}
use lib.ListN.{length}
use Rattle.phase_sum_types.proofs.TwoWords.{words_long}
use Rattle.phase_sum_types.proofs.Changing.{sized_stands, wires-replace}
use Rattle.comparison_types.proofs.PinLaws.{pinned-found, pinned_free, pinned_stuck}
use Rattle.comparison_pinning.proofs.pin_qubit.Goals as goal

pub replace-requires : goal.replace-requires
replace-requires c = (sized_stands c.requires.2, c.requires.3)

pub returns-in-Some : goal.returns-in-Some
returns-in-Some c =
    let pre = c.requires in
    let kept = c.replace.auto in
    pinned-found _ _ _ c.rest_of.result _ _ _ pre.0 pre.1 pre.2
    c.mismatch-w.ensures (sym c.in-Some.ensures) c.rest_of.ensures c.replace.ensures
    (words_long _ _ (ap (λ t. length t.wires) c.replace.ensures.sum ∙ wires-replace _ _ _) kept.sets kept.coeffs) c.add_pin.ensures

pub returns-in-None : goal.returns-in-None
returns-in-None c =
    pinned_free _ _ _ c.requires.1 c.requires.2 c.mismatch-w.ensures (sym c.in-None.ensures) (sym c.if-is_zero.true ∙ c.is_zero.ensures)

pub returns-in-None-2 : goal.returns-in-None-2
returns-in-None-2 c =
    pinned_stuck _ _ _ c.requires.1 c.requires.2 c.mismatch-w.ensures (sym c.in-None.ensures) (sym c.if-is_zero.false ∙ c.is_zero.ensures)
