-- `comparison::comparing::decide_in` meets its contract. The built sum is pinned, reduced and judged, which is the comparison by its definition.
-- Assumes nothing.
use mathlib.Core.Path.{ap, ◌∙◌}
use native.Mathlib.Omega.{arith}
use lib.ListN.{length}
use Rattle.record_format.specs.Reading.{gates_in}
use Rattle.phase_sum_types.specs.Workspace.{lent}
use Rattle.phase_sum_types.proofs.TwoWords.{words_long}
use Rattle.phase_sum_types.proofs.Running.{built_wires}
use Rattle.comparison_types.proofs.ClauseLaws.{built_sized, decided}
use Rattle.comparison.proofs.comparing.decide_in.Goals as goal

pub pin-pinned-requires : goal.pin-pinned-requires
pin-pinned-requires c =
    let a = c.args in
    let fits = c.requires.0 in
    let built = c.build-sum in
    let many = ap (λ t. length t.wires) built.ensures.sum ∙ built_wires (length a.wires.now) _ in
    let long = words_long _ _ many built.auto.sets built.auto.coeffs in
    let sized = built_sized (gates_in a.first.now) (gates_in a.second.now) built.ensures long fits.few fits.sets fits.coeffs in
    (sized, omega (arith, c.requires.1, built.auto.sets, built.auto.coeffs))

pub returns : goal.returns
returns c =
    let a = c.args in
    let built = c.build-sum in
    let left = c.reduce_end-end.new in
    let n = length a.wires.now in
    let many = ap (λ t. length t.wires) built.ensures.sum ∙ built_wires n _ in
    decided n _ (gates_in a.first.now) (gates_in a.second.now) built.ensures.sum many c.pin-pinned.ensures.end c.reduce_end-end.ensures.end
    (rw (c.new.ensures, c.len-n.ensures) at (c.judge.ensures (lent left.wires left.sets left.coeffs) c.new-terms.ensures))
