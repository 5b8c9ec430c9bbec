-- `comparison::picking::second_is_better` meets its contract: fewer T gates, or as many and fewer gates.
-- Assumes nothing.
use mathlib.Core.Path.{◌≡◌}
use native.Mathlib.Omega.{arith}
use Rattle.record_format.specs.Reading.{gates_in}
use Rattle.amplitude.specs.Circuit.{t_gates}
use Rattle.comparison_types.proofs.PickLaws.{better_shorter}
use Rattle.comparison.proofs.picking.second_is_better.Goals as goal

pub returns : goal.returns
returns c =
    let args = c.args in
    let same : t_gates (gates_in args.second.now) ≡ t_gates (gates_in args.first.now) = omega arith in
    better_shorter args.first.now args.second.now same
