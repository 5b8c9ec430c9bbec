-- `dense_numbers::Amplitude::times_low_power` meets its contract: one, two or three times ω.
-- Assumes nothing.
use mathlib.Core.Path.{◌≡◌, ap, ◌∙◌}
use native.Mathlib.Omega.{arith}
use Rattle.amplitude.specs.Number.{mulω, ω^}
use Rattle.dense_numbers.proofs.Sizes.{sized_omega}
use Rattle.dense_numbers.proofs.Amplitude.times_low_power.Goals as goal

pub times_omega-requires : goal.times_omega-requires
times_omega-requires c = sized_omega _ _ c.times_omega-y.ensures c.requires.small

pub times_omega-requires-in_default : goal.times_omega-requires-in_default
times_omega-requires-in_default c = sized_omega _ _ c.times_omega-y.ensures c.requires.small

pub times_omega-requires-in_default-2 : goal.times_omega-requires-in_default-2
times_omega-requires-in_default-2 c =
    sized_omega _ _ c.times_omega-in_default.ensures (sized_omega _ _ c.times_omega-y.ensures c.requires.small)

pub returns-in-1 : goal.returns-in-1
unfolding ω^
returns-in-1 c = rw c.in-1.is c.times_omega-y.ensures

pub returns-in-2 : goal.returns-in-2
unfolding ω^
returns-in-2 c = rw c.in-2.is (c.times_omega.ensures ∙ ap mulω c.times_omega-y.ensures)

pub returns-in_default : goal.returns-in_default
unfolding ω^
returns-in_default c =
    let three : c.args.k ≡ 3 = omega arith in
    rw three (c.times_omega-in_default-2.ensures ∙ ap mulω (c.times_omega-in_default.ensures ∙ ap mulω c.times_omega-y.ensures))
