-- `dense_numbers::Amplitude::carries_to` meets its contract: amplitudes compare as the numbers that they stand for.
-- Assumes nothing.
use mathlib.Core.Path.{ap, ◌∙◌}
use Rattle.amplitude.specs.Testing.{eqω}
use Rattle.dense_numbers.specs.Numbers.{number}
use Rattle.dense_numbers.proofs.Comparing.{equal_numbers}
use Rattle.dense_numbers.proofs.Amplitude.carries_to.Goals as goal

pub returns : goal.returns
returns c = c.eq.ensures ∙ equal_numbers c.times_power.result c.args.y ∙ ap (λ z. eqω z (number c.args.y)) c.times_power.ensures
