-- `dense_numbers::Amplitude::root_two_power` meets its contract: after so many turns the number is 1 times √2, as often.
-- Assumes nothing.
use mathlib.Core.Path.{◌≡◌}
use Rattle.amplitude.specs.Number.{1ω, √2^}
use Rattle.dense_numbers.specs.Numbers.{number}
use Rattle.dense_numbers.proofs.Amplitude.root_two_power.Given as goal

abbrev pub invariant-loop : goal.invariant-loop
invariant-loop l = number l.z ≡ √2^ l.counter 1ω
