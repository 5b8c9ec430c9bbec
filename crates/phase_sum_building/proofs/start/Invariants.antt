-- `phase_sum_building::start` meets its contract. The loop's invariant: the first q wires are inputs.
-- Assumes nothing.
use mathlib.Core.Path.{◌≡◌}
use mathlib.Core.List.{map}
use lib.ListN.{length, take}
use Rattle.phase_sum_meaning.specs.Sets.{from}
use Rattle.phase_sum_meaning.specs.Building.{input}
use Rattle.phase_sum_building.proofs.start.Given as goal

abbrev pub invariant-loop-q : goal.invariant-loop-q
invariant-loop-q l = (length l.wires ≡ length l.initial.wires) × (take l.q l.wires ≡ map (input 0) (from 0 l.q))
