-- `phase_sum_passing::replace_in_wires` meets its contract. The loop's invariant: z is replaced in the first q wires, and the others are as they were.
-- Assumes nothing.
use mathlib.Core.List.{map}
use lib.ListN.{take}
use Rattle.phase_sum_meaning.specs.Parity.{replace_in}
use Rattle.phase_sum_types.specs.Workspace.{parity_of}
use Rattle.phase_sum_types.proofs.Passes.{Front}
use Rattle.phase_sum_passing.proofs.replace_in_wires.Given as goal

abbrev pub invariant-loop-q : goal.invariant-loop-q
invariant-loop-q l = Front l.q (map (replace_in l.z (parity_of l.p)) (take l.q l.initial.wires)) l.initial.wires l.wires
