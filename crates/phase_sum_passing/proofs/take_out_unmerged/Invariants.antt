-- `phase_sum_passing::take_out_unmerged` meets its contract. The loop's invariant: y is out of the first i sets, and the others
-- are as they were.
-- Assumes nothing.
use mathlib.Core.List.{map}
use lib.ListN.{take}
use Rattle.phase_sum_meaning.specs.Stepping.{out_of}
use Rattle.phase_sum_meaning.specs.Room.{words_each}
use Rattle.phase_sum_words.specs.Words.{sets_in}
use Rattle.phase_sum_types.proofs.Passes.{Front}
use Rattle.phase_sum_passing.proofs.take_out_unmerged.Given as goal

abbrev pub invariant-loop-i : goal.invariant-loop-i
invariant-loop-i l = Front l.i (map (out_of l.y) (take l.i (sets_in words_each l.initial.sets))) (sets_in words_each l.initial.sets) (sets_in words_each l.sets)
