-- What functions do that programs do not call, for their contracts: the place of number 12 among the faults that a comparison finds.
-- Assumes nothing.
use Rattle.std.specs.Prelude.{ℕ, Bool, true, false, cond, ◌&&◌, List, Result, Ok, Err}
use Rattle.std.proofs.Math.Option.{Option, none, some}
use Rattle.comparison_types.specs.declared.Refusal.{Refusal}
use Rattle.comparison_types.specs.Call.{fault_of}
use Rattle.line_bytes.specs.Line.{refused_line}
use Rattle.record_format.specs.Pair.{PairFault, in_first, in_second, of_pair, number_in}

-- both lists were read: the fault is in neither of them
abbrev pub were_read : PairFault → Bool
were_read (in_first f) = false
were_read (in_second f) = false
were_read (of_pair k) = true

-- the fault that a pair is refused for: 12 where both lists were read and bytes follow one of the records, else the comparison's
abbrev pub told_for : Bool → PairFault → PairFault
told_for follow f = cond (were_read f && follow) (of_pair 12) f

-- its number
abbrev pub refused_by : Bool → PairFault → ℕ
refused_by follow f = number_in (told_for follow f)

-- 12 in its place: behind the lists' own faults, before the pair's and before an outcome
abbrev pub with_twelve : Bool → Option PairFault → Option PairFault
with_twelve follow none = cond follow (some (of_pair 12)) none
with_twelve follow (some f) = some (told_for follow f)

-- the line of an answer, by that of an outcome: where bytes follow one of the records, 12 takes its place before an outcome and among the
-- numbers of a refusal
abbrev pub answer_line : {O : Type 0} → (O → List ℕ) → Bool → Result O Refusal → List ℕ
answer_line line_of follow (Ok outcome) = cond follow (refused_line 12) (line_of outcome)
answer_line line_of follow (Err refusal) = refused_line (refused_by follow (fault_of refusal))
