-- Laws of what the program prints: it is the line of what the dense comparison says, with 12 in its place, and the program reads far enough
-- for it.
-- Assumes nothing.
use Prim.Native.Nat.{ℕ, ◌+◌}
use mathlib.Core.Path.{◌≡◌, refl, ap}
use mathlib.Core.Bool.{◌||◌}
use mathlib.Core.Option.{Option, none, some}
use Rattle.std.specs.Prelude.{Result, Ok, Err}
use mathlib.Core.List.{List, [], ◌∷◌}
use lib.Dec.{ltb}
use Rattle.record_format.specs.Reading.{read, qubits, gates}
use Rattle.amplitude.specs.Circuit.{h_gates}
use Rattle.record_format.specs.Pair.{PairFault, pair_row}
use Rattle.comparison_types.specs.Call.{pair_fault}
use Rattle.dense_meaning.specs.Limits.{block_qubits, block_h_gates, buffer_size}
use Rattle.comparison_types.specs.declared.Refusal.{Refusal}
use Rattle.dense_types.specs.declared.Outcome.{Outcome}
use Rattle.dense_types.specs.Call.{Found, says, said_of, unless_fault, compare_columns, block_rows, dense_comparison}
use Rattle.pair_bytes.specs.Pair.{follow}
use Rattle.pair_bytes.specs.Limits.{ReadFarEnough}
use Rattle.pair_bytes.specs.Inner.{answer_line}
use Rattle.pair_bytes.proofs.Laws.{AnswerIs, line_by_table, far_enough}
use Rattle.dense_line.specs.Line.{line_of}
use Rattle.compare_small_bytes.specs.Lines.{outcome_line, pair_line}

-- an answer is the fault that is found, if any, else the line of what is found
-- Stays: the cases of this comparison's own type of what it says; one lemma over both types would take their constructors and that these differ.
answer_is : (fault : Option PairFault) (r : Found) (answer : Result Outcome Refusal) → said_of answer ≡ unless_fault fault (says r)
    → AnswerIs outcome_line fault (line_of (says r)) answer
answer_is none r (Ok o) e = (refl, ap line_of e)
answer_is none r (Err f) e = cc
answer_is (some f) r (Ok o) e = cc
answer_is (some f) r (Err g) e = cc

-- an answer's line, with 12 in its place, is what the program is to print
pub printed : (s t : List ℕ) (answer : Result Outcome Refusal) → said_of answer ≡ dense_comparison s t buffer_size
    → answer_line outcome_line (follow s t) answer ≡ pair_line s t
unfolding pair_line
printed s t answer e =
    let fault = pair_fault (read s) (read t) (block_rows s t buffer_size) in
    let found = compare_columns (qubits s) (gates s) (gates t) in
    line_by_table outcome_line s t (block_rows s t buffer_size) (line_of (says found)) answer (refl, (refl, tt)) (answer_is fault found answer e)

-- the program reads far enough
pub read_far_enough : ReadFarEnough pair_line
unfolding pair_line
read_far_enough =
    far_enough
    (λ n gs hs. pair_row 14 (ltb block_qubits n || ltb block_h_gates (h_gates gs + h_gates hs)) ∷ pair_row 10 (ltb buffer_size buffer_size) ∷ [])
    (λ n gs hs. line_of (says (compare_columns n gs hs)))
