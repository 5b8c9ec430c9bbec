-- Laws of what the program prints: it is the line of what the comparison says, with 12 in its place, and the program reads far enough for it.
-- Assumes nothing.
use Prim.Native.Nat.{ℕ}
use mathlib.Core.Path.{◌≡◌, refl, ap, ◌∙◌}
use mathlib.Core.Option.{Option, none, some}
use Rattle.std.specs.Prelude.{Result as Returned, Ok, Err}
use mathlib.Core.List.{List, []}
use Rattle.record_format.specs.Row.{first}
use Rattle.record_format.specs.Reading.{read, qubits, gates}
use Rattle.phase_sum_meaning.specs.Room.{places, set_words}
use Rattle.comparison_meaning.specs.Verdict.{Result, compare}
use Rattle.comparison_types.specs.declared.Outcome.{Outcome}
use Rattle.comparison_types.specs.declared.Refusal.{Refusal}
use Rattle.record_format.specs.Pair.{PairFault}
use Rattle.comparison_types.specs.Call.{Said, says, said_of, workspace_rows, pair_fault, compare_read, unless_fault, comparison}
use Rattle.pair_bytes.specs.Pair.{follow}
use Rattle.pair_bytes.specs.Limits.{ReadFarEnough}
use Rattle.pair_bytes.specs.Inner.{answer_line}
use Rattle.pair_bytes.proofs.Laws.{AnswerIs, by_cases, line_by_table, far_enough}
use Rattle.result_line.specs.Line.{line_of}
use Rattle.compare_bytes.specs.Lines.{outcome_line, pair_line}

-- an answer is the fault that is found, if any, else the line of what is found
-- Stays: the cases of this comparison's own type of what it says; one lemma over both types would take their constructors and that these differ.
answer_is : (fault : Option PairFault) (r : Result) (answer : Returned Outcome Refusal) → said_of answer ≡ unless_fault fault (says r)
    → AnswerIs outcome_line fault (line_of (says r)) answer
answer_is none r (Ok o) e = (refl, ap line_of e)
answer_is none r (Err f) e = cc
answer_is (some f) r (Ok o) e = cc
answer_is (some f) r (Err g) e = cc

module _ (s t : List ℕ) where
  -- the result for the gates of both lists
  abbrev result : Said
  result = says (compare 0 (qubits s) (gates s) (gates t))

  -- with as many places as are needed number 10 does not arise
  enough_places : comparison s t set_words places ≡ unless_fault (pair_fault (read s) (read t) []) result
  unfolding pair_fault compare_read first
  enough_places =
      by_cases
      (λ n gs hs p q.
      unless_fault (pair_fault p q (workspace_rows set_words places)) (compare_read p q) ≡ unless_fault (pair_fault p q []) (says (compare 0 n gs hs)))
      (λ n gs hs f q. refl) (λ n gs hs m is f. refl) (λ n gs m hs. refl) s t

  -- an answer's line, with 12 in its place, is what the program is to print
  pub printed : (answer : Returned Outcome Refusal) → said_of answer ≡ comparison s t set_words places
      → answer_line outcome_line (follow s t) answer ≡ pair_line s t
  unfolding pair_line
  printed answer e =
      line_by_table outcome_line s t [] (line_of result) answer tt
      (answer_is (pair_fault (read s) (read t) []) (compare 0 (qubits s) (gates s) (gates t)) answer (e ∙ enough_places))

-- the program reads far enough
pub read_far_enough : ReadFarEnough pair_line
unfolding pair_line
read_far_enough = far_enough (λ n gs hs. []) (λ n gs hs. line_of (says (compare 0 n gs hs)))
