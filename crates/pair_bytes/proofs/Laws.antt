-- Laws of the program's table: it goes by the two readings and by whether bytes follow, it is the comparison's with 12 in its place, and what
-- a program reads of its input tells as much as the whole.
-- Assumes nothing.
use Prim.Native.Nat.{ℕ}
use mathlib.Core.Path.{◌≡◌, refl, sym, ap, ◌∙◌}
use mathlib.Core.Bool.{Bool, true, false, cond}
use mathlib.Core.Option
use mathlib.Core.Option.{Option, none, some}
use mathlib.Core.List.{List, ◌∷◌, ◌++◌, map}
use lib.ListN.{take}
use Rattle.std.specs.Prelude.{Result, Ok, Err}
use Rattle.comparison_types.specs.declared.Refusal.{Refusal}
use native.Mathlib.Omega.{arith}
use Rattle.record_format.specs.Gate.{Gate}
use Rattle.record_format.specs.Row.{Fault, Row, told, first}
use Rattle.record_format.specs.Reading.{Reading, qubits, gates, record_rows, accepted, refused, unless, read}
use Rattle.record_format.proofs.Rows.{first_none, first_some, first_told, AllFaults, first_is}
use Rattle.record_format.proofs.Theorems.{passed}
use Rattle.record_format.specs.Pair.{PairFault, in_first, in_second, of_pair, pair_row}
use Rattle.comparison_types.specs.Call.{fault_of, pair_rows, pair_fault}
use Rattle.line_bytes.specs.Line.{refused_line}
use Rattle.pair_bytes.specs.Pair.{follow, first_of, second_of}
use Rattle.pair_bytes.specs.Table.{program_table, unless_refused}
use Rattle.pair_bytes.specs.Limits.{input_size, stream_size, ReadFarEnough}
use Rattle.pair_bytes.specs.Inner.{were_read, with_twelve, answer_line}
use Rattle.pair_bytes.proofs.Cutting.{Tells, tells_itself, tells_cut, read_first, stream_cut}

-- the first row that holds, by what reading the two lists finds and by whether bytes follow
abbrev table_by : Bool → Reading → Reading → List (Row PairFault) → Option PairFault
table_by b (refused f) q below = some (in_first f)
table_by b (accepted n gs) (refused f) below = some (in_second f)
table_by b (accepted n gs) (accepted m hs) below = first (pair_row 12 b ∷ (pair_rows n m gs hs ++ below))

-- what holds of each kind of readings of two lists, with what an accepted list has in it for its qubits and gates, holds of the lists
pub by_cases :
    (P : ℕ → List Gate → List Gate → Reading → Reading → Type 0)
    → ((n : ℕ) (gs hs : List Gate) (f : Fault) (q : Reading) → P n gs hs (refused f) q)
    → ((n : ℕ) (gs hs : List Gate) (m : ℕ) (is : List Gate) (f : Fault) → P n gs hs (accepted m is) (refused f))
    → ((n : ℕ) (gs : List Gate) (m : ℕ) (hs : List Gate) → P n gs hs (accepted n gs) (accepted m hs))
    → (s t : List ℕ) → P (qubits s) (gates s) (gates t) (read s) (read t)
by_cases P in-one in-other good s t = go (read s) refl (read t) refl
  where
    go : (p : Reading) → read s ≡ p → (q : Reading) → read t ≡ q → P (qubits s) (gates s) (gates t) p q
    go (refused f) e q d = in-one (qubits s) (gates s) (gates t) f q
    go (accepted n gs) e (refused f) d = in-other (qubits s) (gates s) (gates t) n gs f
    go (accepted n gs) e (accepted m hs) d =
        let (_, same-n, same-gs) = passed s n gs e in
        let (_, _, same-hs) = passed t m hs d in
        rw (same-n, same-gs, same-hs) (good n gs m hs)

module _ (s t : List ℕ) (below : List (Row PairFault)) where
  -- the rows of the first list
  abbrev of_first : List (Row PairFault)
  of_first = map (told in_first) (record_rows s)

  -- those of the second
  abbrev of_second : List (Row PairFault)
  of_second = map (told in_second) (record_rows t)

  -- the program's table goes by that
  by_readings : first (program_table s t below) ≡ table_by (follow s t) (read s) (read t) below
  unfolding read
  by_readings = go (first (record_rows s)) (first (record_rows t)) (first_told in_first (record_rows s)) (first_told in_second (record_rows t))
    where
      go : (o p : Option Fault) → first of_first ≡ Option.map in_first o → first of_second ≡ Option.map in_second p
          → first (program_table s t below)
          ≡ table_by (follow s t) (unless o (accepted (qubits s) (gates s))) (unless p (accepted (qubits t) (gates t))) below
      go (some f) p e d = first_some (of_first ++ of_second) _ (in_first f) (first_some of_first of_second (in_first f) e)
      go none (some f) e d = first_some (of_first ++ of_second) _ (in_second f) (first_none of_first of_second e ∙ d)
      go none none e d = first_none (of_first ++ of_second) _ (first_none of_first of_second e ∙ d)

-- 12 above rows that are all of the pair
twelve_above : (b : Bool) (rows : List (Row PairFault)) → AllFaults (λ f. were_read f ≡ true) rows
    → first (pair_row 12 b ∷ rows) ≡ with_twelve b (first rows)
unfolding first
twelve_above b rows all = go b (first rows) (λ f e. first_is (λ f. were_read f ≡ true) rows f all e)
  where
    go : (b : Bool) (o : Option PairFault) → ((f : PairFault) → o ≡ some f → were_read f ≡ true)
        → cond b (some (of_pair 12)) o ≡ with_twelve b o
    go b none pairs = refl
    go true (some f) pairs = rw (pairs f refl) refl
    go false (some f) pairs = rw (pairs f refl) refl

-- the first row of the program's table that holds is the fault that the comparison's checks find, with 12 in its place
pub twelve_in_place : (s t : List ℕ) (below : List (Row PairFault)) → AllFaults (λ f. were_read f ≡ true) below
    → first (program_table s t below) ≡ with_twelve (follow s t) (pair_fault (read s) (read t) below)
twelve_in_place s t below all = by_readings s t below ∙ go (follow s t) (read s) (read t)
  where
    go : (b : Bool) (p q : Reading) → table_by b p q below ≡ with_twelve b (pair_fault p q below)
    go b (refused f) q = unfold pair_fault in refl
    go b (accepted n gs) (refused f) = unfold pair_fault in refl
    go b (accepted n gs) (accepted m hs) = unfold pair_fault in twelve_above b (pair_rows n m gs hs ++ below) (refl, (refl, all))

-- an answer is the fault that the checks on a pair find, if any, else an outcome with this line
abbrev pub AnswerIs : {O : Type 0} → (O → List ℕ) → Option PairFault → List ℕ → Result O Refusal → Type 0
AnswerIs line_of fault line (Ok outcome) = (fault ≡ none) × (line_of outcome ≡ line)
AnswerIs line_of fault line (Err refusal) = fault ≡ some (fault_of refusal)

-- the line of an answer, by the fault that the checks on a pair find, if any
pub line_by_fault :
    {O : Type 0} (line_of : O → List ℕ) (b : Bool) (fault : Option PairFault) (line : List ℕ) (answer : Result O Refusal)
    → AnswerIs line_of fault line answer → answer_line line_of b answer ≡ unless_refused (with_twelve b fault) line
line_by_fault line_of true fault line (Ok outcome) (none-found, same) = rw none-found refl
line_by_fault line_of false fault line (Ok outcome) (none-found, same) = rw none-found same
line_by_fault line_of b fault line (Err refusal) found = rw found refl

-- the line of an answer to two records, with 12 in its place, is what the program's table gives, where the comparison's own rows are all of the
-- pair
pub line_by_table :
    {O : Type 0} (line_of : O → List ℕ) (s t : List ℕ) (below : List (Row PairFault)) (line : List ℕ) (answer : Result O Refusal)
    → AllFaults (λ f. were_read f ≡ true) below → AnswerIs line_of (pair_fault (read s) (read t) below) line answer
    → answer_line line_of (follow s t) answer ≡ unless_refused (first (program_table s t below)) line
line_by_table line_of s t below line answer all found =
    line_by_fault line_of (follow s t) (pair_fault (read s) (read t) below) line answer found
    ∙ ap (λ (o : Option PairFault). unless_refused o line) (sym (twelve_in_place s t below all))

-- a program with these rows below the pair's, and this line for a pair that passes
module _ (below : ℕ → List Gate → List Gate → List (Row PairFault)) (line : ℕ → List Gate → List Gate → List ℕ) where
  -- what it prints
  abbrev printed : List ℕ → List ℕ → List ℕ
  printed s t =
      unless_refused (first (program_table s t (below (qubits s) (gates s) (gates t)))) (line (qubits s) (gates s) (gates t))

  -- what it prints by what reading the two lists finds and by whether bytes follow
  abbrev printed_by : Bool → Reading → Reading → List ℕ
  printed_by b (refused f) q = refused_line f.number
  printed_by b (accepted n gs) (refused f) = refused_line f.number
  printed_by b (accepted n gs) (accepted m hs) = unless_refused (first (pair_row 12 b ∷ (pair_rows n m gs hs ++ below n gs hs))) (line n gs hs)

  -- it is the same
  printed_is : (s t : List ℕ) → printed s t ≡ printed_by (follow s t) (read s) (read t)
  printed_is s t =
      rw (by_readings s t (below (qubits s) (gates s) (gates t)))
      (by_cases (λ n gs hs p q. unless_refused (table_by (follow s t) p q (below n gs hs)) (line n gs hs) ≡ printed_by (follow s t) p q)
      (λ n gs hs f q. refl) (λ n gs hs m is f. refl) (λ n gs m hs. refl) s t)

  -- bytes that tell all that matters print the same
  told_same : {s' s t' t : List ℕ} → Tells s' s → Tells t' t → printed s' t' ≡ printed s t
  told_same {s'} {s} {t'} {t} one other =
      printed_is s' t' ∙ rw (one.reads, other.reads) (go (read s) refl (read t) refl) ∙ sym (printed_is s t)
    where
      go : (p : Reading) → read s ≡ p → (q : Reading) → read t ≡ q → printed_by (follow s' t') p q ≡ printed_by (follow s t) p q
      go (refused f) e q d = refl
      go (accepted n gs) e (refused f) d = refl
      go (accepted n gs) e (accepted m hs) d = rw (one.goes e, other.goes d) refl

  -- what is read of a stream prints what the whole would
  stream_enough : (s : List ℕ) → printed (first_of (take stream_size s)) (second_of (take stream_size s)) ≡ printed (first_of s) (second_of s)
  stream_enough s = go (read s) refl
    where
      -- its first record is read as before
      same : read (first_of (take stream_size s)) ≡ read (first_of s)
      same = read_first (take stream_size s) ∙ (tells_cut stream_size s (omega arith)).reads ∙ sym (read_first s)

      go : (p : Reading) → read s ≡ p → printed (first_of (take stream_size s)) (second_of (take stream_size s)) ≡ printed (first_of s) (second_of s)
      go (refused f) e =
          printed_is _ _ ∙ rw (same, read_first s, e) refl ∙ sym (printed_is (first_of s) (second_of s))
      go (accepted n gs) e = let (one, other) = stream_cut s e in rw one (told_same (tells_itself (first_of s)) other)

  -- a program reads far enough
  pub far_enough : ReadFarEnough printed
  far_enough =
      record {
        files = λ s t. told_same (tells_cut input_size s (omega arith)) (tells_cut input_size t (omega arith));
        stream = stream_enough;
      }
