-- The clauses of the joins' contracts: what stands in the buffer where a call answered a length.
-- Assumes nothing.
use mathlib.Core.Path.{◌≡◌, refl, sym, ap, ◌∙◌}
use Prim.Native.Nat.{ℕ, ◌+◌, ◌≤◌}
use native.Mathlib.Omega.{arith}
use mathlib.Core.Bool.{false, not}
use mathlib.Core.Option.{Option, none, some}
use mathlib.Core.List.{List, [], ◌∷◌, ◌++◌}
use lib.ListN.{length, drop, length-append}
use lib.Dec.{eqb, ltb}
use borrow.Author.Tests.{eqb-true, ltb-false, not-false}
use Rattle.std.specs.Prelude.{Result}
use Rattle.record_format.specs.Format.{most_qubits, most_gates}
use Rattle.record_format.specs.Gate.{Gate, AllWithin, shift_list}
use Rattle.record_format.specs.Row.{Row, first}
use Rattle.record_format.specs.Reading.{qubits, count, gates, record_rows, accepted, read}
use Rattle.record_format.specs.Answer.{gives}
use Rattle.record_format.specs.Writing.{outcome, encode}
use Rattle.record_format.specs.Pair.{PairFault, pair_row, both_rows}
use Rattle.record_format.specs.Promises.{WellFormed}
use Rattle.record_format.proofs.Rows.{none_holds}
use Rattle.record_format.proofs.Pairs.{both_pass}
use Rattle.record_format.proofs.Encoding.{length_gates, good_head}
use Rattle.record_format.proofs.GateLaws.{within_append, within_more, within_shift, length_shift}
use Rattle.record_format.proofs.Theorems.{one_answer, accepted_by_no_row, accepted_is_sound, encoded_is_accepted}
use Rattle.amplitude.specs.Circuit.{h_gates, t_gates, is_h, is_t}
use Rattle.amplitude.proofs.Linear.{tally-append, h_gates_shift, t_gates_shift}
use Rattle.amplitude.proofs.Composition.{in_time}
use Rattle.amplitude.proofs.Tensor.{in_space}
use Rattle.joining_types.specs.Call.{joined_answer, size_rows, time_rows, space_rows, list_in_time, list_in_space, time_record, space_record, join_in_time, join_in_space}
use Rattle.joining_types.specs.Clauses.{AddsUp, InTime, InSpace, WhereWritten}
use Rattle.joining_types.specs.declared.Refusal.{Refusal}

-- an outcome that gives values is stopped by nothing, and the new record stands in the buffer
pub record Stands (rows : List (Row PairFault)) (new l after : List ℕ) : Type 0 where
  pub good : first rows ≡ none
  pub is : after ≡ new ++ drop (length new) l

-- so it is with every outcome that gives values
pub stands :
    (rows : List (Row PairFault)) (new l values : List ℕ)
    → (outcome (first rows) new l).answer ≡ gives values
    → Stands rows new l (outcome (first rows) new l).buffer
stands rows new l values = go (first rows) refl
  where
    go : (o : Option PairFault) → first rows ≡ o → (outcome o new l).answer ≡ gives values → Stands rows new l (outcome o new l).buffer
    go none good h = record { good = good; is = refl }
    go (some f) bad h = absurd (one_answer (sym h))

-- two lists, and one that has the gates of both: it keeps the lengths and weights of the second, which may be written otherwise
adds_up : (first second other : List Gate) → length other ≡ length second → t_gates other ≡ t_gates second → h_gates other ≡ h_gates second
    → AddsUp first second (first ++ other)
adds_up first second other same_length same-t same-h =
    record {
      all = rw (length-append first other, same_length);
      t_gates_added = rw (tally-append is_t first other, same-t);
      h_gates_added = rw (tally-append is_h first other, same-h);
    }

-- the record of two lists together, on n qubits, reads back, whatever follows it
reads_back : (n : ℕ) (joined : List Gate) (l after : List ℕ) → 1 ≤ n → n ≤ most_qubits → length joined ≤ most_gates → AllWithin n joined
    → after ≡ encode n joined ++ drop (length (encode n joined)) l
    → read after ≡ accepted n joined
reads_back n joined l after some_qubit few_qubits few within is =
    ap read is ∙ encoded_is_accepted n joined (drop (length (encode n joined)) l) some_qubit few_qubits few within

-- two records that a join reads, and whose gates together it writes: both are accepted and well formed, and there are not too many gates
record BothRead (s t : List ℕ) : Type 0 where
  reads_s : read s ≡ accepted (qubits s) (gates s)
  reads_t : read t ≡ accepted (qubits t) (gates t)
  of_s : WellFormed s (qubits s) (gates s)
  of_t : WellFormed t (qubits t) (gates t)
  few : length (gates s) + length (gates t) ≤ most_gates

-- so they are where no row of a join stops them, whatever its own row is
both_read : (s t l : List ℕ) (own : Row PairFault) → first (both_rows s t (own ∷ size_rows (count s + count t) l)) ≡ none
    → BothRead s t × (own.when ≡ false)
both_read s t l own none-stops =
    let below = own ∷ size_rows (count s + count t) l in
    let (good, good', passed) = both_pass s t below none-stops in
    let (own-off, (few, rest)) = (none_holds below).0 passed in
    let reads_s = (accepted_by_no_row s).1 ((none_holds (record_rows s)).0 good) in
    let reads_t = (accepted_by_no_row t).1 ((none_holds (record_rows t)).0 good') in (
      record {
        reads_s = reads_s;
        reads_t = reads_t;
        of_s = accepted_is_sound s (qubits s) (gates s) reads_s;
        of_t = accepted_is_sound t (qubits t) (gates t) reads_t;
        few = rw (length_gates s (good_head s good).whole, length_gates t (good_head t good').whole) (ltb-false _ _ few);
      },
      own-off,
    )

-- where nothing stops a join in time, its record stands for the lists joined
time_stands : (s t l after : List ℕ) → Stands (time_rows s t l) (time_record s t) l after → InTime s t after
time_stands s t l after now =
    let (both, same) = both_read s t l (pair_row 8 (not (eqb (qubits s) (qubits t)))) now.good in
    let same-n : qubits s ≡ qubits t = eqb-true (qubits s) (qubits t) (not-false _ same) in
    let of_s = both.of_s in
    let sums = adds_up (gates s) (gates t) (gates t) refl refl refl in
    let within = within_append (qubits s) (gates s) (gates t) of_s.within (rw same-n both.of_t.within) in
    record {
      n = qubits s;
      first = gates s;
      second = gates t;
      reads_first = both.reads_s;
      reads_second = rw same-n both.reads_t;
      reads_joined = reads_back (qubits s) (list_in_time (gates s) (gates t)) l after of_s.some_qubit of_s.few_qubits
          (rw sums.all both.few) within now.is;
      counts = sums;
      amplitudes = in_time (qubits s) (gates s) (gates t) of_s.within;
    }

-- where nothing stops a join in space, so does its record
space_stands :
    (s t l after : List ℕ)
    → Stands (space_rows s t l) (space_record s t) l after
    → InSpace s t after
space_stands s t l after now =
    let n = qubits s in
    let m = qubits t in
    let shifted = shift_list n (gates t) in
    let (both, few_qubits) = both_read s t l (pair_row 3 (ltb most_qubits (n + m))) now.good in
    let sums = adds_up (gates s) (gates t) shifted (length_shift n (gates t)) (t_gates_shift n (gates t)) (h_gates_shift n (gates t)) in
    let low = within_more n m (gates s) both.of_s.within in
    let high = within_shift n m (gates t) both.of_t.within in
    record {
      n = n;
      m = m;
      first = gates s;
      second = gates t;
      reads_first = both.reads_s;
      reads_second = both.reads_t;
      reads_joined = reads_back (n + m) (list_in_space n (gates s) (gates t)) l after (omega (arith, both.of_s.some_qubit))
          (ltb-false most_qubits (n + m) few_qubits) (rw sums.all both.few) (within_append (n + m) (gates s) shifted low high) now.is;
      counts = sums;
      amplitudes = in_space n m (gates s) (gates t) both.of_s.within;
    }

-- so it is where a join in time gives values
pub time_written : (s t l values : List ℕ) → (join_in_time s t l).answer ≡ gives values → InTime s t (join_in_time s t l).buffer
unfolding join_in_time
time_written s t l values h = time_stands s t l _ (stands (time_rows s t l) (time_record s t) l values h)

-- and where a join in space does
pub space_written : (s t l values : List ℕ) → (join_in_space s t l).answer ≡ gives values → InSpace s t (join_in_space s t l).buffer
unfolding join_in_space
space_written s t l values h = space_stands s t l _ (stands (space_rows s t l) (space_record s t) l values h)

-- the clause of the join in time
pub time_composed :
    (s t l : List ℕ) (r : Result ℕ Refusal)
    → joined_answer r ≡ (join_in_time s t l).answer
    → WhereWritten r (InTime s t (join_in_time s t l).buffer)
time_composed s t l r answers k is = time_written s t l (k ∷ []) (sym (rw is at answers))

-- and that of the join in space
pub space_composed :
    (s t l : List ℕ) (r : Result ℕ Refusal)
    → joined_answer r ≡ (join_in_space s t l).answer
    → WhereWritten r (InSpace s t (join_in_space s t l).buffer)
space_composed s t l r answers k is = space_written s t l (k ∷ []) (sym (rw is at answers))
