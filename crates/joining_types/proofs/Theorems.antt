-- The promises of specs/Promises.antt, each proved.
-- Assumes nothing.
use mathlib.Core.Path.{◌≡◌, refl, sym, ap, ◌∙◌}
use mathlib.Core.Logic.{◌≢◌}
use Prim.Native.Nat.{ℕ, ◌+◌, ◌≤◌, ◌<◌}
use native.Mathlib.Omega.{arith}
use mathlib.Core.Bool.{Bool, true, false, cond, not}
use mathlib.Core.Option.{Option, none, some}
use mathlib.Core.List.{List, [], ◌∷◌, ◌++◌}
use lib.ListN.{length, drop, length-append, length-drop}
use lib.Seq.{drop_at}
use lib.Dec.{eqb, ltb}
use borrow.Author.Tests.{eqb-true, eqb-false, ltb-true, ltb-false}
use Rattle.record_format.specs.Format.{most_qubits, most_gates}
use Rattle.record_format.specs.Gate.{Gate, shift_list}
use Rattle.record_format.specs.Row.{Fault, Row, first}
use Rattle.record_format.specs.Reading.{size, qubits, count, gates, record_rows, accepted, read}
use Rattle.record_format.specs.Answer.{gives, refuses}
use Rattle.record_format.specs.Writing.{outcome, encode}
use Rattle.record_format.specs.Pair.{PairFault, in_first, in_second, of_pair, pair_row, both_rows}
use Rattle.record_format.proofs.Rows.{none_holds, first_holds}
use Rattle.record_format.proofs.Pairs.{both_first, both_second, both_good, both_pass}
use Rattle.record_format.proofs.Encoding.{length_gates, length-encode, good_head}
use Rattle.record_format.proofs.GateLaws.{length_shift}
use Rattle.record_format.proofs.Theorems.{one_answer, accepted_by_no_row, refused_by_first_row, refusal_of, refusal_back}
use Rattle.joining_types.specs.Call.{fault_of, size_rows, time_rows, space_rows, time_record, space_record, join_in_time, join_in_space}
use Rattle.joining_types.specs.Promises.{Answers, first_refused, second_refused, mismatched, too_many_gates, short, writes, TimeAnswers, SpaceAnswers, LeavesTheRest, FaultTells}
use Rattle.joining_types.specs.declared.Refusal.{Refusal}
use Rattle.joining_types.specs.declared.Refusal.TheVariants.{First, Second, QubitsDiffer, TooManyQubits, TooManyGates, BufferShort}

-- two accepted records have as many gates as they say
together : (s t : List ℕ) → first (record_rows s) ≡ none → first (record_rows t) ≡ none
    → count s + count t ≡ length (gates s) + length (gates t)
together s t good good' = omega (arith, length_gates s (good_head s good).whole, length_gates t (good_head t good').whole)

-- a join by its own row and by the record that it writes
module _ (s t l new : List ℕ) (own : ℕ) (c : Bool) (Mismatch : ℕ → ℕ → Type 0) (on : c ≡ true → Mismatch (qubits s) (qubits t))
    (off : c ≡ false → Mismatch (qubits s) (qubits t) → ⊥) (long : length new ≡ size (length (gates s) + length (gates t))) where
  -- its rows below those of the two lists
  abbrev below : List (Row PairFault)
  below = pair_row own c ∷ size_rows (count s + count t) l

  -- on two accepted lists
  module _ (good : first (record_rows s) ≡ none) (good' : first (record_rows t) ≡ none) where
    reads_s : read s ≡ accepted (qubits s) (gates s)
    reads_s = (accepted_by_no_row s).1 ((none_holds (record_rows s)).0 good)

    reads_t : read t ≡ accepted (qubits t) (gates t)
    reads_t = (accepted_by_no_row t).1 ((none_holds (record_rows t)).0 good')

    decided : Answers own Mismatch s t (length l) (outcome (first below) new l).answer
    unfolding first
    decided =
        rw (together s t good good')
        (go c refl (ltb most_gates (length (gates s) + length (gates t))) refl (ltb (length l) (size (length (gates s) + length (gates t)))) refl)
      where
        go :
            (b : Bool) → c ≡ b → (d : Bool) → ltb most_gates (length (gates s) + length (gates t)) ≡ d
            → (e : Bool) → ltb (length l) (size (length (gates s) + length (gates t))) ≡ e
            → Answers own Mismatch s t (length l)
            (outcome (cond b (some (of_pair own)) (cond d (some (of_pair 4)) (cond e (some (of_pair 11)) none))) new l).answer
        go true is d many e less = mismatched reads_s reads_t (on is)
        go false is true many e less = too_many_gates reads_s reads_t (off is) (ltb-true _ _ many)
        go false is false many true less = short reads_s reads_t (off is) (ltb-false _ _ many) (ltb-true _ _ less)
        go false is false many false less = rw long (writes reads_s reads_t (off is) (ltb-false _ _ many) (ltb-false _ _ less))

  -- on any bytes
  answers : Answers own Mismatch s t (length l) (outcome (first (both_rows s t below)) new l).answer
  answers = go (first (record_rows s)) refl (first (record_rows t)) refl
    where
      go : (o : Option Fault) → first (record_rows s) ≡ o → (p : Option Fault) → first (record_rows t) ≡ p
          → Answers own Mismatch s t (length l) (outcome (first (both_rows s t below)) new l).answer
      go (some f) bad p e =
          rw (both_first s t below f bad) (first_refused ((refused_by_first_row s f).1 ((first_holds (record_rows s) f).0 bad)))
      go none good (some f) bad =
          rw (both_second s t below f good bad)
          (second_refused ((accepted_by_no_row s).1 ((none_holds (record_rows s)).0 good))
          ((refused_by_first_row t f).1 ((first_holds (record_rows t) f).0 bad)))
      go none good none good' = rw (both_good s t below good good') (decided good good')

-- the record of two lists joined is as long as their gates together need
joined_length : (n : ℕ) (gs hs other : List Gate) → length other ≡ length hs → length (encode n (gs ++ other)) ≡ size (length gs + length hs)
joined_length n gs hs other same = rw (length-encode n (gs ++ other), length-append gs other, same)

-- the length of the record that a join in time writes
time_length : (s t : List ℕ) → length (time_record s t) ≡ size (length (gates s) + length (gates t))
time_length s t = joined_length (qubits s) (gates s) (gates t) (gates t) refl

-- that of a join in space
space_length : (s t : List ℕ) → length (space_record s t) ≡ size (length (gates s) + length (gates t))
space_length s t =
    joined_length (qubits s + qubits t) (gates s) (gates t) (shift_list (qubits s) (gates t)) (length_shift (qubits s) (gates t))

-- what a join in time answers
pub time_answers : TimeAnswers
unfolding join_in_time
time_answers s t l =
    answers s t l (time_record s t) 8 (not (eqb (qubits s) (qubits t))) (λ n m. n ≢ m)
    (λ is. eqb-false (qubits s) (qubits t) (go _ is))
    (λ is differ. differ (eqb-true (qubits s) (qubits t) (back _ is)))
    (time_length s t)
  where
    go : (b : Bool) → not b ≡ true → b ≡ false
    go true h = sym h
    go false h = refl

    back : (b : Bool) → not b ≡ false → b ≡ true
    back true h = refl
    back false h = sym h

-- what a join in space answers
pub space_answers : SpaceAnswers
unfolding join_in_space
space_answers s t l =
    answers s t l (space_record s t) 3 (ltb most_qubits (qubits s + qubits t))
    (λ n m. most_qubits < n + m)
    (λ is. ltb-true _ _ is)
    (λ is more. omega (arith, ltb-false most_qubits (qubits s + qubits t) is))
    (space_length s t)

-- a refused call leaves the buffer
left : (o : Option PairFault) (new l : List ℕ) (f : PairFault) → (outcome o new l).answer ≡ refuses f → (outcome o new l).buffer ≡ l
left none new l f h = absurd (one_answer h)
left (some g) new l f h = refl

-- the new record is not longer than the buffer where no row of a join stops the call
room : (s t l : List ℕ) (own : Row PairFault) → first (both_rows s t (own ∷ size_rows (count s + count t) l)) ≡ none
    → size (length (gates s) + length (gates t)) ≤ length l
room s t l own good =
    let (good-s, good-t, passed) = both_pass s t (own ∷ size_rows (count s + count t) l) good in
    let enough = ((none_holds (own ∷ size_rows (count s + count t) l)).0 passed).1.1.0 in
    rw (together s t good-s good-t) at (ltb-false (length l) (size (count s + count t)) enough)

-- a call that writes leaves what is behind the new record
kept :
    (o : Option PairFault) (new l : List ℕ) (k : ℕ)
    → (o ≡ none → length new ≤ length l)
    → (outcome o new l).answer ≡ gives (k ∷ [])
    → (drop k (outcome o new l).buffer ≡ drop k l) × (length (outcome o new l).buffer ≡ length l)
kept none new l k fits h =
    let is : length new ≡ k = cc in
    (rw (← is) (drop_at new (drop (length new) l) (length new) refl), simp (length-append, length-drop) (omega (arith, fits refl)))
kept (some f) new l k fits h = absurd (one_answer (sym h))

-- what the joins leave of the buffer
pub leaves_the_rest : LeavesTheRest
unfolding join_in_time join_in_space
leaves_the_rest = (
  (
    λ s t l. left (first (time_rows s t l)) (time_record s t) l,
    λ s t l k. kept (first (time_rows s t l)) (time_record s t) l k (λ good. rw (time_length s t) (room s t l _ good)),
  ),
  (
    λ s t l. left (first (space_rows s t l)) (space_record s t) l,
    λ s t l k. kept (first (space_rows s t l)) (space_record s t) l k (λ good. rw (space_length s t) (room s t l _ good)),
  ),
)

-- the refusal that says a fault
refusing : PairFault → Refusal
refusing (in_first f) = First (refusal_of f)
refusing (in_second f) = Second (refusal_of f)
refusing (of_pair k) = cond (eqb k 8) QubitsDiffer (cond (eqb k 3) TooManyQubits (cond (eqb k 4) TooManyGates BufferShort))

-- what a refusal says gives it back
refusing_back : (r : Refusal) → refusing (fault_of r) ≡ r
unfolding refusing
refusing_back (First r) = ap First (refusal_back r)
refusing_back (Second r) = ap Second (refusal_back r)
refusing_back QubitsDiffer = refl
refusing_back TooManyQubits = refl
refusing_back TooManyGates = refl
refusing_back BufferShort = refl

-- refusals that say the same are the same
pub fault_tells : FaultTells
fault_tells r r' h = sym (refusing_back r) ∙ ap refusing h ∙ refusing_back r'
