-- What the joins answer and leave: by what reading the two lists found, by their qubits together, and, once they are to be written, by the
-- number of gates and the buffer's length.
-- Assumes nothing.
use mathlib.Core.Path.{◌≡◌, refl, ◌∙◌}
use mathlib.Core.Logic.{◌≢◌}
use Prim.Native.Nat.{ℕ, ◌+◌, ◌-◌, ◌*◌, ◌≤◌, ◌<◌}
use native.Mathlib.Omega.{arith}
use mathlib.Core.Option.{none, some}
use mathlib.Core.List.{List, [], ◌∷◌, ◌++◌, append-nil}
use lib.ListN.{length, take, drop, length-append}
use borrow.Author.Tests.{lt-ltb, le-ltb, eq-eqb, ne_eqb}
use Rattle.std.specs.Prelude.{Result}
use Rattle.record_format.specs.Format.{most_qubits, most_gates}
use Rattle.record_format.specs.Gate.{Gate, AllWithin, body_bytes, shift_list}
use Rattle.record_format.specs.Row.{Row, first}
use Rattle.record_format.specs.Reading.{size, qubits, count, raws, gates, record_rows, read}
use Rattle.record_format.specs.Chunks.{raws_of, gates_of}
use Rattle.record_format.specs.Answer.{gives}
use Rattle.record_format.specs.Writing.{head_bytes, check_answer, Outcome, outcome}
use Rattle.record_format.specs.Pair.{PairFault, of_pair, both_rows}
use Rattle.record_format.specs.declared.Head.{Head}
use Rattle.record_format.proofs.Rows.{first_some}
use Rattle.record_format.proofs.Chunks.{gates_of_raws}
use Rattle.record_format.proofs.Reading.{accepts}
use Rattle.record_format.proofs.Pairs.{both_good}
use Rattle.record_format.proofs.Encoding.{length-body, length_gates, good_head, gates_within}
use Rattle.record_format.proofs.GateLaws.{within_more, length_shift}
use Rattle.record_format.proofs.Writers.{turned_down}
use Rattle.joining_types.specs.Call.{joined_answer, join_in_time, join_in_space}
use Rattle.joining_types.specs.Clauses.{WhereWritten}
use Rattle.joining_types.specs.Inner.{Holds, written}
use Rattle.joining_types.specs.declared.Refusal.{Refusal}
use Rattle.joining_types.proofs.Shifting.{shift_none, encode_append, put_behind_lem}

-- a check that answers a head found an accepted record with it
pub holds : (s : List ℕ) (head : Head) → gives (head.n ∷ head.g ∷ []) ≡ check_answer (read s) → Holds head s
holds s head answers =
    let read-s = accepts s head.n head.g answers in
    record {
      good = read-s.good;
      n_is = read-s.n_is;
      g_is = read-s.g_is;
      few_qubits = omega (arith, read-s.head.few_qubits, read-s.n_is);
      all = omega (arith, read-s.head.whole, read-s.g_is);
    }

-- its gates are within 16 qubits, also as chunks of three bytes
pub part_of_held : (s : List ℕ) (head : Head) (chunks : List (List ℕ)) → Holds head s → raws_of chunks ≡ raws (take (3 * head.g) (drop 5 s))
    → AllWithin most_qubits (gates_of chunks) × (gates_of chunks ≡ gates s)
part_of_held s head chunks list part =
    let most : qubits s + (most_qubits - qubits s) ≡ most_qubits = omega (arith, (good_head s list.good).few_qubits) in
    let same : gates_of chunks ≡ gates s = gates_of_raws chunks _ (rw list.g_is at part) in
    (rw (same, ← most) (within_more (qubits s) (most_qubits - qubits s) (gates s) (gates_within s list.good)), same)

-- what stops one of two records stops every table for them
both_stopped : (s t : List ℕ) (below : List (Row PairFault)) (f : PairFault) → first (both_rows s t []) ≡ some f
    → first (both_rows s t below) ≡ some f
both_stopped s t below f bad = first_some _ below f (rw append-nil at bad)

-- what a call that no row stops answers and leaves: it writes j bytes
outcome_of : (new bytes l : List ℕ) (j : ℕ) → new ≡ bytes → length bytes ≡ j
    → outcome {F = PairFault} none new l ≡ record { answer = gives (j ∷ []); buffer = bytes ++ drop j l }
outcome_of new bytes l j same long = rw (same, long)

-- what a call on s, t and the buffer l answers and leaves
module _ (s t l : List ℕ) where
  -- two lists of which one is refused
  module _ (f : PairFault) (stopped : first (both_rows s t []) ≡ some f) where
    -- their join in time
    pub time_unread : join_in_time s t l ≡ turned_down f l
    unfolding join_in_time
    time_unread = rw (both_stopped s t _ f stopped)

    -- their join in space
    pub space_unread : join_in_space s t l ≡ turned_down f l
    unfolding join_in_space
    space_unread = rw (both_stopped s t _ f stopped)

  -- two lists that are accepted
  module _ (good : first (record_rows s) ≡ none) (good' : first (record_rows t) ≡ none) where
    -- they have so many gates together, however far the second's qubits are further on
    as_many : (k : ℕ) → length (gates s) + length (shift_list k (gates t)) ≡ count s + count t
    as_many k = rw (length_shift k (gates t), length_gates s (good_head s good).whole, length_gates t (good_head t good').whole)

    -- in time, where the numbers of qubits differ
    pub time_differ : qubits s ≢ qubits t → join_in_time s t l ≡ turned_down (of_pair 8) l
    unfolding join_in_time first
    time_differ differ = rw (both_good s t _ good good', ne_eqb (qubits s) (qubits t) differ)

    -- where they are the same the lists are written one behind the other
    pub time_same : qubits s ≡ qubits t → join_in_time s t l ≡ written (qubits s) (gates s) (shift_list 0 (gates t)) l
    unfolding join_in_time first
    time_same same = rw (as_many 0, shift_none (gates t), both_good s t _ good good', eq-eqb (qubits s) (qubits t) same)

    -- in space, on too many qubits
    pub space_many : most_qubits < qubits s + qubits t → join_in_space s t l ≡ turned_down (of_pair 3) l
    unfolding join_in_space first
    space_many many = rw (both_good s t _ good good', lt-ltb most_qubits (qubits s + qubits t) many)

    -- on no more than there may be the second is written on the qubits after the first's
    pub space_few : qubits s + qubits t ≤ most_qubits
        → join_in_space s t l ≡ written (qubits s + qubits t) (gates s) (shift_list (qubits s) (gates t)) l
    unfolding join_in_space first
    space_few few = rw (as_many (qubits s), both_good s t _ good good', le-ltb most_qubits (qubits s + qubits t) few)

-- the last clause of a join that answered r and left a buffer as an outcome has it, where that is the defined one and the clause holds of this
pub clause_of : (Claim : List ℕ → Type 0) (after : List ℕ) (r : Result ℕ Refusal) (o defined : Outcome PairFault) → defined ≡ o
    → (joined_answer r ≡ defined.answer → WhereWritten r (Claim defined.buffer))
    → joined_answer r ≡ o.answer
    → after ≡ o.buffer
    → WhereWritten r (Claim after)
clause_of Claim after r o defined is composed answers leaves = rw (leaves, ← is) (composed (rw (← is) at answers))

-- two lists to be written on n qubits, at the front of the buffer l
module _ (n : ℕ) (gs hs : List Gate) (l : List ℕ) where
  -- too many gates together
  pub gates_many : most_gates < length gs + length hs → written n gs hs l ≡ turned_down (of_pair 4) l
  unfolding first
  gates_many many = rw (lt-ltb most_gates (length gs + length hs) many)

  -- a buffer that is too short for them
  pub buffer_short : length gs + length hs ≤ most_gates → length l < size (length gs + length hs)
      → written n gs hs l ≡ turned_down (of_pair 11) l
  unfolding first
  buffer_short few short = rw (le-ltb most_gates (length gs + length hs) few, lt-ltb (length l) (size (length gs + length hs)) short)

  -- with a gates and b gates, a head, the first list's gate bytes behind it, and the second's behind those are what is written
  pub lists_stored : (l₁ l₂ : List ℕ) (a b : ℕ) → length gs ≡ a → length hs ≡ b → a + b ≤ most_gates → size (a + b) ≤ length l
      → l₁ ≡ head_bytes n (a + b) ++ drop 5 l
      → l₂ ≡ take 5 l₁ ++ body_bytes gs ++ drop (size a) l₁
      → written n gs hs l ≡ record { answer = gives (size (a + b) ∷ []); buffer = take (size a) l₂ ++ body_bytes hs ++ drop (size a + 3 * b) l₂ }
  unfolding first
  lists_stored l₁ l₂ a b many many' few fits e e' =
      let head = head_bytes n (a + b) in
      let p : List ℕ = head ++ body_bytes gs in
      let x : List ℕ = body_bytes hs in
      let end : size (a + b) ≡ size a + 3 * b = omega arith in
      let here : 5 + length (body_bytes gs) ≡ size a = omega (arith, length-body gs) in
      let there : size a + length x ≡ size a + 3 * b = omega (arith, length-body hs) in
      let long-p : length p ≡ size a = simp length-append (omega arith) in
      let long : length (p ++ x) ≡ size (a + b) = simp length-append (omega arith) in
      let l₂-is : l₂ ≡ p ++ drop (size a) l = e' ∙ rw (e, ← here) (put_behind_lem head (body_bytes gs) l 5 refl) in
      let last = rw there at (put_behind_lem p x l (size a) long-p) in
      rw (many, many', le-ltb most_gates (a + b) few, le-ltb (length l) (size (a + b)) fits)
      (outcome_of _ (p ++ x) l (size (a + b)) (rw (many, many') at (encode_append n gs hs)) long ∙ rw (l₂-is, last, end))
