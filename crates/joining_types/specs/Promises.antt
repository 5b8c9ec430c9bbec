-- What the definitions of the joins promise, as propositions: each call's answer by cases, apart from the table that it is worked out by; what a
-- call leaves of the buffer; and that a refusal is told by its list, number and index. proofs/Theorems.antt proves each.
-- Assumes nothing.
use Rattle.std.specs.Prelude.{◌≡◌, ◌≢◌, ℕ, ◌+◌, ◌≤◌, ◌<◌, List, [], ◌∷◌, length, drop}
use Rattle.record_format.specs.Format.{most_qubits, most_gates}
use Rattle.record_format.specs.Gate.{Gate}
use Rattle.record_format.specs.Row.{Fault}
use Rattle.record_format.specs.Reading.{size, accepted, refused, read}
use Rattle.record_format.specs.Answer.{Answer, gives, refuses}
use Rattle.record_format.specs.Writing.{Outcome}
use Rattle.record_format.specs.Pair.{PairFault, in_first, in_second, of_pair}
use Rattle.joining_types.specs.Call.{fault_of, join_in_time, join_in_space}
use Rattle.joining_types.specs.declared.Refusal.{Refusal}

-- a call on two records and a buffer
abbrev pub Join : Type 0
Join = List ℕ → List ℕ → List ℕ → Outcome PairFault

-- what a join answers for the bytes s and t and a buffer of so much room, by cases that exclude each other: the first list's own fault; the
-- second's, where the first is accepted; its own number, where Mismatch holds of the two n; then 4, for more than 512 gates together; then 11,
-- for a buffer shorter than the new record; else that record's length
pub data Answers (own : ℕ) (Mismatch : ℕ → ℕ → Type 0) (s t : List ℕ) (room : ℕ) : Answer PairFault → Type 0 where
  first_refused : {f : Fault} → read s ≡ refused f → Answers own Mismatch s t room (refuses (in_first f))
  second_refused :
      {n : ℕ} {gs : List Gate} {f : Fault}
      → read s ≡ accepted n gs
      → read t ≡ refused f
      → Answers own Mismatch s t room (refuses (in_second f))
  mismatched :
      {n m : ℕ} {gs hs : List Gate}
      → read s ≡ accepted n gs
      → read t ≡ accepted m hs
      → Mismatch n m
      → Answers own Mismatch s t room (refuses (of_pair own))
  too_many_gates :
      {n m : ℕ} {gs hs : List Gate}
      → read s ≡ accepted n gs
      → read t ≡ accepted m hs
      → (Mismatch n m → ⊥)
      → most_gates < length gs + length hs
      → Answers own Mismatch s t room (refuses (of_pair 4))
  short :
      {n m : ℕ} {gs hs : List Gate}
      → read s ≡ accepted n gs
      → read t ≡ accepted m hs
      → (Mismatch n m → ⊥)
      → length gs + length hs ≤ most_gates
      → room < size (length gs + length hs)
      → Answers own Mismatch s t room (refuses (of_pair 11))
  writes :
      {n m : ℕ} {gs hs : List Gate}
      → read s ≡ accepted n gs
      → read t ≡ accepted m hs
      → (Mismatch n m → ⊥)
      → length gs + length hs ≤ most_gates
      → size (length gs + length hs) ≤ room
      → Answers own Mismatch s t room (gives (size (length gs + length hs) ∷ []))

-- a join in time refuses unequal n with 8
abbrev pub TimeAnswers : Type 0
TimeAnswers = (s t buffer : List ℕ) → Answers 8 (λ n m. n ≢ m) s t (length buffer) (join_in_time s t buffer).answer

-- a join in space refuses a total n above 16 with 3
abbrev pub SpaceAnswers : Type 0
SpaceAnswers = (s t buffer : List ℕ) → Answers 3 (λ n m. most_qubits < n + m) s t (length buffer) (join_in_space s t buffer).answer

-- a refused call changes no byte
abbrev pub RefusedChangesNothing : Join → Type 0
RefusedChangesNothing join = (s t buffer : List ℕ) (f : PairFault) → (join s t buffer).answer ≡ refuses f → (join s t buffer).buffer ≡ buffer

-- one that answers the length k changes none from k on, and the buffer is as long as it was
abbrev pub KeepsTheRest : Join → Type 0
KeepsTheRest join =
    (s t buffer : List ℕ) (k : ℕ)
    → (join s t buffer).answer ≡ gives (k ∷ [])
    → (drop k (join s t buffer).buffer ≡ drop k buffer) × (length (join s t buffer).buffer ≡ length buffer)

-- so both joins do
abbrev pub LeavesTheRest : Type 0
LeavesTheRest =
    (RefusedChangesNothing join_in_time × KeepsTheRest join_in_time) × (RefusedChangesNothing join_in_space × KeepsTheRest join_in_space)

-- list, number and index together tell which refusal it is
abbrev pub FaultTells : Type 0
FaultTells = (r r' : Refusal) → fault_of r ≡ fault_of r' → r ≡ r'
