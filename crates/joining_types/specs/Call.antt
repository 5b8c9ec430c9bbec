-- What the joins answer and what the lent buffer then holds: document 02, item 5. Both put the second list behind the first, in one record; in
-- space the second list's qubits are numbered after the first's.
-- Assumes nothing.
use Rattle.std.specs.Prelude.{ℕ, ◌+◌, not, List, [], ◌∷◌, ◌++◌, length, eqb, ltb, Result, Ok, Err}
use Rattle.record_format.specs.Format.{most_qubits, most_gates}
use Rattle.record_format.specs.Gate.{Gate, shift_list}
use Rattle.record_format.specs.Row.{Row, first}
use Rattle.record_format.specs.Reading.{size, qubits, count, gates}
use Rattle.record_format.specs.Answer as list
use Rattle.record_format.specs.Answer.{Answer, gives, refuses}
use Rattle.record_format.specs.Writing.{Outcome, outcome, encode}
use Rattle.record_format.specs.Pair.{PairFault, in_first, in_second, of_pair, number_in, pair_row, both_rows}
use Rattle.joining_types.specs.declared.Refusal.{Refusal}
use Rattle.joining_types.specs.declared.Refusal.TheVariants.{First, Second, QubitsDiffer, TooManyQubits, TooManyGates, BufferShort}

-- what a refusal says: the list, the number and the index, or the number of both together
abbrev pub fault_of : Refusal → PairFault
fault_of (First r) = in_first (list.fault_of r)
fault_of (Second r) = in_second (list.fault_of r)
fault_of QubitsDiffer = of_pair 8
fault_of TooManyQubits = of_pair 3
fault_of TooManyGates = of_pair 4
fault_of BufferShort = of_pair 11

-- its number
abbrev pub number_of : Refusal → ℕ
number_of r = number_in (fault_of r)

-- what a join answered
abbrev pub joined_answer : Result ℕ Refusal → Answer PairFault
joined_answer (Ok k) = gives (k ∷ [])
joined_answer (Err r) = refuses (fault_of r)

-- the last two checks of a join that writes k gates: 4, then 11
abbrev pub size_rows : ℕ → List ℕ → List (Row PairFault)
size_rows k buffer =
    pair_row 4 (ltb most_gates k) ∷ pair_row 11 (ltb (length buffer) (size k)) ∷ []

-- the checks of a join in time: the first list, the second, 8, 4, 11
abbrev pub time_rows : List ℕ → List ℕ → List ℕ → List (Row PairFault)
time_rows s t buffer =
    both_rows s t (pair_row 8 (not (eqb (qubits s) (qubits t))) ∷ size_rows (count s + count t) buffer)

-- the checks of a join in space: the first list, the second, 3, 4, 11
abbrev pub space_rows : List ℕ → List ℕ → List ℕ → List (Row PairFault)
space_rows s t buffer =
    both_rows s t (pair_row 3 (ltb most_qubits (qubits s + qubits t)) ∷ size_rows (count s + count t) buffer)

-- two lists joined in time: the first list's gates come first
abbrev pub list_in_time : List Gate → List Gate → List Gate
list_in_time first second = first ++ second

-- in space, the first list on n qubits: the second's qubits are numbered after these
abbrev pub list_in_space : ℕ → List Gate → List Gate → List Gate
list_in_space n first second = first ++ shift_list n second

-- the new record of a join in time
abbrev pub time_record : List ℕ → List ℕ → List ℕ
time_record s t = encode (qubits s) (list_in_time (gates s) (gates t))

-- that of a join in space
abbrev pub space_record : List ℕ → List ℕ → List ℕ
space_record s t = encode (qubits s + qubits t) (list_in_space (qubits s) (gates s) (gates t))

-- the join in time of the records at the start of s and t, written at the front of the buffer
unfoldable pub join_in_time : List ℕ → List ℕ → List ℕ → Outcome PairFault
join_in_time s t buffer = outcome (first (time_rows s t buffer)) (time_record s t) buffer

-- their join in space
unfoldable pub join_in_space : List ℕ → List ℕ → List ℕ → Outcome PairFault
join_in_space s t buffer = outcome (first (space_rows s t buffer)) (space_record s t) buffer
