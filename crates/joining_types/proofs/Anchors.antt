-- Worked cases of the definitions, by computation: the bytes that a join writes, gate by gate, and the number of each refusal.
-- Assumes nothing.
use mathlib.Core.Path.{◌≡◌, refl}
use Prim.Native.Nat.{ℕ}
use mathlib.Core.List.{List, [], ◌∷◌, ◌++◌, map}
use Rattle.record_format.specs.Format.{list_mark}
use Rattle.record_format.specs.Gate.{gate_of, one_qubit_kind, two_qubit_kind, gate_bytes, body_bytes, shift_gate, shift_list}
use Rattle.record_format.specs.Row.{first}
use Rattle.record_format.specs.Reading.{raws, all_gate_rows, record_rows}
use Rattle.record_format.specs.Answer.{gives, refuses}
use Rattle.record_format.specs.Writing.{Outcome, encode}
use Rattle.record_format.specs.Pair.{PairFault, of_pair}
use Rattle.joining_types.specs.Call.{number_of, join_in_time, join_in_space}
use Rattle.joining_types.specs.declared.Refusal.TheVariants.{QubitsDiffer, TooManyQubits, TooManyGates, BufferShort}

-- an outcome by what it answers and leaves
abbrev written : ℕ → List ℕ → Outcome PairFault
written k buffer = record { answer = gives (k ∷ []); buffer = buffer }

-- H on qubit 1 of two, with a byte behind it, which is ignored
abbrev hadamard : List ℕ
hadamard = list_mark ++ 2 ∷ 1 ∷ 0 ∷ 7 ∷ 1 ∷ 255 ∷ 9 ∷ []

-- T on qubit 0 and CX from 0 to 1, on two qubits
abbrev t_then_cx : List ℕ
t_then_cx = list_mark ++ 2 ∷ 2 ∷ 0 ∷ 5 ∷ 0 ∷ 255 ∷ 8 ∷ 0 ∷ 1 ∷ []

-- X on the one qubit there is
abbrev flip : List ℕ
flip = list_mark ++ 1 ∷ 1 ∷ 0 ∷ 0 ∷ 0 ∷ 255 ∷ []

-- in time: the first list's gate, then the second's two, on the same two qubits; one byte of the buffer is left
pub in_time_written :
    join_in_time hadamard t_then_cx (1 ∷ 1 ∷ 1 ∷ 1 ∷ 1 ∷ 1 ∷ 1 ∷ 1 ∷ 1 ∷ 1 ∷ 1 ∷ 1 ∷ 1 ∷ 1 ∷ 6 ∷ [])
    ≡ written 14 (list_mark ++ 2 ∷ 3 ∷ 0 ∷ 7 ∷ 1 ∷ 255 ∷ 5 ∷ 0 ∷ 255 ∷ 8 ∷ 0 ∷ 1 ∷ 6 ∷ [])
unfolding join_in_time first record_rows all_gate_rows raws encode body_bytes gate_bytes gate_of one_qubit_kind two_qubit_kind
in_time_written = refl

-- in space: the same gates on four qubits, the second list's on qubits 2 and 3; 255 stays
pub in_space_written :
    join_in_space hadamard t_then_cx (1 ∷ 1 ∷ 1 ∷ 1 ∷ 1 ∷ 1 ∷ 1 ∷ 1 ∷ 1 ∷ 1 ∷ 1 ∷ 1 ∷ 1 ∷ 1 ∷ [])
    ≡ written 14 (list_mark ++ 4 ∷ 3 ∷ 0 ∷ 7 ∷ 1 ∷ 255 ∷ 5 ∷ 2 ∷ 255 ∷ 8 ∷ 2 ∷ 3 ∷ [])
unfolding join_in_space first record_rows all_gate_rows raws encode body_bytes gate_bytes gate_of one_qubit_kind two_qubit_kind shift_list shift_gate
in_space_written = refl

-- the other way round: one qubit comes first, and the second list's are 1 and 2
pub on_the_qubits-after :
    join_in_space flip hadamard (1 ∷ 1 ∷ 1 ∷ 1 ∷ 1 ∷ 1 ∷ 1 ∷ 1 ∷ 1 ∷ 1 ∷ 1 ∷ [])
    ≡ written 11 (list_mark ++ 3 ∷ 2 ∷ 0 ∷ 0 ∷ 0 ∷ 255 ∷ 7 ∷ 2 ∷ 255 ∷ [])
unfolding join_in_space first record_rows all_gate_rows raws encode body_bytes gate_bytes gate_of one_qubit_kind two_qubit_kind shift_list shift_gate
on_the_qubits-after = refl

-- in time they do not belong together
pub other_qubits : join_in_time flip hadamard [] ≡ record { answer = refuses (of_pair 8); buffer = [] }
unfolding join_in_time first record_rows all_gate_rows raws
other_qubits = refl

-- the numbers of what is refused of both lists together
pub numbers_of_both : map number_of (QubitsDiffer ∷ TooManyQubits ∷ TooManyGates ∷ BufferShort ∷ []) ≡ 8 ∷ 3 ∷ 4 ∷ 11 ∷ []
numbers_of_both = refl
