-- A worked case, by computation: the promises speak of calls that do write.
-- Assumes nothing.
use mathlib.Core.Path.{◌≡◌, refl}
use Prim.Native.Nat.{ℕ}
use mathlib.Core.List.{List, [], ◌∷◌, ◌++◌}
use lib.ListN.{replicate}
use Rattle.record_format.specs.Format.{list_mark}
use Rattle.record_format.specs.Gate.{gate_of, one_qubit_kind, two_qubit_kind, gate_bytes, body_bytes, inverse_kind, inverse_gate, inverse_list}
use Rattle.record_format.specs.Row.{first}
use Rattle.record_format.specs.Reading.{raws, all_gate_rows, record_rows, qubits, accepted, read}
use Rattle.record_format.specs.Writing.{write, encode, inverse}
use Rattle.joining_types.specs.Call.{join_in_time}
use Rattle.joined_comparison.specs.Promises.{joined, BothWritten}

-- T on the one qubit there is
abbrev t : List ℕ
t = list_mark ++ 1 ∷ 1 ∷ 0 ∷ 5 ∷ 0 ∷ 255 ∷ []

-- S and then H on it
abbrev s_then_h : List ℕ
s_then_h = list_mark ++ 1 ∷ 2 ∷ 0 ∷ 3 ∷ 0 ∷ 255 ∷ 7 ∷ 0 ∷ 255 ∷ []

-- buffers that are just long enough
abbrev spare : List ℕ
spare = replicate 11 1

abbrev buffer : List ℕ
buffer = replicate 14 1

-- both calls write
pub both_write : BothWritten t s_then_h spare buffer
unfolding join_in_time inverse write first record_rows all_gate_rows raws encode body_bytes gate_bytes gate_of one_qubit_kind two_qubit_kind inverse_list inverse_gate inverse_kind
both_write = record { values = 11 ∷ []; values' = 14 ∷ []; inverts = refl; joins = refl }

-- T, H and the inverse of S
pub joined_is : joined t s_then_h spare buffer ≡ list_mark ++ 1 ∷ 3 ∷ 0 ∷ 5 ∷ 0 ∷ 255 ∷ 7 ∷ 0 ∷ 255 ∷ 4 ∷ 0 ∷ 255 ∷ []
unfolding join_in_time inverse write first record_rows all_gate_rows raws encode body_bytes gate_bytes gate_of one_qubit_kind two_qubit_kind inverse_list inverse_gate inverse_kind
joined_is = refl

-- the empty list on one qubit
pub empty_is : read (list_mark ++ 1 ∷ 0 ∷ 0 ∷ []) ≡ accepted (qubits t) []
unfolding read record_rows first all_gate_rows raws
empty_is = refl
