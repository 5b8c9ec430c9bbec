-- Reading a gate-list record: document 01, "Gate lists as bytes" and "Where a call is turned down", with the row 13 of document 02, item 1.
-- The record stands at the start of the bytes; later bytes are ignored.
-- Assumes nothing.
use Rattle.std.specs.Prelude.{ℕ, suc, ◌+◌, ◌*◌, Bool, not, ◌&&◌, ◌||◌, List, [], ◌∷◌, ◌++◌, map, length, get_or, take, drop, ltb, leb, eqb}
use Rattle.std.proofs.Math.Option.{Option, none, some}
use Rattle.record_format.specs.Format.{list_mark, head_size, gate_size, most_qubits, most_gates, last_one_qubit, last_kind, no_qubit, from_bytes}
use Rattle.record_format.specs.Gate.{Gate, Raw, raw, gate_of}
use Rattle.record_format.specs.Row.{Fault, Row, row, gate_row, first}

-- the bytes begin with the mark m
abbrev pub marked : List ℕ → List ℕ → Bool
marked m s = eqb (get_or s 0 0) (get_or m 0 0) && eqb (get_or s 1 0) (get_or m 1 0)

-- n, as the head has it
abbrev pub qubits : List ℕ → ℕ
qubits s = get_or s 2 0

-- g, as the head has it
abbrev pub count : List ℕ → ℕ
count s = from_bytes (get_or s 3 0) (get_or s 4 0)

-- the bytes of a record of g gates
abbrev pub size : ℕ → ℕ
size g = head_size + gate_size * g

-- the gate bytes of a record
abbrev pub body : List ℕ → List ℕ
body s = take (gate_size * count s) (drop head_size s)

-- bytes, three by three
unfoldable pub raws : List ℕ → List Raw
raws [] = []
raws (k ∷ []) = []
raws (k ∷ a ∷ []) = []
raws (k ∷ a ∷ b ∷ rest) = raw k a b ∷ raws rest

-- the gates that bytes stand for, three bytes a gate
abbrev pub gates_in : List ℕ → List Gate
gates_in bytes = map gate_of (raws bytes)

-- the three bytes of the gate at index i of a record
abbrev pub raw_at : List ℕ → ℕ → Raw
raw_at s i = raw (get_or s (size i) 0) (get_or s (size i + 1) 0) (get_or s (size i + 2) 0)

-- the gates of a record
abbrev pub gates : List ℕ → List Gate
gates s = gates_in (body s)

-- n is 0 or above 16
abbrev pub bad_qubits : ℕ → Bool
bad_qubits n = eqb n 0 || ltb most_qubits n

-- the table, places "head" and "body"
abbrev pub head_rows : List ℕ → List (Row Fault)
head_rows s =
    row 1 (ltb (length s) head_size)
    ∷ row 2 (not (marked list_mark s))
    ∷ row 3 (bad_qubits (qubits s))
    ∷ row 4 (ltb most_gates (count s))
    ∷ row 13 (ltb (length s) (size (count s)))
    ∷ []

-- the table, places "each gate in turn" and "gate", for the gate at index i of a record on n qubits
abbrev pub gate_rows : ℕ → ℕ → Raw → List (Row Fault)
gate_rows n i r =
    gate_row i 5 (ltb last_kind r.kind)
    ∷ gate_row i 7 (leb r.kind last_one_qubit && not (eqb r.b no_qubit))
    ∷ gate_row i 6 (leb n r.a || (ltb last_one_qubit r.kind && (leb n r.b || eqb r.a r.b)))
    ∷ []

-- each gate in turn, from index i on
unfoldable pub all_gate_rows : ℕ → ℕ → List Raw → List (Row Fault)
all_gate_rows n i [] = []
all_gate_rows n i (r ∷ rs) = gate_rows n i r ++ all_gate_rows n (suc i) rs

-- every check on a record: head, body, each gate in turn
unfoldable pub record_rows : List ℕ → List (Row Fault)
record_rows s = head_rows s ++ all_gate_rows (qubits s) 0 (raws (body s))

-- what reading finds: n and the gates, or why the record is refused
pub data Reading : Type 0 where
  accepted : ℕ → List Gate → Reading
  refused : Fault → Reading

-- a reading that no fault stops
abbrev pub unless : Option Fault → Reading → Reading
unless none found = found
unless (some f) found = refused f

-- reading the record at the start of the bytes
unfoldable pub read : List ℕ → Reading
read s = unless (first (record_rows s)) (accepted (qubits s) (gates s))
