-- Writing gate-list records: document 01, "Report, pick, builder" and the rows for start, adding and writers of its table.
-- Assumes nothing.
use Rattle.std.specs.Prelude.{ℕ, ◌+◌, List, [], ◌∷◌, ◌++◌, length, drop, ltb, eqb}
use Rattle.std.proofs.Math.Option.{Option, none, some}
use Rattle.record_format.specs.Format.{list_mark, head_size, most_gates, two_bytes}
use Rattle.record_format.specs.Gate.{Gate, Raw, gate_of, body_bytes, inverse_list}
use Rattle.record_format.specs.Row.{Fault, Row, row, first}
use Rattle.record_format.specs.Reading.{Reading, accepted, refused, qubits, count, body, gates, bad_qubits, gate_rows, record_rows}
use Rattle.record_format.specs.Answer.{Answer, gives, refuses}

-- the head of a record: mark, n, g
abbrev pub head_bytes : ℕ → ℕ → List ℕ
head_bytes n g = list_mark ++ n ∷ two_bytes g

-- the record of n qubits and a list of gates
unfoldable pub encode : ℕ → List Gate → List ℕ
encode n gs = head_bytes n (length gs) ++ body_bytes gs

-- the values, unless a fault stops them
abbrev pub fault_or : Option Fault → Answer Fault → Answer Fault
fault_or none a = a
fault_or (some f) a = refuses f

-- the check call: n and g, or why the record is refused
abbrev pub check_answer : Reading → Answer Fault
check_answer (accepted n gs) = gives (n ∷ length gs ∷ [])
check_answer (refused f) = refuses f

-- gate reading: the 3g gate bytes, or nothing
abbrev pub gate_part : List ℕ → Reading → List ℕ
gate_part s (accepted n gs) = body s
gate_part s (refused f) = []

-- where that part starts: the caller's own bytes behind the head, or, where it is empty, the caller's first byte
abbrev pub gates_at {ℓ} : {B : Type ℓ} → Reading → B × ℕ → B × ℕ
gates_at (accepted n gs) p = (p.0, head_size + p.1)
gates_at (refused f) p = p

-- what a writer answers, and what the lent buffer then holds
pub record Outcome (F : Type 0) : Type 0 where
  pub answer : Answer F
  pub buffer : List ℕ

-- a refused writer changes no byte; another writes the new record at the front, leaves all bytes after it unchanged, and
-- returns its length
abbrev pub outcome : {F : Type 0} → Option F → List ℕ → List ℕ → Outcome F
outcome none new buffer = record { answer = gives (length new ∷ []); buffer = new ++ drop (length new) buffer }
outcome (some f) new buffer = record { answer = refuses f; buffer = buffer }

-- a writer's checks are its own rows and then, last, number 11: the buffer is shorter than the new record
unfoldable pub write : List (Row Fault) → List ℕ → List ℕ → Outcome Fault
write rows new buffer = outcome (first (rows ++ row 11 (ltb (length buffer) (length new)) ∷ [])) new buffer

-- start: an empty record
unfoldable pub start : ℕ → List ℕ → Outcome Fault
start n buffer = write (row 3 (bad_qubits n) ∷ []) (encode n []) buffer

-- add: one gate at the end of the record that stands in the buffer; the record is read first
unfoldable pub add : Raw → List ℕ → Outcome Fault
add r buffer =
    write (record_rows buffer ++ row 4 (eqb (count buffer) most_gates) ∷ gate_rows (qubits buffer) (count buffer) r)
    (encode (qubits buffer) (gates buffer ++ gate_of r ∷ []))
    buffer

-- inverse: one record read, its inverse written into another buffer
unfoldable pub inverse : List ℕ → List ℕ → Outcome Fault
inverse s buffer = write (record_rows s) (encode (qubits s) (inverse_list (gates s))) buffer
