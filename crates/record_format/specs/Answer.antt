-- What the cases of the layer's answers mean in the numbers, indices and values of documents 01 and 02. The contracts speak through these.
-- Assumes nothing.
use Rattle.std.specs.Prelude.{ℕ, List, [], ◌∷◌, Result, Ok, Err}
use Rattle.std.proofs.Math.Option.{Option, none, some}
use Rattle.record_format.specs.Row.{Fault, fault, fault_at}
use Rattle.record_format.specs.declared.Refusal.{Refusal}
use Rattle.record_format.specs.declared.Refusal.TheVariants.{Short, WrongMark, QubitCount, GateCount, BodyShort, UnknownKind, SpareByte, QubitRange, UnknownVerdict, BufferShort}
use Rattle.record_format.specs.declared.Head.{Head}
use Rattle.record_format.specs.declared.Report.{Report}

-- what a call answers: its values, or why it is refused and nothing else; a fault of records, or one of another type F
pub data Answer (F : Type 0) : Type 0 where
  gives : List ℕ → Answer F
  refuses : F → Answer F

-- what a refusal says: the table's number, and the index of the gate that it names
abbrev pub fault_of : Refusal → Fault
fault_of Short = fault 1
fault_of WrongMark = fault 2
fault_of QubitCount = fault 3
fault_of GateCount = fault 4
fault_of BodyShort = fault 13
fault_of (UnknownKind i) = fault_at i 5
fault_of (SpareByte i) = fault_at i 7
fault_of (QubitRange i) = fault_at i 6
fault_of UnknownVerdict = fault 5
fault_of BufferShort = fault 11

-- its number
abbrev pub number_of : Refusal → ℕ
number_of r = (fault_of r).number

-- what check answered
abbrev pub checked_answer : Result Head Refusal → Answer Fault
checked_answer (Ok head) = gives (head.n ∷ head.g ∷ [])
checked_answer (Err r) = refuses (fault_of r)

-- what a writer answered
abbrev pub written_answer : Result ℕ Refusal → Answer Fault
written_answer (Ok size) = gives (size ∷ [])
written_answer (Err r) = refuses (fault_of r)

-- a report's eight fields, in the record's order
abbrev pub fields : Report → List ℕ
fields r =
    r.verdict ∷ r.first ∷ r.second ∷ r.pins ∷ r.sums ∷ r.turns ∷ r.joins ∷ r.left ∷ []

-- what the report reader answered
abbrev pub report_answer : Result Report Refusal → Answer Fault
report_answer (Ok report) = gives (fields report)
report_answer (Err r) = refuses (fault_of r)

-- what a check of gates found
abbrev pub gate_fault : Result (Unit {0}) Refusal → Option Fault
gate_fault (Ok _) = none
gate_fault (Err r) = some (fault_of r)
