-- What the definitions of this layer promise, as propositions: demand 1's table and, for records and reports, demand 2's
-- "read back as they were written". proofs/Theorems.antt proves each.
-- Assumes nothing.
use Rattle.std.specs.Prelude.{◌≡◌, ◌↔◌, ℕ, ◌≤◌, ◌<◌, Bool, true, false, cond, ◌||◌, List, [], ◌∷◌, ◌++◌, length, take, drop, ltb, eqb}
use Rattle.std.proofs.Math.Option.{Option, none, some}
use Rattle.record_format.specs.Format.{list_mark, head_size, report_size, most_qubits, most_gates, Bytes}
use Rattle.record_format.specs.Gate.{Gate, Raw, AllWithin, gate_of, inverse_list}
use Rattle.record_format.specs.Row.{Fault, fault, Row, row}
use Rattle.record_format.specs.Reading.{size, count, qubits, marked, raw_at, gates, head_rows, gate_rows, record_rows, accepted, refused, read}
use Rattle.record_format.specs.Answer.{gives, refuses, fault_of, fields}
use Rattle.record_format.specs.Writing.{encode, check_answer, write, start, add, inverse}
use Rattle.record_format.specs.Report.{write_report, read_report}
use Rattle.record_format.specs.declared.Refusal.{Refusal}
use Rattle.record_format.specs.declared.Report.{Report}

-- no row's condition holds
abbrev pub NoneHolds : {F : Type 0} → List (Row F) → Type 0
NoneHolds [] = Unit {0}
NoneHolds (r ∷ rs) = (r.when ≡ false) × NoneHolds rs

-- f is the fault of the first row whose condition holds
abbrev pub FirstHolds : {F : Type 0} → List (Row F) → F → Type 0
FirstHolds {F} rows f =
    (before : List (Row F)) × (r : Row F) × (after : List (Row F)) × (rows ≡ before ++ r ∷ after) × NoneHolds before × (r.when ≡ true) × (r.fault ≡ f)

-- a record is refused by the first row of the table that holds for it
abbrev pub RefusedByFirstRow : Type 0
RefusedByFirstRow = (s : List ℕ) (f : Fault) → (read s ≡ refused f) ↔ FirstHolds (record_rows s) f

-- a record is accepted where none of the checks on head, body and gates applies to it
abbrev pub AcceptedByNoRow : Type 0
AcceptedByNoRow = (s : List ℕ) → (read s ≡ accepted (qubits s) (gates s)) ↔ NoneHolds (record_rows s)

-- an accepted record is within the limits and is, byte for byte, the record of its n and gates
pub record WellFormed (s : List ℕ) (n : ℕ) (gs : List Gate) : Type 0 where
  pub some_qubit : 1 ≤ n
  pub few_qubits : n ≤ most_qubits
  pub few_gates : length gs ≤ most_gates
  pub within : AllWithin n gs
  pub whole : size (length gs) ≤ length s
  pub bytes : Bytes s → take (size (length gs)) s ≡ encode n gs

-- every accepted record is so
abbrev pub AcceptedIsSound : Type 0
AcceptedIsSound = (s : List ℕ) (n : ℕ) (gs : List Gate) → read s ≡ accepted n gs → WellFormed s n gs

-- the record of n and gates within the limits is accepted, whatever follows it, and reads back as n and these gates
abbrev pub EncodedIsAccepted : Type 0
EncodedIsAccepted =
    (n : ℕ) (gs : List Gate) (rest : List ℕ)
    → 1 ≤ n
    → n ≤ most_qubits
    → length gs ≤ most_gates
    → AllWithin n gs
    → read (encode n gs ++ rest) ≡ accepted n gs

-- what start wrote reads back: n and no gate
abbrev pub StartReadsBack : Type 0
StartReadsBack =
    (n : ℕ) (buffer values : List ℕ)
    → (start n buffer).answer ≡ gives values
    → read (start n buffer).buffer ≡ accepted n []

-- what add wrote reads back: the old n, and the old gates followed by the new one
abbrev pub AddReadsBack : Type 0
AddReadsBack =
    (r : Raw) (buffer values : List ℕ)
    → (add r buffer).answer ≡ gives values
    → (n : ℕ) × (gs : List Gate) × (read buffer ≡ accepted n gs) × (read (add r buffer).buffer ≡ accepted n (gs ++ gate_of r ∷ []))

-- the inverse of an accepted record is accepted, with the same n and g, its gates backwards and inverted
abbrev pub InverseReadsBack : Type 0
InverseReadsBack =
    (s buffer values : List ℕ)
    → (inverse s buffer).answer ≡ gives values
    → (n : ℕ)
    × (gs : List Gate)
    × (read s ≡ accepted n gs)
    × (read (inverse s buffer).buffer ≡ accepted n (inverse_list gs))
    × (length (inverse_list gs) ≡ length gs)

-- inverting twice gives the record's bytes back
abbrev pub InverseTwice : Type 0
InverseTwice =
    (s first second values values' : List ℕ)
    → Bytes s
    → (inverse s first).answer ≡ gives values
    → (inverse (inverse s first).buffer second).answer ≡ gives values'
    → take (size (count s)) (inverse (inverse s first).buffer second).buffer ≡ take (size (count s)) s

-- a report that was written reads back as the same eight fields, whatever they are
abbrev pub ReportReadsBack : Type 0
ReportReadsBack =
    (r : Report) (buffer values : List ℕ)
    → r.first < 65536
    → r.second < 65536
    → (write_report r buffer).answer ≡ gives values
    → read_report (write_report r buffer).buffer ≡ gives (fields r)

-- every check of a writer: its own rows and then, last, number 11
abbrev pub writer_rows : List (Row Fault) → List ℕ → List ℕ → List (Row Fault)
writer_rows rows new buffer = rows ++ row 11 (ltb (length buffer) (length new)) ∷ []

-- a refused writer answers the fault of the first row that holds, and changes no byte
abbrev pub RefusedWriterChangesNothing : Type 0
RefusedWriterChangesNothing =
    (rows : List (Row Fault)) (new buffer : List ℕ) (f : Fault)
    → (write rows new buffer).answer ≡ refuses f
    → FirstHolds (writer_rows rows new buffer) f × ((write rows new buffer).buffer ≡ buffer)

-- another answers the new record's length, writes it at the front and leaves all bytes after it
abbrev pub WriterKeepsTheRest : Type 0
WriterKeepsTheRest =
    (rows : List (Row Fault)) (new buffer values : List ℕ)
    → (write rows new buffer).answer ≡ gives values
    → NoneHolds (writer_rows rows new buffer) × (values ≡ length new ∷ []) × ((write rows new buffer).buffer ≡ new ++ drop (length new) buffer)

-- number and index together tell which refusal it is
abbrev pub FaultTells : Type 0
FaultTells = (r r' : Refusal) → fault_of r ≡ fault_of r' → r ≡ r'

-- number 1 is that of a cut head alone: fewer than five bytes
abbrev pub CutHeadIs1 : Type 0
CutHeadIs1 = (s : List ℕ) → (read s ≡ refused (fault 1)) ↔ (length s < head_size)

-- a head within the limits, and fewer bytes than it says
pub record CutBody (s : List ℕ) : Type 0 where
  pub head : head_size ≤ length s
  pub mark : marked list_mark s ≡ true
  pub some_qubit : 1 ≤ qubits s
  pub few_qubits : qubits s ≤ most_qubits
  pub few_gates : count s ≤ most_gates
  pub cut : length s < size (count s)

-- number 13 is that of a cut body alone
abbrev pub CutBodyIs13 : Type 0
CutBodyIs13 = (s : List ℕ) → (read s ≡ refused (fault 13)) ↔ CutBody s

-- so a record that was cut tells where: in its head by 1, behind it by 13
abbrev pub CutIsTold : Type 0
CutIsTold =
    (n : ℕ) (gs : List Gate) (k : ℕ)
    → 1 ≤ n
    → n ≤ most_qubits
    → length gs ≤ most_gates
    → k < size (length gs)
    → read (take k (encode n gs)) ≡ refused (fault (cond (ltb k head_size) 1 13))

-- of reports, 1 is that of fewer than twelve bytes
abbrev pub CutReportIs1 : Type 0
CutReportIs1 = (s : List ℕ) → (read_report s ≡ refuses (fault 1)) ↔ (length s < report_size)

-- the gate at index i is a record's first bad one: head and body pass, every gate before it passes all of its rows, and f is the fault
-- of the first of its own rows that holds
pub record FirstBadGate (s : List ℕ) (i : ℕ) (f : Fault) : Type 0 where
  pub head : NoneHolds (head_rows s)
  pub below : i < count s
  pub before : (j : ℕ) → j < i → NoneHolds (gate_rows (qubits s) j (raw_at s j))
  pub bad : FirstHolds (gate_rows (qubits s) i (raw_at s i)) f

-- a record is refused with the index i exactly where its first bad gate is the one at i
abbrev pub IndexIsFirstBad : Type 0
IndexIsFirstBad = (s : List ℕ) (i : ℕ) (f : Fault) → ((read s ≡ refused f) × (f.index ≡ some i)) ↔ FirstBadGate s i f

-- adding to an accepted record is refused for a gate exactly where the record has room for one more and the new gate is bad: by the first
-- of the new gate's rows that holds, with g for its index
abbrev pub AddedGateIndex : Type 0
AddedGateIndex =
    (r : Raw) (buffer : List ℕ) (n i : ℕ) (gs : List Gate) (f : Fault)
    → read buffer ≡ accepted n gs
    → (((add r buffer).answer ≡ refuses f) × (f.index ≡ some i))
    ↔ ((length gs < most_gates) × (i ≡ length gs) × FirstHolds (gate_rows n (length gs) r) f)

-- a record's own fault, its index with it, is that of every call that reads it: the check, adding to it, inverting it
abbrev pub RecordsFaultIsKept : Type 0
RecordsFaultIsKept =
    (s : List ℕ) (f : Fault)
    → read s ≡ refused f
    → (check_answer (read s) ≡ refuses f)
    × ((r : Raw) → (add r s).answer ≡ refuses f)
    × ((buffer : List ℕ) → (inverse s buffer).answer ≡ refuses f)

-- the numbers that a gate gets
abbrev pub is_of_a_gate : ℕ → Bool
is_of_a_gate k = eqb k 5 || eqb k 6 || eqb k 7

-- is there an index?
abbrev pub is_there : Option ℕ → Bool
is_there none = false
is_there (some i) = true

-- a fault has an index exactly where its number is one that a gate gets
abbrev pub IndexedAsAGate : Fault → Type 0
IndexedAsAGate f = is_there f.index ≡ is_of_a_gate f.number

-- so has every fault that a call on gate lists answers; calls on reports answer no index, with 5 neither
pub record OnlyGatesHaveAnIndex : Type 0 where
  pub reading : (s : List ℕ) (f : Fault) → read s ≡ refused f → IndexedAsAGate f
  pub starting : (n : ℕ) (buffer : List ℕ) (f : Fault) → (start n buffer).answer ≡ refuses f → IndexedAsAGate f
  pub adding : (r : Raw) (buffer : List ℕ) (f : Fault) → (add r buffer).answer ≡ refuses f → IndexedAsAGate f
  pub inverting : (s buffer : List ℕ) (f : Fault) → (inverse s buffer).answer ≡ refuses f → IndexedAsAGate f
  pub writing_reports : (r : Report) (buffer : List ℕ) (f : Fault) → (write_report r buffer).answer ≡ refuses f → f.index ≡ none
  pub reading_reports : (s : List ℕ) (f : Fault) → read_report s ≡ refuses f → f.index ≡ none
