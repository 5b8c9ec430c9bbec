-- The promises of specs/Promises.antt, each proved; those on a fault's index stand in Indices, those on 1 and 13 in Cuts.
-- Assumes nothing.
use mathlib.Core.Path.{◌≡◌, refl, sym, ap, ◌∙◌}
use mathlib.Core.Logic.{◌≢◌}
use Prim.Native.Nat.{ℕ, ◌≤◌, ◌<◌}
use native.Mathlib.Omega.{arith}
use mathlib.Core.Bool.{cond}
use mathlib.Core.Option.{Option, none, some}
use mathlib.Core.List.{List, [], ◌∷◌, ◌++◌}
use lib.ListN.{length, get_or, take, drop, length-append}
use lib.Seq.{take_at}
use lib.Dec.{ltb, eqb}
use borrow.Author.Tests.{ltb-false, le-ltb, eqb-false}
use Rattle.record_format.specs.Format.{most_gates, report_size, last_verdict}
use Rattle.record_format.specs.Gate.{Gate, gate_of, inverse_list}
use Rattle.record_format.specs.Row.{Fault, Row, row, first}
use Rattle.record_format.specs.Reading.{size, count, qubits, gates, bad_qubits, gate_rows, record_rows, accepted, refused, unless, read}
use Rattle.record_format.specs.Answer.{gives, refuses, fields, fault_of}
use Rattle.record_format.specs.Writing.{fault_or, encode, outcome, write, start, add, inverse}
use Rattle.record_format.specs.Report.{report_bytes, report_rows, write_report, read_report}
use Rattle.record_format.specs.Promises.{NoneHolds, RefusedByFirstRow, AcceptedByNoRow, WellFormed, AcceptedIsSound, EncodedIsAccepted, StartReadsBack, AddReadsBack, InverseReadsBack, InverseTwice, ReportReadsBack, FirstHolds, writer_rows, RefusedWriterChangesNothing, WriterKeepsTheRest, FaultTells}
use Rattle.record_format.specs.declared.Report.{Report}
use Rattle.record_format.specs.declared.Refusal.{Refusal}
use Rattle.record_format.specs.declared.Refusal.TheVariants.{Short, WrongMark, QubitCount, GateCount, BodyShort, UnknownKind, SpareByte, QubitRange, UnknownVerdict, BufferShort}
use Rattle.record_format.proofs.Rows.{none_holds, first_holds, none_left, none_right}
use Rattle.record_format.proofs.GateLaws.{inverse-inverse, length-inverse, within_append, within_inverse}
use Rattle.record_format.proofs.Encoding.{length_gates, length-encode, good_qubits, good_raw, good_head, gates_within, encode_gates, two_bytes_back, encoded_gates, encoded_good}

-- a reading is not both accepted and refused
one_reading : {n : ℕ} {gs : List Gate} {f : Fault} → accepted n gs ≡ refused f → ⊥
one_reading h = let z : ◌≡◌ {A = ℕ} 0 1 = cc in omega arith

-- an answer does not both give and refuse
pub one_answer : {F : Type 0} {values : List ℕ} {f : F} → gives values ≡ refuses f → ⊥
one_answer h = let z : ◌≡◌ {A = ℕ} 0 1 = cc in omega arith

-- an answer that refuses is that of the first fault
pub read_refused : (o : Option Fault) (values : List ℕ) (f : Fault) → fault_or o (gives values) ≡ refuses f → o ≡ some f
read_refused none values f h = absurd (one_answer h)
read_refused (some h) values f e = cc

-- a refused record is stopped by the fault that it is refused for
pub stopped : (s : List ℕ) (f : Fault) → read s ≡ refused f → first (record_rows s) ≡ some f
unfolding read
stopped s f = go (first (record_rows s))
  where
    go : (o : Option Fault) → unless o (accepted (qubits s) (gates s)) ≡ refused f → o ≡ some f
    go none h = absurd (one_reading h)
    go (some g) h = cc

-- an accepted record is stopped by nothing, and is accepted with its own n and gates
pub passed : (s : List ℕ) (n : ℕ) (gs : List Gate) → read s ≡ accepted n gs → (first (record_rows s) ≡ none) × (qubits s ≡ n) × (gates s ≡ gs)
unfolding read
passed s n gs = go (first (record_rows s))
  where
    go : (o : Option Fault) → unless o (accepted (qubits s) (gates s)) ≡ accepted n gs → (o ≡ none) × (qubits s ≡ n) × (gates s ≡ gs)
    go none h = (refl, (cc), (cc))
    go (some f) h = absurd (one_reading (sym h))

-- a record that no row stops is accepted
accepts : (s : List ℕ) → first (record_rows s) ≡ none → read s ≡ accepted (qubits s) (gates s)
unfolding read
accepts s good = rw good

-- a record is refused by the first row that holds for it
pub refused_by_first_row : RefusedByFirstRow
unfolding read
refused_by_first_row s f = (
  λ h. (first_holds (record_rows s) f).0 (stopped s f h),
  λ h. rw ((first_holds (record_rows s) f).1 h),
)

-- a record is accepted where no row holds for it
pub accepted_by_no_row : AcceptedByNoRow
accepted_by_no_row s = (
  λ h. (none_holds (record_rows s)).0 (passed s (qubits s) (gates s) h).0,
  λ h. accepts s ((none_holds (record_rows s)).1 h),
)

-- a record that no row stops is within the limits and is the record of its n and gates
sound : (s : List ℕ) → first (record_rows s) ≡ none → WellFormed s (qubits s) (gates s)
sound s good =
    let head = good_head s good in
    let same = length_gates s head.whole in
    record {
      some_qubit = head.some_qubit;
      few_qubits = head.few_qubits;
      few_gates = rw same head.few_gates;
      within = gates_within s good;
      whole = rw same head.whole;
      bytes = λ bytes. rw same (encode_gates s good bytes);
    }

-- an accepted record is within the limits and is the record of its n and gates
pub accepted_is_sound : AcceptedIsSound
accepted_is_sound s n gs h =
    let (good, same-n, same-gates) = passed s n gs h in rw (← same-n, ← same-gates) (sound s good)

-- the record of n and gates within the limits reads back as these
pub encoded_is_accepted : EncodedIsAccepted
unfolding encode
encoded_is_accepted n gs rest some_qubit few_qubits few within =
    accepts (encode n gs ++ rest) (encoded_good n gs rest some_qubit few_qubits few within)
    ∙ ap (accepted n) (encoded_gates n gs rest few)

-- a writer that gives values was stopped by none of its rows, and wrote the new record
written :
    (rows : List (Row Fault)) (new buffer values : List ℕ)
    → (write rows new buffer).answer ≡ gives values
    → (first rows ≡ none) × ((write rows new buffer).buffer ≡ new ++ drop (length new) buffer)
unfolding write
written rows new buffer values = go (first (rows ++ last)) refl
  where
    last : List (Row Fault)
    last = row 11 (ltb (length buffer) (length new)) ∷ []

    go : (o : Option Fault) → first (rows ++ last) ≡ o → (outcome o new buffer).answer ≡ gives values
        → (first rows ≡ none) × ((outcome o new buffer).buffer ≡ new ++ drop (length new) buffer)
    go none good h = (none_left rows last good, refl)
    go (some f) bad h = absurd (one_answer (sym h))

-- what start wrote reads back as n and no gate
pub start_reads_back : StartReadsBack
unfolding start
start_reads_back n buffer values h =
    let (good, now) = written (row 3 (bad_qubits n) ∷ []) (encode n []) buffer values h in
    let (some_qubit, few_qubits) = (good_qubits n).0 ((none_holds (row 3 (bad_qubits n) ∷ [])).0 good).0 in
    rw now (encoded_is_accepted n [] (drop (length (encode n [])) buffer) some_qubit few_qubits (omega arith) tt)

-- what add wrote reads back as the old n, and the old gates followed by the new one
pub add_reads_back : AddReadsBack
unfolding add
add_reads_back r buffer values h =
    let n = qubits buffer in
    let gs = gates buffer in
    let gate-rows = gate_rows n (count buffer) r in
    let full = row 4 (eqb (count buffer) most_gates) in
    let new = encode n (gs ++ gate_of r ∷ []) in
    let (none-stops, now) = written (record_rows buffer ++ full ∷ gate-rows) new buffer values h in
    let good = none_left (record_rows buffer) (full ∷ gate-rows) none-stops in
    let Good-new = none_right (record_rows buffer) (full ∷ gate-rows) none-stops in
    let good_gate = none_right (full ∷ []) gate-rows Good-new in
    let room : count buffer ≢ most_gates = eqb-false (count buffer) most_gates ((none_holds (full ∷ gate-rows)).0 Good-new).0 in
    let same = length_gates buffer (good_head buffer good).whole in
    let old = sound buffer good in
    let few : length (gs ++ gate_of r ∷ []) ≤ most_gates = rw length-append (omega arith) in
    let within = within_append n gs (gate_of r ∷ []) old.within ((good_raw n (count buffer) r good_gate).0, tt) in (
      n,
      gs,
      accepts buffer good,
      rw now (encoded_is_accepted n (gs ++ gate_of r ∷ []) (drop (length new) buffer) old.some_qubit old.few_qubits few within),
    )

-- the record that inverse writes
abbrev inverse_record : List ℕ → List ℕ
inverse_record s = encode (qubits s) (inverse_list (gates s))

-- inverse gives values for a record that no row stops, and has then written the record of the inverted gates
inverted :
    (s buffer values : List ℕ)
    → (inverse s buffer).answer ≡ gives values
    → (first (record_rows s) ≡ none) × ((inverse s buffer).buffer ≡ inverse_record s ++ drop (length (inverse_record s)) buffer)
unfolding inverse
inverted s = written (record_rows s) (inverse_record s)

-- what inverse wrote is accepted with the same n and the inverted gates
inverse_accepted :
    (s buffer values : List ℕ)
    → (inverse s buffer).answer ≡ gives values
    → read (inverse s buffer).buffer ≡ accepted (qubits s) (inverse_list (gates s))
inverse_accepted s buffer values h =
    let (good, now) = inverted s buffer values h in
    let old = sound s good in
    let rest = drop (length (inverse_record s)) buffer in
    let few : length (inverse_list (gates s)) ≤ most_gates = rw (length-inverse (gates s)) old.few_gates in
    let within = within_inverse (qubits s) (gates s) old.within in
    rw now (encoded_is_accepted (qubits s) (inverse_list (gates s)) rest old.some_qubit old.few_qubits few within)

-- what inverse wrote reads back as the same n, and as many gates, backwards and inverted
pub inverse_reads_back : InverseReadsBack
inverse_reads_back s buffer values h = (
  qubits s,
  gates s,
  accepts s (inverted s buffer values h).0,
  inverse_accepted s buffer values h,
  length-inverse (gates s),
)

-- inverting twice gives the record's bytes back
pub inverse_twice : InverseTwice
inverse_twice s buffer buffer' values values' bytes h h' =
    let t = (inverse s buffer).buffer in
    let good = (inverted s buffer values h).0 in
    let (_, same-n, same-gates) = passed t (qubits s) (inverse_list (gates s)) (inverse_accepted s buffer values h) in
    let twice = inverse_record t in
    let back : twice ≡ encode (qubits s) (gates s) = rw (same-n, same-gates, inverse-inverse (gates s)) in
    let long : length twice ≡ size (count s) = rw (back, length-encode (qubits s) (gates s), length_gates s (good_head s good).whole) in
    ap (take (size (count s))) (inverted t buffer' values' h').1
    ∙ take_at twice (drop (length twice) buffer') (size (count s)) long
    ∙ back
    ∙ sym (encode_gates s good bytes)

-- the bytes of a report with a known verdict read as its fields
report_back :
    (r : Report) (rest : List ℕ)
    → r.verdict ≤ last_verdict
    → r.first < 65536
    → r.second < 65536
    → read_report (report_bytes r ++ rest) ≡ gives (fields r)
unfolding read_report
report_back r rest known first_fits second_fits =
    let s = report_bytes r ++ rest in
    let good : NoneHolds (report_rows s) = (
      le-ltb (length s) report_size (omega arith),
      (refl, (le-ltb last_verdict r.verdict known, tt)),
    ) in
    rw ((none_holds (report_rows s)).1 good, two_bytes_back r.first first_fits, two_bytes_back r.second second_fits)

-- a report that was written reads back as the same eight fields
pub report_reads_back : ReportReadsBack
unfolding write_report
report_reads_back r buffer values first_fits second_fits h =
    let bad = row 5 (ltb last_verdict r.verdict) in
    let (good, now) = written (bad ∷ []) (report_bytes r) buffer values h in
    let known = ltb-false last_verdict r.verdict ((none_holds (bad ∷ [])).0 good).0 in
    rw now (report_back r (drop report_size buffer) known first_fits second_fits)

-- a refused writer changes no byte
pub refused_writer_changes_nothing : RefusedWriterChangesNothing
unfolding write
refused_writer_changes_nothing rows new buffer f = go (first (writer_rows rows new buffer)) refl
  where
    go : (o : Option Fault) → first (writer_rows rows new buffer) ≡ o → (outcome o new buffer).answer ≡ refuses f
        → FirstHolds (writer_rows rows new buffer) f × ((outcome o new buffer).buffer ≡ buffer)
    go none e h = absurd (one_answer h)
    go (some g) e h = let same : g ≡ f = cc in ((first_holds (writer_rows rows new buffer) f).0 (e ∙ ap some same), refl)

-- another leaves the bytes behind its record
pub writer_keeps_the_rest : WriterKeepsTheRest
unfolding write
writer_keeps_the_rest rows new buffer values = go (first (writer_rows rows new buffer)) refl
  where
    go : (o : Option Fault) → first (writer_rows rows new buffer) ≡ o → (outcome o new buffer).answer ≡ gives values
        → NoneHolds (writer_rows rows new buffer) × (values ≡ length new ∷ []) × ((outcome o new buffer).buffer ≡ new ++ drop (length new) buffer)
    go none e h = ((none_holds (writer_rows rows new buffer)).0 e, cc, refl)
    go (some f) e h = absurd (one_answer (sym h))

-- a refusal by its index and number
numbered : Option ℕ → ℕ → Refusal
numbered none k =
    get_or (Short ∷ Short ∷ WrongMark ∷ QubitCount ∷ GateCount ∷ UnknownVerdict ∷ []) k (cond (eqb k 11) BufferShort BodyShort)
numbered (some i) k = cond (eqb k 5) (UnknownKind i) (cond (eqb k 6) (QubitRange i) (SpareByte i))

-- the refusal that says a fault
pub refusal_of : Fault → Refusal
refusal_of f = numbered f.index f.number

-- what a refusal says gives it back
pub refusal_back : (r : Refusal) → refusal_of (fault_of r) ≡ r
unfolding refusal_of numbered
refusal_back Short = refl
refusal_back WrongMark = refl
refusal_back QubitCount = refl
refusal_back GateCount = refl
refusal_back BodyShort = refl
refusal_back (UnknownKind i) = refl
refusal_back (SpareByte i) = refl
refusal_back (QubitRange i) = refl
refusal_back UnknownVerdict = refl
refusal_back BufferShort = refl

-- refusals with the same number and index are the same
pub fault_tells : FaultTells
fault_tells r r' h = sym (refusal_back r) ∙ ap refusal_of h ∙ refusal_back r'
