-- The promises of specs/Promises.antt on the numbers of cut records, 1 and 13, each proved.
-- Assumes nothing.
use mathlib.Core.Path.{◌≡◌, refl, ap, ◌∙◌}
use mathlib.Core.Logic.{◌↔◌}
use Prim.Native.Nat.{ℕ, ◌+◌, ◌-◌, ◌*◌, ◌≤◌, ◌<◌}
use native.Mathlib.Omega.{arith}
use mathlib.Core.Bool.{Bool, true, false, cond, not}
use mathlib.Core.Option.{some}
use mathlib.Core.List.{List, [], ◌∷◌, ◌++◌}
use lib.ListN.{length, take, length-take}
use lib.Seq.{take-append-add}
use lib.Dec.{ltb, eqb}
use borrow.Author.Tests.{ltb-true, ltb-false, lt-ltb, le-ltb, not-false}
use Rattle.record_format.specs.Format.{list_mark, head_size, gate_size, report_size, most_qubits, most_gates}
use Rattle.record_format.specs.Gate.{body_bytes}
use Rattle.record_format.specs.Row.{Fault, fault, Row, row, first}
use Rattle.record_format.specs.Reading.{size, qubits, count, body, raws, marked, bad_qubits, all_gate_rows, record_rows, refused, read}
use Rattle.record_format.specs.Writing.{head_bytes, encode}
use Rattle.record_format.specs.Report.{report_rows, read_report}
use Rattle.record_format.specs.Promises.{NoneHolds, CutHeadIs1, CutBody, CutBodyIs13, CutIsTold, CutReportIs1}
use Rattle.record_format.proofs.Rows.{only_row}
use Rattle.record_format.proofs.Reading.{gates_all}
use Rattle.record_format.proofs.Encoding.{good_qubits, length-body, two_bytes_back}
use Rattle.record_format.proofs.Theorems.{stopped, read_refused}

-- the fault's number is k
abbrev numbered : ℕ → Fault → Bool
numbered k f = eqb f.number k

-- a record is refused by the fault of its first row that holds, and by no other
by_first : (s : List ℕ) (f : Fault) → (read s ≡ refused f) ↔ (first (record_rows s) ≡ some f)
unfolding read
by_first s f = (stopped s f, λ stops. rw stops)

module _ (s : List ℕ) where
  -- the rows of the gates
  abbrev gate_rows : List (Row Fault)
  gate_rows = all_gate_rows (qubits s) 0 (raws (body s))

  -- the rows of the head
  abbrev upper : List (Row Fault)
  upper =
      row 1 (ltb (length s) head_size) ∷ row 2 (not (marked list_mark s)) ∷ row 3 (bad_qubits (qubits s)) ∷ row 4 (ltb most_gates (count s)) ∷ []

  -- the row of the body
  abbrev short : Row Fault
  short = row 13 (ltb (length s) (size (count s)))

  -- 1 is given exactly where its row holds
  one_row : (first (record_rows s) ≡ some (fault 1)) ↔ (NoneHolds {F = Fault} [] × (ltb (length s) head_size ≡ true))
  unfolding record_rows
  one_row =
      only_row (numbered 1) [] (row 1 (ltb (length s) head_size)) _ refl tt
      (refl, (refl, (refl, (refl, gates_all (λ f. numbered 1 f ≡ false) (λ i. (refl, refl, refl)) (qubits s) 0 (raws (body s))))))

  -- 13 exactly where its row holds and none of the head does
  thirteen_row : (first (record_rows s) ≡ some (fault 13)) ↔ (NoneHolds upper × (ltb (length s) (size (count s)) ≡ true))
  unfolding record_rows
  thirteen_row =
      only_row (numbered 13) upper short gate_rows refl (refl, (refl, (refl, (refl, tt))))
      (gates_all (λ f. numbered 13 f ≡ false) (λ i. (refl, refl, refl)) (qubits s) 0 (raws (body s)))

-- 1 is a cut head
pub cut_head_is_1 : CutHeadIs1
cut_head_is_1 s = (
  λ is. ltb-true (length s) head_size ((one_row s).0 ((by_first s (fault 1)).0 is)).1,
  λ short. (by_first s (fault 1)).1 ((one_row s).1 (tt, lt-ltb (length s) head_size short)),
)

-- 13 is a cut body
pub cut_body_is_13 : CutBodyIs13
cut_body_is_13 s = (λ is. forth ((thirteen_row s).0 ((by_first s (fault 13)).0 is)), λ cut. (by_first s (fault 13)).1 ((thirteen_row s).1 (back cut)))
  where
    forth : NoneHolds (upper s) × (ltb (length s) (size (count s)) ≡ true) → CutBody s
    forth ((long, (mark, (number, (few, end)))), cut) =
        let (some_qubit, few_qubits) = (good_qubits (qubits s)).0 number in
        record {
          head = ltb-false (length s) head_size long;
          mark = not-false (marked list_mark s) mark;
          some_qubit = some_qubit;
          few_qubits = few_qubits;
          few_gates = ltb-false most_gates (count s) few;
          cut = ltb-true (length s) (size (count s)) cut;
        }

    back : CutBody s → NoneHolds (upper s) × (ltb (length s) (size (count s)) ≡ true)
    back c = (
      (
        le-ltb (length s) head_size c.head,
        (
          ap not c.mark,
          ((good_qubits (qubits s)).1 (c.some_qubit, c.few_qubits), (le-ltb most_gates (count s) c.few_gates, tt)),
        ),
      ),
      lt-ltb (length s) (size (count s)) c.cut,
    )

-- a head within the limits with too few bytes behind it
cut_behind :
    (n g : ℕ) (rest : List ℕ) → 1 ≤ n → n ≤ most_qubits → g ≤ most_gates → length rest < gate_size * g → CutBody (head_bytes n g ++ rest)
cut_behind n g rest some_qubit few_qubits few cut =
    let counted : count (head_bytes n g ++ rest) ≡ g = two_bytes_back g (omega arith) in
    record {
      head = omega arith;
      mark = refl;
      some_qubit = some_qubit;
      few_qubits = few_qubits;
      few_gates = rw counted few;
      cut = rw counted (omega arith);
    }

-- a cut record tells where
pub cut_is_told : CutIsTold
unfolding encode
cut_is_told n gs k some_qubit few_qubits few cut = go (ltb k head_size) refl
  where
    go : (b : Bool) → ltb k head_size ≡ b → read (take k (encode n gs)) ≡ refused (fault (cond b 1 13))
    go true in_head =
        let below : k < head_size = ltb-true k head_size in_head in
        let long : length (take k (encode n gs)) < head_size = rw length-take (omega arith) in
        (cut_head_is_1 (take k (encode n gs))).1 long
    go false behind =
        let above : head_size ≤ k = ltb-false k head_size behind in
        let same : k ≡ head_size + (k - head_size) = omega arith in
        let head : List ℕ = head_bytes n (length gs) in
        let rest : List ℕ = take (k - head_size) (body_bytes gs) in
        let short : length rest < gate_size * length gs = rw (length-take, length-body) (omega arith) in
        let parts : take k (encode n gs) ≡ head ++ rest =
        ap (λ (j : ℕ). take j (encode n gs)) same ∙ take-append-add head (body_bytes gs) (k - head_size) in
        ap read parts ∙ (cut_body_is_13 (head ++ rest)).1 (cut_behind n (length gs) rest some_qubit few_qubits few short)

-- of reports, 1 is fewer than twelve bytes
pub cut_report_is_1 : CutReportIs1
unfolding read_report
cut_report_is_1 s = (
  λ is. ltb-true (length s) report_size (one.0 (read_refused (first (report_rows s)) _ (fault 1) is)).1,
  λ short. rw (one.1 (tt, lt-ltb (length s) report_size short)),
)
  where
    one : (first (report_rows s) ≡ some (fault 1)) ↔ (NoneHolds {F = Fault} [] × (ltb (length s) report_size ≡ true))
    one = only_row (numbered 1) [] (row 1 (ltb (length s) report_size)) _ refl tt (refl, (refl, tt))
