-- The report record: document 01, "Report, pick, builder". Of its fields only the verdict is checked, by writer and reader.
-- Assumes nothing.
use Rattle.std.specs.Prelude.{ℕ, not, List, [], ◌∷◌, ◌++◌, length, get_or, ltb}
use Rattle.record_format.specs.Format.{report_mark, report_size, last_verdict, two_bytes, from_bytes}
use Rattle.record_format.specs.Row.{Fault, Row, row, first}
use Rattle.record_format.specs.Reading.{marked}
use Rattle.record_format.specs.Answer.{Answer, gives, fields}
use Rattle.record_format.specs.Writing.{Outcome, fault_or, write}
use Rattle.record_format.specs.declared.Report.{Report}

-- a report's twelve bytes
abbrev pub report_bytes : Report → List ℕ
report_bytes r =
    report_mark
    ++ r.verdict
    ∷ two_bytes r.first
    ++ two_bytes r.second
    ++ r.pins
    ∷ r.sums
    ∷ r.turns
    ∷ r.joins
    ∷ r.left
    ∷ []

-- the fields that stand in the bytes
abbrev pub report_in : List ℕ → Report
report_in s =
    record {
      verdict = get_or s 2 0;
      first = from_bytes (get_or s 3 0) (get_or s 4 0);
      second = from_bytes (get_or s 5 0) (get_or s 6 0);
      pins = get_or s 7 0;
      sums = get_or s 8 0;
      turns = get_or s 9 0;
      joins = get_or s 10 0;
      left = get_or s 11 0;
    }

-- the report writer: 5, then 11
unfoldable pub write_report : Report → List ℕ → Outcome Fault
write_report r buffer = write (row 5 (ltb last_verdict r.verdict) ∷ []) (report_bytes r) buffer

-- the report reader: 1, 2, 5
abbrev pub report_rows : List ℕ → List (Row Fault)
report_rows s =
    row 1 (ltb (length s) report_size) ∷ row 2 (not (marked report_mark s)) ∷ row 5 (ltb last_verdict (get_or s 2 0)) ∷ []

-- what the report reader answers
unfoldable pub read_report : List ℕ → Answer Fault
read_report s = fault_or (first (report_rows s)) (gives (fields (report_in s)))
