-- Worked cases of the definitions, by computation: which row of the table comes first where several hold, the index of a refused
-- gate, what an inverse is, gates on qubits further on, and which verdicts a report may carry.
-- Assumes nothing.
use mathlib.Core.Path.{◌≡◌, refl}
use Prim.Native.Nat.{ℕ}
use mathlib.Core.List.{[], ◌∷◌, ◌++◌}
use Rattle.record_format.specs.Format.{list_mark}
use Rattle.record_format.specs.Gate.{every_kind, one, two, X, Y, Z, S, S†, T†, T, H, CX, CZ, SWAP, gate_of, inverse_kind, inverse_gate, inverse_list, shift_gate, shift_list}
use Rattle.record_format.specs.Row.{fault, fault_at, first}
use Rattle.record_format.specs.Reading.{raws, all_gate_rows, record_rows, accepted, refused, read}
use Rattle.record_format.specs.Answer.{gives, refuses}
use Rattle.record_format.specs.Writing.{gate_part, gates_at, write}
use Rattle.record_format.specs.Report.{report_bytes, write_report, read_report}
use Rattle.record_format.specs.declared.Report.{Report}

-- four bytes with another mark: too short comes before the mark
pub short_before_mark : read (0 ∷ 0 ∷ 1 ∷ 0 ∷ []) ≡ refused (fault 1)
unfolding read record_rows first all_gate_rows raws
short_before_mark = refl

-- five bytes, the first two of another mark
pub other_mark : read (0x51 ∷ 0x56 ∷ 0 ∷ 0 ∷ 0 ∷ []) ≡ refused (fault 2)
unfolding read record_rows first all_gate_rows raws
other_mark = refl

-- five bytes with g = 513: the count comes before the body
pub count-before-body : read (list_mark ++ 1 ∷ 1 ∷ 2 ∷ []) ≡ refused (fault 4)
unfolding read record_rows first all_gate_rows raws
count-before-body = refl

-- five bytes with g = 1: the head is there, the body is not
pub head_alone : read (list_mark ++ 1 ∷ 1 ∷ 0 ∷ []) ≡ refused (fault 13)
unfolding read record_rows first all_gate_rows raws
head_alone = refl

-- five bytes with g = 0: nothing is missing
pub no_gates : read (list_mark ++ 1 ∷ 0 ∷ 0 ∷ []) ≡ accepted 1 []
unfolding read record_rows first all_gate_rows raws
no_gates = refl

-- a body one byte short
pub one_byte_short : read (list_mark ++ 1 ∷ 1 ∷ 0 ∷ 0 ∷ 0 ∷ []) ≡ refused (fault 13)
unfolding read record_rows first all_gate_rows raws
one_byte_short = refl

-- a short body whose first gate is bad: the body comes before the gates
pub body-before_gates : read (list_mark ++ 1 ∷ 2 ∷ 0 ∷ 11 ∷ 0 ∷ 255 ∷ []) ≡ refused (fault 13)
unfolding read record_rows first all_gate_rows raws
body-before_gates = refl

-- kind 11 is 5 whatever a and b are
pub kind_first : read (list_mark ++ 2 ∷ 1 ∷ 0 ∷ 11 ∷ 9 ∷ 9 ∷ []) ≡ refused (fault_at 0 5)
unfolding read record_rows first all_gate_rows raws
kind_first = refl

-- a one-qubit gate with bad b and bad a is 7
pub seven_before_six : read (list_mark ++ 2 ∷ 1 ∷ 0 ∷ 3 ∷ 2 ∷ 1 ∷ []) ≡ refused (fault_at 0 7)
unfolding read record_rows first all_gate_rows raws
seven_before_six = refl

-- a two-qubit gate with b = 255 is 6, and so is every two-qubit gate on one qubit
pub no_second_qubit : read (list_mark ++ 1 ∷ 1 ∷ 0 ∷ 8 ∷ 0 ∷ 255 ∷ []) ≡ refused (fault_at 0 6)
unfolding read record_rows first all_gate_rows raws
no_second_qubit = refl

-- the first bad gate counts, with its index
pub second_gate_bad : read (list_mark ++ 2 ∷ 3 ∷ 0 ∷ 0 ∷ 0 ∷ 255 ∷ 8 ∷ 1 ∷ 1 ∷ 11 ∷ 0 ∷ 0 ∷ []) ≡ refused (fault_at 1 6)
unfolding read record_rows first all_gate_rows raws
second_gate_bad = refl

-- H on 0, then CX from 0 to 1, and a byte behind the record
pub two_gates : read (list_mark ++ 2 ∷ 2 ∷ 0 ∷ 7 ∷ 0 ∷ 255 ∷ 8 ∷ 0 ∷ 1 ∷ 99 ∷ []) ≡ accepted 2 (one H 0 ∷ two CX 0 1 ∷ [])
unfolding read record_rows first all_gate_rows raws gate_of
two_gates = refl

-- the kinds 0 to 10, one gate of each
pub every_kind_lem :
    read
    (list_mark
    ++ 2 ∷ 11 ∷ 0 ∷ 0 ∷ 0 ∷ 255 ∷ 1 ∷ 0 ∷ 255 ∷ 2 ∷ 0 ∷ 255 ∷ 3 ∷ 0 ∷ 255 ∷ 4 ∷ 0 ∷ 255 ∷ 5 ∷ 0 ∷ 255 ∷ 6 ∷ 0 ∷ 255 ∷ 7 ∷ 0 ∷ 255
    ∷ 8 ∷ 0 ∷ 1 ∷ 9 ∷ 0 ∷ 1 ∷ 10 ∷ 0 ∷ 1 ∷ [])
    ≡ accepted 2 every_kind
unfolding read record_rows first all_gate_rows raws gate_of
every_kind_lem = refl

-- S on 0, T on 1, CX from 0 to 1: backwards, S and T exchanged for their inverses
pub inverse_of_three : inverse_list (one S 0 ∷ one T 1 ∷ two CX 0 1 ∷ []) ≡ two CX 0 1 ∷ one T† 1 ∷ one S† 0 ∷ []
unfolding inverse_list inverse_gate inverse_kind
inverse_of_three = refl

-- one gate with a byte behind the record: its three bytes
pub part_of_one : (
    let s = list_mark ++ 1 ∷ 1 ∷ 0 ∷ 5 ∷ 0 ∷ 255 ∷ 7 ∷ [] in
    gate_part s (read s) ≡ 5 ∷ 0 ∷ 255 ∷ []
    )
unfolding read record_rows first all_gate_rows raws
part_of_one = refl

-- the part starts five bytes behind the record's start
pub part_starts : ◌≡◌ {A = ℕ × ℕ} (gates_at (accepted 1 []) (0, 7)) (0, 12)
part_starts = refl

-- a report of this verdict, with other numbers in its other fields
abbrev report : ℕ → Report
report v = record { verdict = v; first = 258; second = 772; pins = 5; sums = 6; turns = 7; joins = 8; left = 9 }

-- verdicts 0 to 3 are read from a report, and 4 is refused by 5
pub verdicts_read :
    (read_report (report_bytes (report 0)) ≡ gives (0 ∷ 258 ∷ 772 ∷ 5 ∷ 6 ∷ 7 ∷ 8 ∷ 9 ∷ []))
    × ((read_report (report_bytes (report 3)) ≡ gives (3 ∷ 258 ∷ 772 ∷ 5 ∷ 6 ∷ 7 ∷ 8 ∷ 9 ∷ []))
    × (read_report (report_bytes (report 4)) ≡ refuses (fault 5)))
unfolding read_report first
verdicts_read = (refl, (refl, refl))

-- twelve bytes with the mark of a list are no report
pub other_report_mark : read_report (list_mark ++ 0 ∷ 0 ∷ 0 ∷ 0 ∷ 0 ∷ 0 ∷ 0 ∷ 0 ∷ 0 ∷ 0 ∷ []) ≡ refuses (fault 2)
unfolding read_report first
other_report_mark = refl

-- verdict 3 is written into a report, and 4 is refused by 5
pub verdicts_written :
    ((write_report (report 3) (report_bytes (report 0))).answer ≡ gives (12 ∷ []))
    × ((write_report (report 4) (report_bytes (report 0))).answer ≡ refuses (fault 5))
unfolding write_report first write
verdicts_written = (refl, refl)

-- every kind of gate, three qubits further on
pub every_kind_shifted :
    shift_list 3 every_kind
    ≡ one X 3
    ∷ one Y 3
    ∷ one Z 3
    ∷ one S 3
    ∷ one S† 3
    ∷ one T 3
    ∷ one T† 3
    ∷ one H 3
    ∷ two CX 3 4
    ∷ two CZ 3 4
    ∷ two SWAP 3 4
    ∷ []
unfolding shift_list shift_gate
every_kind_shifted = refl
