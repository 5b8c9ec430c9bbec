-- Worked cases of what the program prints, by computation.
-- Assumes nothing.
use mathlib.Core.Path.{◌≡◌, refl}
use Rattle.std.specs.Prelude.{codes}
use Prim.Native.Nat.{ℕ}
use mathlib.Core.Bool.{xor}
use mathlib.Core.List.{List, [], ◌∷◌, ◌++◌}
use lib.ListN.{replicate}
use Rattle.record_format.specs.Gate.{one, H, gate_of, one_qubit_kind, gate_bytes, body_bytes, inverse_kind, inverse_gate, inverse_list}
use Rattle.record_format.specs.Row.{first}
use Rattle.record_format.specs.Reading.{raws, all_gate_rows, record_rows}
use Rattle.record_format.specs.Writing.{head_bytes, encode}
use Rattle.amplitude.specs.Bits.{bit}
use Rattle.amplitude.specs.Circuit.{tally}
use Rattle.phase_sum_meaning.specs.Sets.{◌△◌, xor_up_to, parity_up_to, parity, without, from, first_such}
use Rattle.phase_sum_meaning.specs.Parity.{◌⊕◌, complement, rest, replace_in}
use Rattle.phase_sum_meaning.specs.Phase.{sum_at, phase_at, keep, merge, add_term, add_constant, add_phase, rebuild, in_odd}
use Rattle.phase_sum_meaning.specs.Building.{input, initial, set_wire, with_phase, hadamard_by, gate_by, gates_from, build}
use Rattle.phase_sum_meaning.specs.Stepping.{replace, coeffs, out_of, odd_halves, take_out, turned, kind_of}
use Rattle.comparison_meaning.specs.Reduction.{add_pin, add_sum, add_turn, add_join, pin_from, step_with, reduce_from, reduce_end}
use Rattle.comparison_meaning.specs.Verdict.{weight, blocked_input, searched, judge, compare}
use Rattle.line_bytes.specs.Line.{digits, refused_line}
use Rattle.compare_bytes.specs.Lines.{pair_line, stream_line}

-- document 01's example: six gates, S H S H S H, and a second record without gates
abbrev example : List ℕ
example =
    0x51 ∷ 0x43 ∷ 0x01 ∷ 0x06 ∷ 0x00 ∷ 0x03 ∷ 0x00 ∷ 0xFF ∷ 0x07 ∷ 0x00 ∷ 0xFF ∷ 0x03 ∷ 0x00 ∷ 0xFF ∷ 0x07 ∷ 0x00 ∷ 0xFF ∷ 0x03 ∷ 0x00 ∷ 0xFF
    ∷ 0x07 ∷ 0x00 ∷ 0xFF ∷ 0x51 ∷ 0x43 ∷ 0x01 ∷ 0x00 ∷ 0x00 ∷ []

-- what it prints
pub example_printed : stream_line example ≡ codes "turned 7 0 1 1 1 0 0\n"
unfolding pair_line digits first gate_of raws all_gate_rows record_rows tally
    xor inverse_kind inverse_gate inverse_list bit ◌△◌ xor_up_to parity_up_to parity first_such without from ◌⊕◌ complement rest replace_in
    sum_at phase_at keep merge add_term add_constant add_phase rebuild in_odd input initial set_wire with_phase hadamard_by gate_by gates_from build
    replace coeffs out_of odd_halves take_out turned kind_of add_pin add_sum add_turn add_join pin_from step_with reduce_from
    reduce_end weight blocked_input searched judge compare
example_printed = refl

-- a record without gates on n qubits
abbrev bare : ℕ → List ℕ
bare n = encode n []

-- a record with one H gate too many for 16 qubits
abbrev large : List ℕ
large = encode 16 (replicate 113 (one H 0))

-- a stream that holds nothing, or the first record alone: 1
pub cut_stream : (stream_line [] ≡ refused_line 1) × (stream_line (bare 1) ≡ refused_line 1)
unfolding pair_line first record_rows all_gate_rows raws encode body_bytes
cut_stream = (refl, refl)

-- one byte behind the second record, or behind the first of two files: 12
pub byte_behind : (stream_line (bare 1 ++ bare 1 ++ 0 ∷ []) ≡ refused_line 12) × (pair_line (bare 1 ++ 0 ∷ []) (bare 1) ≡ refused_line 12)
unfolding pair_line first record_rows all_gate_rows raws encode body_bytes
byte_behind = (refl, refl)

-- a list's own number comes before 12: 13 of a second file whose gate is missing, 3 of a stream's second record on 17 qubits
pub lists_before_twelve :
    (pair_line (bare 1 ++ 0 ∷ []) (head_bytes 1 1) ≡ refused_line 13) × (stream_line (bare 1 ++ bare 17 ++ 0 ∷ []) ≡ refused_line 3)
unfolding pair_line first record_rows all_gate_rows raws encode body_bytes
lists_before_twelve = (refl, refl)

-- 12 comes before 8
pub twelve_before_eight : (stream_line (bare 1 ++ bare 2) ≡ refused_line 8) × (stream_line (bare 1 ++ bare 2 ++ 0 ∷ []) ≡ refused_line 12)
unfolding pair_line first record_rows all_gate_rows raws encode body_bytes
twelve_before_eight = (refl, refl)

-- and before 9
pub twelve_before_nine : (stream_line (bare 16 ++ large) ≡ refused_line 9) × (stream_line (bare 16 ++ large ++ 0 ∷ []) ≡ refused_line 12)
unfolding pair_line first record_rows all_gate_rows raws gate_of tally encode body_bytes gate_bytes one_qubit_kind
twelve_before_nine = (refl, refl)
