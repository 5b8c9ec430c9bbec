-- Worked cases of what the program prints, by computation.
-- Assumes nothing.
use mathlib.Core.Path.{◌≡◌, refl}
use Rattle.std.specs.Prelude.{codes}
use Prim.Native.Nat.{ℕ}
use mathlib.Core.Bool.{xor}
use mathlib.Core.List.{List, [], ◌∷◌, ◌++◌}
use Rattle.record_format.specs.Gate.{Gate, one, S, T, H, gate_of, one_qubit_kind, gate_bytes, body_bytes}
use Rattle.record_format.specs.Row.{first}
use Rattle.record_format.specs.Reading.{raws, all_gate_rows, record_rows}
use Rattle.record_format.specs.Writing.{encode}
use Rattle.amplitude.specs.Number.{whole, 0ω, 1ω, ◌+ω◌, neg, mulω, ω^, mul√2, √2^}
use Rattle.amplitude.specs.Bits.{bit, put}
use Rattle.amplitude.specs.Matrix.{matrix, entry, times}
use Rattle.amplitude.specs.Circuit.{basis, apply, run, column, tally}
use Rattle.amplitude.specs.Testing.{eq_ℤ, eqω, below, carries_state}
use Rattle.dense_meaning.specs.Columns.{some_of, first_below}
use Rattle.line_bytes.specs.Line.{digits, refused_line}
use Rattle.compare_small_bytes.specs.Lines.{pair_line, stream_line}

-- a stream of the record of these gates on one qubit and of a record without gates
abbrev against_nothing : List Gate → List ℕ
against_nothing gs = encode 1 gs ++ encode 1 []

-- S H S H S H; and H T H, which document 01's steps leave undecided
pub verdicts_printed :
    (stream_line (against_nothing (one S 0 ∷ one H 0 ∷ one S 0 ∷ one H 0 ∷ one S 0 ∷ one H 0 ∷ [])) ≡ codes "turned 7 0\n")
    × (stream_line (against_nothing (one H 0 ∷ one T 0 ∷ one H 0 ∷ [])) ≡ codes "different 0 0\n")
unfolding pair_line digits first gate_of raws all_gate_rows record_rows tally encode body_bytes gate_bytes one_qubit_kind
    eq_ℤ eqω below carries_state some_of first_below whole 0ω 1ω ◌+ω◌ neg mulω mul√2 ω^ √2^ bit put matrix entry times basis apply run column xor
verdicts_printed = (refl, refl)

-- two records without gates on n qubits
abbrev bare : ℕ → List ℕ
bare n = encode n [] ++ encode n []

-- seven qubits: 14, and before that 12 where a byte follows
pub twelve_before_fourteen : (stream_line (bare 7) ≡ refused_line 14) × (stream_line (bare 7 ++ 0 ∷ []) ≡ refused_line 12)
unfolding pair_line first record_rows all_gate_rows raws tally encode body_bytes
twelve_before_fourteen = (refl, refl)
