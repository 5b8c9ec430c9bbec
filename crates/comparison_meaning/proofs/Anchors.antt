-- The pairs of specs/Table.antt, proved by computation: each table jointly.
-- Assumes nothing.
use mathlib.Core.Path.{◌≡◌, refl}
use mathlib.Core.Bool.{xor}
use Rattle.record_format.specs.Gate.{inverse_kind, inverse_gate, inverse_list}
use Rattle.amplitude.specs.Bits.{bit}
use Rattle.phase_sum_meaning.specs.Sets.{◌△◌, xor_up_to, parity_up_to, parity, without, from, first_such}
use Rattle.phase_sum_meaning.specs.Parity.{◌⊕◌, complement, rest, replace_in}
use Rattle.phase_sum_meaning.specs.Phase.{sum_at, phase_at, keep, merge, add_term, add_constant, add_phase, rebuild, in_odd}
use Rattle.phase_sum_meaning.specs.Building.{input, initial, set_wire, with_phase, hadamard_by, gate_by, gates_from, build}
use Rattle.phase_sum_meaning.specs.Stepping.{replace, coeffs, out_of, odd_halves, take_out, turned, kind_of}
use Rattle.comparison_meaning.specs.Reduction.{add_pin, add_sum, add_turn, add_join, pin_from, step_with, reduce_from, reduce_end}
use Rattle.comparison_meaning.specs.Verdict as verdict
use Rattle.comparison_meaning.specs.Verdict.{Verdict, equal, different, undecided, number, numbered, weight, blocked_input, searched, judge, compare}
use Rattle.comparison_meaning.specs.Table.{AllRight, rows, choices, powers}

-- the verdicts' numbers
pub verdict_numbers : (number equal ≡ 0) × ((number different ≡ 1) × ((number undecided ≡ 2) × (number verdict.turned ≡ 3)))
verdict_numbers = (refl, (refl, (refl, refl)))

-- a verdict's number tells it
pub verdict_number_tells : (v : Verdict) → numbered (number v) ≡ v
verdict_number_tells equal = refl
verdict_number_tells different = refl
verdict_number_tells undecided = refl
verdict_number_tells verdict.turned = refl

-- all tables at once, by computation
computed : AllRight rows × AllRight choices × AllRight powers
unfolding xor inverse_kind inverse_gate inverse_list bit ◌△◌ xor_up_to parity_up_to parity first_such without from ◌⊕◌ complement rest replace_in
    sum_at phase_at keep merge add_term add_constant add_phase rebuild in_odd input initial set_wire with_phase hadamard_by gate_by gates_from build
    replace coeffs out_of odd_halves take_out turned kind_of add_pin add_sum add_turn add_join pin_from step_with reduce_from
    reduce_end weight blocked_input searched judge compare
computed = (
  (refl, (refl, (refl, (refl, (refl, (refl, (refl, (refl, (refl, (refl, tt)))))))))),
  (refl, (refl, (refl, (refl, (refl, (refl, (refl, (refl, (refl, (refl, (refl, (refl, tt)))))))))))),
  (refl, (refl, (refl, (refl, (refl, (refl, (refl, (refl, (refl, (refl, (refl, (refl, tt)))))))))))),
)

-- the comparison gives document 01's results
pub p_rows : AllRight rows
p_rows = computed.0

-- makes document 01's choices
pub choice-rows : AllRight choices
choice-rows = computed.1

-- and shows the power of ω that carries the first list to the second
pub power-rows : AllRight powers
power-rows = computed.2
