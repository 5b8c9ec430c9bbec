-- Worked cases of the definitions, by computation: what single gates build, how terms merge, and what single steps do.
-- Assumes nothing.
use mathlib.Core.Path.{◌≡◌, refl}
use Prim.Native.Nat.{ℕ}
use mathlib.Core.Bool.{true, xor}
use mathlib.Core.List.{List, [], ◌∷◌, map}
use Rattle.record_format.specs.Gate.{every_kind, one, two, Y, T†, H, CX}
use Rattle.amplitude.specs.Bits.{bit}
use Rattle.amplitude.specs.Circuit.{tally}
use Rattle.phase_sum_meaning.specs.Sets.{◌△◌, xor_up_to, without, from}
use Rattle.phase_sum_meaning.specs.Parity.{Parity, of, ◌⊕◌, complement, replace_in}
use Rattle.phase_sum_meaning.specs.Phase.{Phase, Term, term, keep, merge, add_term, add_constant, add_phase, rebuild, in_odd}
use Rattle.phase_sum_meaning.specs.Building.{PathSum, input, initial, set_wire, with_phase, hadamard_by, gate_by, gates_from, build}
use Rattle.phase_sum_meaning.specs.Room.{room_for, room}
use Rattle.phase_sum_meaning.specs.Stepping.{replace, out_of, odd_halves, take_out, turned, constrained}

-- the room of one gate of each kind, from 0 to 10: 1 for each Y, Z, S, T and inverse of S or T, 3 for a CZ, 4 for an H
pub room_kinds : map room_for every_kind ≡ 0 ∷ 1 ∷ 1 ∷ 1 ∷ 1 ∷ 1 ∷ 1 ∷ 4 ∷ 0 ∷ 3 ∷ 0 ∷ []
unfolding room_for
room_kinds = refl

-- over both lists
pub room_of_both : room every_kind (one H 0 ∷ []) ≡ 17
unfolding room_for tally
room_of_both = refl

-- the parity of a set and its complement
abbrev pub not_of : ℕ → Parity
not_of s = record { vars = s; flipped = true }

-- a phase by its parts
abbrev pub phase : ℕ → List Term → Phase
phase k ts = record { constant = k; terms = ts }

-- a path sum by its parts
abbrev pub sum : Phase → List Parity → List ℕ → PathSum
sum φ ws vs = record { phase = φ; wires = ws; live = vs }

-- H on input 0 brings variable 1, and 4 on the product of the two
pub h_built : build 0 1 (one H 0 ∷ []) ≡ sum (phase 0 (term 1 2 ∷ term 2 2 ∷ term 3 6 ∷ [])) (of 2 ∷ []) (1 ∷ [])
unfolding build gates_from gate_by hadamard_by initial input from with_phase add_phase add_term add_constant merge keep ◌⊕◌ ◌△◌ xor_up_to bit xor
h_built = refl

-- Y: −1 where the input is 1, the output complemented, and ω²
pub y_built : build 0 1 (one Y 0 ∷ []) ≡ sum (phase 2 (term 1 4 ∷ [])) (not_of 1 ∷ []) []
unfolding build gates_from gate_by initial input from set_wire with_phase complement add_phase add_term add_constant merge keep bit xor
y_built = refl

-- the inverse of T turns by −1
pub t_inverse_built : build 0 1 (one T† 0 ∷ []) ≡ sum (phase 0 (term 1 7 ∷ [])) (of 1 ∷ []) []
unfolding build gates_from gate_by initial input from with_phase add_phase add_term merge keep bit
t_inverse_built = refl

-- CX from 0 to 1 adds input 0 to wire 1
pub cx_built : build 0 2 (two CX 0 1 ∷ []) ≡ sum (phase 0 []) (of 1 ∷ of 3 ∷ []) []
unfolding build gates_from gate_by initial input from set_wire ◌⊕◌ ◌△◌ xor_up_to bit xor
cx_built = refl

-- a phase of 1 on a complemented parity: the constant 1 and −1 on the parity
pub complemented : add_phase 1 (not_of 1) (phase 0 []) ≡ phase 1 (term 1 7 ∷ [])
unfolding add_phase add_term add_constant merge keep
complemented = refl

-- a new set takes its place in rising order
pub in_order : merge 2 1 (term 1 1 ∷ term 4 1 ∷ []) ≡ term 1 1 ∷ term 2 1 ∷ term 4 1 ∷ []
unfolding merge keep
in_order = refl

-- equal sets are added, and 8 is nothing
pub added_up : merge 1 3 (term 1 5 ∷ term 2 1 ∷ []) ≡ term 2 1 ∷ []
unfolding merge keep
added_up = refl

-- variable 0 is in a term of coefficient 3
pub odd_three : in_odd 0 (term 1 3 ∷ []) ≡ true
unfolding in_odd bit
odd_three = refl

-- replacing variable 1 by input 0, in terms and wires: 4 on both together is gone
pub replaced : replace 1 (of 1) (sum (phase 0 (term 3 4 ∷ [])) (of 2 ∷ of 4 ∷ []) (1 ∷ 2 ∷ [])) ≡ sum (phase 0 []) (of 1 ∷ of 4 ∷ []) (2 ∷ [])
unfolding replace rebuild replace_in without add_phase add_term merge keep ◌⊕◌ ◌△◌ xor_up_to bit xor
replaced = refl

-- replacing variable 1 by the complement of input 0 where a wire holds it and input 1's variable 2
pub replaced_complement : replace_in 1 (not_of 1) (of 6) ≡ not_of 5
unfolding replace_in ◌⊕◌ ◌△◌ xor_up_to bit xor
replaced_complement = refl

-- y = 1 is taken out of its terms, which stay
pub taken_out : take_out 1 (sum (phase 0 (term 2 4 ∷ term 3 2 ∷ [])) [] (1 ∷ [])) ≡ sum (phase 0 (term 1 2 ∷ [])) [] []
unfolding take_out rebuild out_of without add_phase add_term merge keep ◌△◌ xor_up_to bit xor
taken_out = refl

-- L takes the set of half coefficient 1 and leaves that of half coefficient 2
pub odd_half_taken : odd_halves 1 (term 3 2 ∷ term 6 4 ∷ []) ≡ 1
unfolding odd_halves out_of ◌△◌ xor_up_to bit xor
odd_half_taken = refl

-- a turn with C = 1
pub turned_once : turned 1 1 (sum (phase 0 []) [] []) ≡ sum (phase 1 (term 1 6 ∷ [])) [] []
unfolding turned add_term add_constant merge keep
turned_once = refl

-- and the other way with C = 3
pub turned_thrice : turned 3 1 (sum (phase 0 []) [] []) ≡ sum (phase 7 (term 1 2 ∷ [])) [] []
unfolding turned add_term add_constant merge keep
turned_thrice = refl

-- C = 2 asks that L is 1
pub half_of_two : constrained 2 1 ≡ not_of 1
half_of_two = refl
