-- The terms of a sum never outnumber their room: the room of a list covers what it builds, the steps of the reduction add at most
-- the one term of a turn, and the room of two lists within the limits fits.
-- Assumes nothing.
use mathlib.Core.Path.{◌≡◌, refl}
use mathlib.Core.Bool.{cond}
use mathlib.Core.List.{List, [], ◌∷◌}
use Prim.Native.Nat.{ℕ, suc, ◌+◌, ◌*◌, ◌≤◌}
use native.Mathlib.Omega.{arith}
use lib.Dec.{eqb}
use lib.ListN.{length, length-append}
use Rattle.record_format.specs.Gate.{Gate, one, two, X, Y, Z, S, S†, T, T†, H, CX, CZ, SWAP, one_qubit_kind, inverse_kind, inverse_gate, inverse_list}
use Rattle.amplitude.specs.Circuit.{tally, is_h, h_gates}
use Rattle.amplitude.proofs.Linear.{tally-inverse}
use Rattle.phase_sum_meaning.specs.Sets.{single}
use Rattle.phase_sum_meaning.specs.Parity.{Parity, of, ◌⊕◌, replace_in}
use Rattle.phase_sum_meaning.specs.Phase.{add_constant, add_phase}
use Rattle.phase_sum_meaning.specs.Building.{PathSum, initial, wire, set_wire, with_phase, product_by, hadamard_by, gate_by, gate, gates_from, build}
use Rattle.phase_sum_meaning.specs.Stepping.{replace, out_of, take_out, turned}
use Rattle.phase_sum_meaning.specs.Room.{room_for, room, most_variables, places}
use Rattle.phase_sum_meaning.proofs.PhaseLaws.{length-add_term, length-add_phase, length-rebuild}
use Rattle.record_format.specs.Format.{most_gates}

-- the terms and the live variables of a sum
abbrev size : PathSum → ℕ
size s = length s.phase.terms + length s.live

-- a product of two parities adds at most three terms
terms_product : (u v : Parity) (s : PathSum) → length (product_by add_phase u v s).phase.terms ≤ 3 + length s.phase.terms
unfolding with_phase
terms_product u v s =
    let one = add_phase 2 u s.phase in
    let two = add_phase 2 v one in
    omega (arith, length-add_phase 2 u s.phase, length-add_phase 2 v one, length-add_phase 6 (◌⊕◌ u v) two)

-- a gate adds at most its room
room-gate : (n : ℕ) (g : Gate) (s : PathSum) → size (gate n g s) ≤ room_for g + size s
unfolding gate_by set_wire with_phase hadamard_by add_constant room_for
room-gate n (one X q) s = omega arith
room-gate n (one Y q) s = omega (arith, length-add_phase 4 (wire q s) s.phase)
room-gate n (one Z q) s = omega (arith, length-add_phase 4 (wire q s) s.phase)
room-gate n (one S q) s = omega (arith, length-add_phase 2 (wire q s) s.phase)
room-gate n (one S† q) s = omega (arith, length-add_phase 6 (wire q s) s.phase)
room-gate n (one T q) s = omega (arith, length-add_phase 1 (wire q s) s.phase)
room-gate n (one T† q) s = omega (arith, length-add_phase 7 (wire q s) s.phase)
room-gate n (one H q) s =
    let v = n + length s.live in
    omega (arith, terms_product (wire q s) (of (single v)) s, length-append s.live (v ∷ []))
room-gate n (two CX a b) s = omega arith
room-gate n (two CZ a b) s = omega (arith, terms_product (wire a s) (wire b s) s)
room-gate n (two SWAP a b) s = omega arith

-- the gates of a list add at most their room
room_gates : (n : ℕ) (gs : List Gate) (s : PathSum) → size (gates_from n gs s) ≤ tally room_for gs + size s
unfolding gates_from tally
room_gates n [] s = omega arith
room_gates n (g ∷ gs) s = omega (arith, room_gates n gs (gate n g s), room-gate n g s)

-- a built sum keeps to the room of its list
pub room-build :
    (scratch n : ℕ) (gs : List Gate) →
    length (build scratch n gs).phase.terms + length (build scratch n gs).live ≤ tally room_for gs
unfolding build initial
room-build scratch n gs = omega (arith, room_gates n gs (initial scratch n))

-- a list and its inverse have the same room
pub tally-inverse-room : (gs : List Gate) → tally room_for (inverse_list gs) ≡ tally room_for gs
unfolding inverse_gate inverse_kind room_for
tally-inverse-room gs = tally-inverse room_for same gs
  where
    same : (g : Gate) → room_for (inverse_gate g) ≡ room_for g
    same (one X q) = refl
    same (one Y q) = refl
    same (one Z q) = refl
    same (one S q) = refl
    same (one S† q) = refl
    same (one T q) = refl
    same (one T† q) = refl
    same (one H q) = refl
    same (two v a b) = refl

-- replacing a variable adds no term
pub terms_replace : (z : ℕ) (p : Parity) (s : PathSum) → length (replace z p s).phase.terms ≤ length s.phase.terms
unfolding replace
terms_replace z p s = length-rebuild (λ u. replace_in z p (of u)) s.phase.constant s.phase.terms

-- nor does taking one out
pub terms_take_out : (y : ℕ) (s : PathSum) → length (take_out y s).phase.terms ≤ length s.phase.terms
unfolding take_out
terms_take_out y s = length-rebuild (λ u. of (out_of y u)) s.phase.constant s.phase.terms

-- a turn adds at most one
pub terms_turned : (k l : ℕ) (s : PathSum) → length (turned k l s).phase.terms ≤ suc (length s.phase.terms)
unfolding turned add_constant
terms_turned k l s = length-add_term l (cond (eqb k 1) 6 2) (add_constant (cond (eqb k 1) 1 7) s.phase)

-- a gate has room at most 3, and an H one more
room_for_bound : (g : Gate) → room_for g ≤ 3 + is_h g
unfolding room_for one_qubit_kind
room_for_bound (one X q) = omega arith
room_for_bound (one Y q) = omega arith
room_for_bound (one Z q) = omega arith
room_for_bound (one S q) = omega arith
room_for_bound (one S† q) = omega arith
room_for_bound (one T q) = omega arith
room_for_bound (one T† q) = omega arith
room_for_bound (one H q) = omega arith
room_for_bound (two CX a b) = omega arith
room_for_bound (two CZ a b) = omega arith
room_for_bound (two SWAP a b) = omega arith

-- so over a list
tally_bound : (gs : List Gate) → tally room_for gs ≤ 3 * length gs + h_gates gs
unfolding tally
tally_bound [] = omega arith
tally_bound (g ∷ gs) = omega (arith, room_for_bound g, tally_bound gs)

-- two lists within the limits have room in a workspace
pub room_fits :
    (n : ℕ) (first second : List Gate) →
    length first ≤ most_gates →
    length second ≤ most_gates →
    1 ≤ n →
    n + (h_gates first + h_gates second) ≤ most_variables →
    room first second ≤ places
room_fits n first second a b c d = omega (arith, tally_bound first, tally_bound second)
