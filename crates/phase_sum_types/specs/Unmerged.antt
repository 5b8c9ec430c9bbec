-- Building the sum with the terms put one behind the other as the gates run, to be merged once at the end: the order of merging
-- does not matter (proofs/Merging.antt).
-- Assumes nothing.
use Rattle.std.specs.Prelude.{◌≡◌, ℕ, ◌+◌, ◌-◌, ◌%◌, ◌≤◌, cond, List, [], ◌∷◌, ◌++◌, length}
use Rattle.record_format.specs.Gate.{Gate, AllWithin, inverse_list}
use Rattle.record_format.specs.Reading.{gates_in}
use Rattle.amplitude.specs.Circuit.{tally, h_gates}
use Rattle.phase_sum_meaning.specs.Sets.{from}
use Rattle.phase_sum_meaning.specs.Parity.{Parity}
use Rattle.phase_sum_meaning.specs.Phase.{Term, term, minus}
use Rattle.phase_sum_meaning.specs.Building.{PathSum, Putting, initial, gate_by, build}
use Rattle.phase_sum_meaning.specs.Room.{room_for, room, most_variables}
use Rattle.phase_sum_types.specs.Workspace.{Stored, Lent, phase_of, Became}
use Rattle.phase_sum_types.specs.declared.Run.{Run}
use Rattle.phase_sum_types.specs.declared.Sum.{Sum}

-- the gates of the first list, then those of the second backwards and each inverted, from the bytes of both
abbrev pub miter_in : List ℕ → List ℕ → List Gate
miter_in first second = gates_in first ++ inverse_list (gates_in second)

-- the term of a phase c on a parity: −c where the parity is complemented
unfoldable pub phase_term : ℕ → Parity → Term
phase_term c p = term p.vars (cond p.flipped (minus c) c)

-- a phase on a parity put behind the other terms, unmerged: on a complemented parity the constant changes too
unfoldable pub put_behind : Putting
put_behind c p φ =
    record {
      constant = cond p.flipped ((φ.constant + c) % 8) φ.constant;
      terms = φ.terms ++ phase_term c p ∷ [];
    }

-- what one gate does, with its terms behind the others
abbrev pub append_gate : ℕ → Gate → PathSum → PathSum
append_gate n g s = gate_by put_behind n g s

-- the gates in list order
unfoldable pub append_gates : ℕ → List Gate → PathSum → PathSum
append_gates n [] s = s
append_gates n (g ∷ gs) s = append_gates n gs (append_gate n g s)

-- the path sum that a sum under construction stands for, its terms in the order in which they stand
abbrev pub sum_in : Run → Lent → PathSum
sum_in r l =
    record {
      phase = phase_of r.phase l.sets l.coeffs;
      wires = l.wires;
      live = from (length l.wires) (r.next - length l.wires);
    }

-- what running gates asks for: at most 16 qubits, the gates on these, no more variables in the end than a pair may have,
-- and room for the terms in both workspaces
pub record Runnable (r : Run) (gs : List Gate) (l : Lent) : Type 0 where
  pub few : length l.wires ≤ 16
  pub started : length l.wires ≤ r.next
  pub within : AllWithin (length l.wires) gs
  pub variables : r.next + h_gates gs ≤ most_variables
  pub sets : r.phase.count + tally room_for gs ≤ length l.sets
  pub coeffs : r.phase.count + tally room_for gs ≤ length l.coeffs

-- what a call leaves that was lent l, of which m places of the workspaces were in use: the path sum u
pub record Leaves (u : PathSum) (m : ℕ) (r : Run) (l l' : Lent) : Type 0 where
  pub next : r.next ≡ length l.wires + length u.live
  pub constant : r.phase.constant ≡ u.phase.constant
  pub wires : l'.wires ≡ u.wires
  pub terms : Stored m u.phase.terms r.phase.count l.sets l.coeffs l'.sets l'.coeffs

-- what a call leaves that ran the gate g on the sum s
abbrev pub Runs : Gate → Run → Run → Lent → Lent → Type 0
Runs g s r l l' = Leaves (append_gate (length l.wires) g (sum_in s l)) s.phase.count r l l'

-- what a call leaves that ran the gates gs
abbrev pub RunsAll : List Gate → Run → Run → Lent → Lent → Type 0
RunsAll gs s r l l' = Leaves (append_gates (length l.wires) gs (sum_in s l)) s.phase.count r l l'

-- running g on a sum with the wires ws gives it the wires ws' and changes nothing else
abbrev pub Moves : Gate → List Parity → List Parity → Type 0
Moves g ws ws' = (n : ℕ) (s : PathSum) → s.wires ≡ ws → append_gate n g s ≡ record { phase = s.phase; wires = ws'; live = s.live }

-- how many places the terms of gates take, unmerged
abbrev pub places_taken : ℕ → List Gate → ℕ
places_taken n gs = length (append_gates n gs (initial 0 n)).phase.terms

-- what a call leaves that built the sum of the gates gs
abbrev pub Builds : List Gate → Sum → Lent → Lent → Type 0
Builds gs r l l' = Became (build 0 (length l.wires) gs) (places_taken (length l.wires) gs) r l l'

-- what building asks for: the bytes of two lists on at most 16 qubits, together with no more variables than a pair may have, and room for
-- the terms
pub record Buildable (n : ℕ) (first second ss cs : List ℕ) : Type 0 where
  pub few : n ≤ 16
  pub within : AllWithin n (gates_in first)
  pub within' : AllWithin n (gates_in second)
  pub variables : n + (h_gates (gates_in first) + h_gates (gates_in second)) ≤ most_variables
  pub sets : room (gates_in first) (gates_in second) ≤ length ss
  pub coeffs : room (gates_in first) (gates_in second) ≤ length cs
