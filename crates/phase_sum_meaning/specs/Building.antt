-- Building the path sum of a gate list: document 01, "Building the sum". Variables 0 to n−1 are the inputs; the k-th H that
-- runs brings path variable n + k.
-- Assumes nothing.
use Rattle.std.specs.Prelude.{ℕ, ◌+◌, cond, List, [], ◌∷◌, ◌++◌, map, length, get_or, set}
use Rattle.record_format.specs.Gate.{Gate, one, two, X, Y, Z, S, S†, T, T†, H, CX, CZ, SWAP}
use Rattle.amplitude.specs.Bits.{bit}
use Rattle.phase_sum_meaning.specs.Sets.{single, from}
use Rattle.phase_sum_meaning.specs.Parity.{Parity, of, ◌⊕◌, complement}
use Rattle.phase_sum_meaning.specs.Phase.{Phase, add_constant, add_phase}

-- the path sum: its phase, the wires' parities by qubit, and the path variables that are summed over, in rising order
pub record PathSum : Type 0 where
  pub phase : Phase
  pub wires : List Parity
  pub live : List ℕ

-- the parity of qubit q's input; with a set of scratch qubits, which start at 0, those inputs are the constant 0
unfoldable pub input : ℕ → ℕ → Parity
input scratch q = cond (bit q scratch) (of 0) (of (single q))

-- no phase yet, and each wire its own input
unfoldable pub initial : ℕ → ℕ → PathSum
initial scratch n =
    record { phase = record { constant = 0; terms = [] }; wires = map (input scratch) (from 0 n); live = [] }

-- the parity of wire q
abbrev pub wire : ℕ → PathSum → Parity
wire q s = get_or s.wires q (of 0)

-- the sum with wire q set to p
unfoldable pub set_wire : ℕ → Parity → PathSum → PathSum
set_wire q p s = record { phase = s.phase; wires = set s.wires q p; live = s.live }

-- the sum with another phase
unfoldable pub with_phase : Phase → PathSum → PathSum
with_phase φ s = record { phase = φ; wires = s.wires; live = s.live }

-- a way to put a phase c on a parity into a phase polynomial
abbrev pub Putting : Type 0
Putting = ℕ → Parity → Phase → Phase

-- c on a parity
abbrev pub phase_by : Putting → ℕ → Parity → PathSum → PathSum
phase_by put c p s = with_phase (put c p s.phase) s

-- 4 on a product of two parities, by 4uv = 2u + 2v − 2(u ⊕ v)
abbrev pub product_by : Putting → Parity → Parity → PathSum → PathSum
product_by put u v s = phase_by put 6 (u ⊕ v) (phase_by put 2 v (phase_by put 2 u s))

-- H on wire q: the new path variable v comes in
unfoldable pub hadamard_by : Putting → ℕ → ℕ → PathSum → PathSum
hadamard_by put v q s =
    let t = product_by put (wire q s) (of (single v)) s in
    record { phase = t.phase; wires = set t.wires q (of (single v)); live = t.live ++ v ∷ [] }

-- the table: what one gate does to the sum of a list on n qubits. Y is Z followed by X, with its published factor ω²
unfoldable pub gate_by : Putting → ℕ → Gate → PathSum → PathSum
gate_by put n (one X q) s = set_wire q (complement (wire q s)) s
gate_by put n (one Y q) s =
    let t = phase_by put 4 (wire q s) s in
    set_wire q (complement (wire q t)) (with_phase (add_constant 2 t.phase) t)
gate_by put n (one Z q) s = phase_by put 4 (wire q s) s
gate_by put n (one S q) s = phase_by put 2 (wire q s) s
gate_by put n (one S† q) s = phase_by put 6 (wire q s) s
gate_by put n (one T q) s = phase_by put 1 (wire q s) s
gate_by put n (one T† q) s = phase_by put 7 (wire q s) s
gate_by put n (one H q) s = hadamard_by put (n + length s.live) q s
gate_by put n (two CX a b) s = set_wire b (wire b s ⊕ wire a s) s
gate_by put n (two CZ a b) s = product_by put (wire a s) (wire b s) s
gate_by put n (two SWAP a b) s = set_wire b (wire a s) (set_wire a (wire b s) s)

-- that, with each phase merged at once
abbrev pub gate : ℕ → Gate → PathSum → PathSum
gate n g s = gate_by add_phase n g s

-- the gates in list order
unfoldable pub gates_from : ℕ → List Gate → PathSum → PathSum
gates_from n [] s = s
gates_from n (g ∷ gs) s = gates_from n gs (gate n g s)

-- the sum of a list on n qubits
unfoldable pub build : ℕ → ℕ → List Gate → PathSum
build scratch n gs = gates_from n gs (initial scratch n)
