-- Gates in their typed form, and as the three bytes of document 01, "Gate lists as bytes". The layers above speak of these.
-- Assumes nothing.
use Rattle.std.specs.Prelude.{◌≢◌, ℕ, ◌+◌, ◌-◌, ◌<◌, cond, List, [], ◌∷◌, ◌++◌, map, reverse, get_or, eqb, leb}
use Rattle.record_format.specs.Format.{last_one_qubit, no_qubit}

-- the gates on one qubit; † marks an inverse
pub data OneQubit : Type 0 where
  X Y Z S S† T T† H : OneQubit

-- the gates on two qubits
pub data TwoQubit : Type 0 where
  CX CZ SWAP : TwoQubit

-- a gate on qubit a, or on qubits a and b (CX: a control, b target)
pub data Gate : Type 0 where
  one : OneQubit → ℕ → Gate
  two : TwoQubit → ℕ → ℕ → Gate

-- one gate of each kind, in the order of their numbers, for worked cases
abbrev pub every_kind : List Gate
every_kind =
    one X 0 ∷ one Y 0 ∷ one Z 0 ∷ one S 0 ∷ one S† 0 ∷ one T 0 ∷ one T† 0 ∷ one H 0 ∷ two CX 0 1 ∷ two CZ 0 1 ∷ two SWAP 0 1 ∷ []

-- the gate's qubits are below n, and two qubits differ
abbrev pub Within : ℕ → Gate → Type 0
Within n (one u a) = a < n
Within n (two v a b) = (a < n) × (b < n) × (a ≢ b)

-- so are those of every gate of a list
abbrev pub AllWithin : ℕ → List Gate → Type 0
AllWithin n [] = Unit {0}
AllWithin n (g ∷ gs) = Within n g × AllWithin n gs

-- kinds 0 to 7, in the order of their numbers
abbrev pub one_qubit_kinds : List OneQubit
one_qubit_kinds = X ∷ Y ∷ Z ∷ S ∷ S† ∷ T ∷ T† ∷ H ∷ []

-- kinds 8 to 10, in the order of their numbers
abbrev pub two_qubit_kinds : List TwoQubit
two_qubit_kinds = CX ∷ CZ ∷ SWAP ∷ []

-- the three bytes of a gate as they stand in a record
pub record Raw : Type 0 where
  pub kind : ℕ
  pub a : ℕ
  pub b : ℕ

-- three bytes by their values
abbrev pub raw : ℕ → ℕ → ℕ → Raw
raw kind a b = record { kind = kind; a = a; b = b }

-- the gate that three bytes stand for. (The kind is at most 10 in an accepted record.)
unfoldable pub gate_of : Raw → Gate
gate_of r =
    cond (leb r.kind last_one_qubit) (one (get_or one_qubit_kinds r.kind H) r.a) (two (get_or two_qubit_kinds (r.kind - 8) SWAP) r.a r.b)

-- a list of three bytes
abbrev pub raw_of_three : List ℕ → Raw
raw_of_three bytes = raw (get_or bytes 0 0) (get_or bytes 1 0) (get_or bytes 2 0)

-- the gate that it stands for
abbrev pub gate_of_three : List ℕ → Gate
gate_of_three bytes = gate_of (raw_of_three bytes)

-- the number of a one-qubit kind
unfoldable pub one_qubit_kind : OneQubit → ℕ
one_qubit_kind X = 0
one_qubit_kind Y = 1
one_qubit_kind Z = 2
one_qubit_kind S = 3
one_qubit_kind S† = 4
one_qubit_kind T = 5
one_qubit_kind T† = 6
one_qubit_kind H = 7

-- the number of a two-qubit kind
unfoldable pub two_qubit_kind : TwoQubit → ℕ
two_qubit_kind CX = 8
two_qubit_kind CZ = 9
two_qubit_kind SWAP = 10

-- the three bytes of a gate
unfoldable pub gate_bytes : Gate → List ℕ
gate_bytes (one u a) = one_qubit_kind u ∷ a ∷ no_qubit ∷ []
gate_bytes (two v a b) = two_qubit_kind v ∷ a ∷ b ∷ []

-- the bytes of a list of gates, one gate after another
unfoldable pub body_bytes : List Gate → List ℕ
body_bytes [] = []
body_bytes (g ∷ gs) = gate_bytes g ++ body_bytes gs

-- S and T exchanged for their inverses; every other gate is its own inverse
unfoldable pub inverse_kind : OneQubit → OneQubit
inverse_kind X = X
inverse_kind Y = Y
inverse_kind Z = Z
inverse_kind S = S†
inverse_kind S† = S
inverse_kind T = T†
inverse_kind T† = T
inverse_kind H = H

-- the number of an inverted kind: 3 and 4, 5 and 6 exchanged
unfoldable pub inverse_number : ℕ → ℕ
inverse_number k = cond (eqb k 3) 4 (cond (eqb k 4) 3 (cond (eqb k 5) 6 (cond (eqb k 6) 5 k)))

-- a gate's inverse, on the same qubits
unfoldable pub inverse_gate : Gate → Gate
inverse_gate (one u a) = one (inverse_kind u) a
inverse_gate (two v a b) = two v a b

-- the gates backwards, each inverted
unfoldable pub inverse_list : List Gate → List Gate
inverse_list gs = reverse (map inverse_gate gs)

-- a gate's qubits numbered k further on
unfoldable pub shift_gate : ℕ → Gate → Gate
shift_gate k (one u a) = one u (k + a)
shift_gate k (two v a b) = two v (k + a) (k + b)

-- those of every gate of a list
unfoldable pub shift_list : ℕ → List Gate → List Gate
shift_list k gs = map (shift_gate k) gs
