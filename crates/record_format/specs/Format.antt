-- The numbers of document 01's formats ("Gate lists as bytes", "Report, pick, builder"), each named once.
-- Assumes nothing.
use Rattle.std.specs.Prelude.{ℕ, ◌+◌, ◌*◌, ◌/◌, ◌%◌, ◌<◌, List, [], ◌∷◌}

-- the two bytes that a gate-list record begins with
abbrev pub list_mark : List ℕ
list_mark = 0x51 ∷ 0x43 ∷ []

-- the two bytes that a report record begins with
abbrev pub report_mark : List ℕ
report_mark = 0x51 ∷ 0x56 ∷ []

-- the bytes of a head: mark, n, g
abbrev pub head_size : ℕ
head_size = 5

-- the bytes of a gate: kind, a, b
abbrev pub gate_size : ℕ
gate_size = 3

-- the bytes of a report
abbrev pub report_size : ℕ
report_size = 12

-- n is from 1 to this
abbrev pub most_qubits : ℕ
most_qubits = 16

-- g is from 0 to this
abbrev pub most_gates : ℕ
most_gates = 512

-- kinds 0 to 7 act on one qubit
abbrev pub last_one_qubit : ℕ
last_one_qubit = 7

-- kinds 8 to 10 act on two
abbrev pub last_kind : ℕ
last_kind = 10

-- b of a gate on one qubit
abbrev pub no_qubit : ℕ
no_qubit = 255

-- verdicts: 0 equal, 1 different, 2 undecided, 3 turned
abbrev pub last_verdict : ℕ
last_verdict = 3

-- a two-byte number, low byte first
abbrev pub two_bytes : ℕ → List ℕ
two_bytes x = x % 256 ∷ x / 256 % 256 ∷ []

-- the number that a low and a high byte stand for
abbrev pub from_bytes : ℕ → ℕ → ℕ
from_bytes low high = low + 256 * high

-- every element is a byte
pub data Bytes : List ℕ → Type 0 where
  none : Bytes []
  more : {x : ℕ} {xs : List ℕ} → x < 256 → Bytes xs → Bytes (x ∷ xs)
