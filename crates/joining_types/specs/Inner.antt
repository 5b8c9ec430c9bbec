-- What the layer's private functions do, for their contracts. No contract of a public call cites anything of this file.
-- Assumes nothing.
use Rattle.std.specs.Prelude.{◌≡◌, ℕ, ◌+◌, ◌≤◌, cond, List, [], ◌∷◌, ◌++◌, length, leb, Result, Ok, Err}
use Rattle.std.proofs.Math.Option.{none, some}
use Rattle.record_format.specs.Format.{most_qubits, last_one_qubit}
use Rattle.record_format.specs.Gate.{Gate}
use Rattle.record_format.specs.Row.{first}
use Rattle.record_format.specs.Reading.{size, qubits, count, record_rows}
use Rattle.record_format.specs.Writing.{Outcome, outcome, encode}
use Rattle.record_format.specs.Pair.{PairFault, both_rows}
use Rattle.record_format.specs.declared.Head.{Head}
use Rattle.joining_types.specs.Call.{fault_of, size_rows}
use Rattle.joining_types.specs.declared.Refusal.{Refusal}

-- an accepted record with this head stands at the start of s
pub record Holds (head : Head) (s : List ℕ) : Type 0 where
  pub good : first (record_rows s) ≡ none
  pub n_is : head.n ≡ qubits s
  pub g_is : head.g ≡ count s
  pub few_qubits : head.n ≤ most_qubits
  pub all : size head.g ≤ length s

-- what reading two records found is so
abbrev pub FoundBoth : List ℕ → List ℕ → Result (Head × Head) Refusal → Type 0
FoundBoth s t (Ok heads) = Holds heads.0 s × Holds heads.1 t
FoundBoth s t (Err r) = first (both_rows s t []) ≡ some (fault_of r)

-- a gate's three bytes with its qubits k further on: b of a gate on one qubit stays
abbrev pub shift_three : ℕ → ℕ → ℕ → ℕ → List ℕ
shift_three k kind a b = kind ∷ (k + a) ∷ cond (leb kind last_one_qubit) b (k + b) ∷ []

-- gate bytes so, three by three
unfoldable pub shift_bytes : ℕ → List ℕ → List ℕ
shift_bytes k [] = []
shift_bytes k (kind ∷ []) = []
shift_bytes k (kind ∷ a ∷ []) = []
shift_bytes k (kind ∷ a ∷ b ∷ rest) = shift_three k kind a b ++ shift_bytes k rest

-- what writing two lists as one record on n qubits answers and leaves: 4, then 11
abbrev pub written : ℕ → List Gate → List Gate → List ℕ → Outcome PairFault
written n gs hs buffer = outcome (first (size_rows (length gs + length hs) buffer)) (encode n (gs ++ hs)) buffer
