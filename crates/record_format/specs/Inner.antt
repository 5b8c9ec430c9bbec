-- What the layer's private functions do, for their contracts. No public contract cites anything of this file.
-- Assumes nothing.
use Rattle.std.specs.Prelude.{ℕ, List, [], ◌∷◌, ◌++◌}
use Rattle.record_format.specs.Gate.{inverse_number}
use Rattle.record_format.specs.Row.{Fault, first}
use Rattle.record_format.specs.Reading.{qubits, count, head_rows}
use Rattle.record_format.specs.Answer.{Answer, gives}
use Rattle.record_format.specs.Writing.{fault_or}

-- what the checks on head and body answer
abbrev pub head_answer : List ℕ → Answer Fault
head_answer s = fault_or (first (head_rows s)) (gives (qubits s ∷ count s ∷ []))

-- gate bytes, the gates backwards and each inverted
unfoldable pub inverse_bytes : List ℕ → List ℕ
inverse_bytes [] = []
inverse_bytes (k ∷ []) = []
inverse_bytes (k ∷ a ∷ []) = []
inverse_bytes (k ∷ a ∷ b ∷ rest) = inverse_bytes rest ++ inverse_number k ∷ a ∷ b ∷ []
