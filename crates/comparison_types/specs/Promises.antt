-- What demand 1 promises of a pair, as propositions: the table of document 01, "Where a call is turned down", for the comparison, from top to
-- bottom, and which list and gate a refusal names (document 02, item 1). proofs/Theorems.antt proves each.
-- Assumes nothing.
use Rattle.std.specs.Prelude.{◌≡◌, ◌↔◌, ℕ, ◌+◌, not, ◌||◌, List, [], ◌∷◌, eqb, ltb}
use Rattle.record_format.specs.Gate.{Gate}
use Rattle.record_format.specs.Row.{Fault, Row}
use Rattle.record_format.specs.Reading.{qubits, gates, accepted, refused, read}
use Rattle.record_format.specs.Promises.{NoneHolds, FirstHolds}
use Rattle.amplitude.specs.Circuit.{h_gates}
use Rattle.phase_sum_meaning.specs.Room.{most_variables, places, set_words}
use Rattle.comparison_meaning.specs.Verdict.{Result, compare}
use Rattle.record_format.specs.Pair.{PairFault, in_first, in_second, pair_row, both_rows}
use Rattle.comparison_types.specs.Call.{fault_of, says, refuses, comparison}
use Rattle.comparison_types.specs.declared.Refusal.{Refusal}

-- the table for two records: the checks on the first list, those on the second, then 8, 9, and the rows that a call has below them
abbrev pub pair_table : List ℕ → List ℕ → List (Row PairFault) → List (Row PairFault)
pair_table s t below =
    both_rows s t (
    pair_row 8 (not (eqb (qubits s) (qubits t)))
    ∷ pair_row 9 (ltb most_variables (qubits s + (h_gates (gates s) + h_gates (gates t))))
    ∷ below
    )

-- the whole table for the bytes s and t and workspaces of w words and c bytes
abbrev pub call_rows : List ℕ → List ℕ → ℕ → ℕ → List (Row PairFault)
call_rows s t w c = pair_table s t (pair_row 10 (ltb w set_words || ltb c places) ∷ [])

-- a pair is refused by the fault of the first row of the table that holds for it
abbrev pub PairRefusedByFirstRow : Type 0
PairRefusedByFirstRow = (s t : List ℕ) (w c : ℕ) (f : PairFault) → (comparison s t w c ≡ refuses f) ↔ FirstHolds (call_rows s t w c) f

-- a pair is accepted, and the result of comparing its gates said, exactly where no row holds for it
abbrev pub PairAcceptedByNoRow : Type 0
PairAcceptedByNoRow =
    (s t : List ℕ) (w c : ℕ) (r : Result)
    → (comparison s t w c ≡ says r) ↔ (NoneHolds (call_rows s t w c) × (r ≡ compare 0 (qubits s) (gates s) (gates t)))

-- a fault of the first list is said exactly where that list is refused for it
abbrev pub FirstListsFault : Type 0
FirstListsFault = (s t : List ℕ) (w c : ℕ) (f : Fault) → (comparison s t w c ≡ refuses (in_first f)) ↔ (read s ≡ refused f)

-- a fault of the second list exactly where the first is accepted and the second is refused for it
abbrev pub SecondListsFault : Type 0
SecondListsFault =
    (s t : List ℕ) (w c : ℕ) (f : Fault)
    → (comparison s t w c ≡ refuses (in_second f))
    ↔ (((n : ℕ) × (gs : List Gate) × (read s ≡ accepted n gs)) × (read t ≡ refused f))

-- list, number and index together tell which refusal it is
abbrev pub PairFaultTells : Type 0
PairFaultTells = (r r' : Refusal) → fault_of r ≡ fault_of r' → r ≡ r'
