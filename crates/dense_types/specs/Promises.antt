-- Which pairs the dense comparison turns down, and by what, as propositions: document 02, item 2. proofs/Theorems.antt proves each.
-- Assumes nothing.
use Rattle.std.specs.Prelude.{◌≡◌, ◌↔◌, ℕ, List}
use Rattle.record_format.specs.Row.{Row}
use Rattle.record_format.specs.Reading.{qubits, gates}
use Rattle.record_format.specs.Promises.{NoneHolds, FirstHolds}
use Rattle.record_format.specs.Pair.{PairFault}
use Rattle.comparison_types.specs.Promises.{pair_table}
use Rattle.dense_types.specs.Call.{Found, says, refuses, compare_columns, block_rows, dense_comparison}

-- the whole table for the bytes s and t and a buffer of k numbers: the first list, the second, 8, 9, then 14, then 10
abbrev pub dense_rows : List ℕ → List ℕ → ℕ → List (Row PairFault)
dense_rows s t k = pair_table s t (block_rows s t k)

-- a pair is refused by the fault of the first row of the table that holds for it
abbrev pub BlockRefusedByFirstRow : Type 0
BlockRefusedByFirstRow = (s t : List ℕ) (k : ℕ) (f : PairFault) → (dense_comparison s t k ≡ refuses f) ↔ FirstHolds (dense_rows s t k) f

-- a pair is accepted, and what its columns show said, exactly where no row holds for it
abbrev pub BlockAcceptedByNoRow : Type 0
BlockAcceptedByNoRow =
    (s t : List ℕ) (k : ℕ) (r : Found)
    → (dense_comparison s t k ≡ says r) ↔ (NoneHolds (dense_rows s t k) × (r ≡ compare_columns (qubits s) (gates s) (gates t)))
