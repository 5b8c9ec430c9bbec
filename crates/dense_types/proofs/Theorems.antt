-- The promises of specs/Promises.antt, each proved.
-- Assumes nothing.
use mathlib.Core.Path.{◌≡◌, refl, sym, ap, ◌∙◌}
use Prim.Native.Nat.{ℕ}
use native.Mathlib.Omega.{arith}
use mathlib.Core.Option.{Option, none, some}
use mathlib.Core.List.{List}
use Rattle.record_format.specs.Row.{first}
use Rattle.record_format.specs.Reading.{qubits, gates}
use Rattle.record_format.specs.Promises.{NoneHolds}
use Rattle.record_format.proofs.Rows.{none_holds, first_holds}
use Rattle.record_format.specs.Pair.{PairFault}
use Rattle.comparison_types.proofs.Theorems.{table_is}
use Rattle.dense_types.specs.Call.{says, refuses, block_rows, compare_columns, dense_comparison}
use Rattle.dense_types.specs.Promises.{dense_rows, BlockRefusedByFirstRow, BlockAcceptedByNoRow}

module _ (s t : List ℕ) (k : ℕ) where
  -- where a row holds, its fault is said
  said_some : (f : PairFault) → first (dense_rows s t k) ≡ some f → dense_comparison s t k ≡ refuses f
  said_some f e = rw (table_is s t (block_rows s t k), e)

  -- where none does, what is found is
  said_none : first (dense_rows s t k) ≡ none → dense_comparison s t k ≡ says (compare_columns (qubits s) (gates s) (gates t))
  said_none e = rw (table_is s t (block_rows s t k), e)

-- a pair is refused by the first row that holds for it
pub block_refused_by_first_row : BlockRefusedByFirstRow
block_refused_by_first_row s t k f = (
  λ said. (first_holds (dense_rows s t k) f).0 (go (first (dense_rows s t k)) refl said),
  λ holds. said_some s t k f ((first_holds (dense_rows s t k) f).1 holds),
)
  where
    go : (o : Option PairFault) → first (dense_rows s t k) ≡ o → dense_comparison s t k ≡ refuses f → o ≡ some f
    go none e said = let z : ◌≡◌ {A = ℕ} 0 1 = cc (said_none s t k e) in absurd (omega arith)
    go (some h) e said = cc (said_some s t k h e)

-- a pair is accepted where no row holds for it, and then what is found is said
pub block_accepted_by_no_row : BlockAcceptedByNoRow
block_accepted_by_no_row s t k r = (
  λ said. go (first (dense_rows s t k)) refl said,
  λ (free, same). said_none s t k ((none_holds (dense_rows s t k)).1 free) ∙ ap says (sym same),
)
  where
    go : (o : Option PairFault) → first (dense_rows s t k) ≡ o → dense_comparison s t k ≡ says r
        → NoneHolds (dense_rows s t k) × (r ≡ compare_columns (qubits s) (gates s) (gates t))
    go none e said = ((none_holds (dense_rows s t k)).0 e, cc (said_none s t k e))
    go (some f) e said = let z : ◌≡◌ {A = ℕ} 0 1 = cc (said_some s t k f e) in absurd (omega arith)
