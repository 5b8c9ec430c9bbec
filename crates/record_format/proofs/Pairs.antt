-- The table for two records: the first fault of it by what stops the first record, what stops the second, and the rows below.
-- Assumes nothing.
use mathlib.Core.Path.{◌≡◌, sym, ap, ◌∙◌}
use Prim.Native.Nat.{ℕ}
use mathlib.Core.Option
use mathlib.Core.Option.{none, some, map-eq-none_iff}
use mathlib.Core.List.{List, ◌++◌, map}
use Rattle.record_format.specs.Row.{Fault, Row, told, first}
use Rattle.record_format.specs.Reading.{record_rows}
use Rattle.record_format.specs.Pair.{PairFault, in_first, in_second, both_rows}
use Rattle.record_format.proofs.Rows.{first_none, first_some, first_told, none_left, none_right}

-- a table that gives no fault gives none when it is told otherwise
told_none : {F : Type 0} (g : Fault → F) (rows : List (Row Fault)) → first rows ≡ none → first (map (told g) rows) ≡ none
told_none g rows good = first_told g rows ∙ ap (Option.map g) good

-- and the other way round
none_told : {F : Type 0} (g : Fault → F) (rows : List (Row Fault)) → first (map (told g) rows) ≡ none → first rows ≡ none
none_told g rows good = (map-eq-none_iff g (first rows)).0 (sym (first_told g rows) ∙ good)

module _ (s t : List ℕ) (below : List (Row PairFault)) where
  -- the rows of either record
  abbrev of_first : List (Row PairFault)
  of_first = map (told in_first) (record_rows s)

  abbrev of_second : List (Row PairFault)
  of_second = map (told in_second) (record_rows t)

  -- what stops the first record is told of it
  pub both_first : (f : Fault) → first (record_rows s) ≡ some f → first (both_rows s t below) ≡ some (in_first f)
  both_first f bad =
      let here : first of_first ≡ some (in_first f) = first_told in_first (record_rows s) ∙ ap (Option.map in_first) bad in
      first_some (of_first ++ of_second) below (in_first f) (first_some of_first of_second (in_first f) here)

  -- what stops the second, where nothing stops the first, is told of that
  pub both_second : (f : Fault) → first (record_rows s) ≡ none → first (record_rows t) ≡ some f → first (both_rows s t below) ≡ some (in_second f)
  both_second f good bad =
      let here : first of_second ≡ some (in_second f) = first_told in_second (record_rows t) ∙ ap (Option.map in_second) bad in
      first_some (of_first ++ of_second) below (in_second f) (first_none of_first of_second (told_none in_first (record_rows s) good) ∙ here)

  -- where nothing stops either, the rows below decide
  pub both_good : first (record_rows s) ≡ none → first (record_rows t) ≡ none → first (both_rows s t below) ≡ first below
  both_good good good' =
      first_none (of_first ++ of_second) below
      (first_none of_first of_second (told_none in_first (record_rows s) good) ∙ told_none in_second (record_rows t) good')

  -- where no row of the table stops a call, none stops either record, and none below does
  pub both_pass : first (both_rows s t below) ≡ none → (first (record_rows s) ≡ none) × (first (record_rows t) ≡ none) × (first below ≡ none)
  both_pass good =
      let lists = none_left (of_first ++ of_second) below good in (
        none_told in_first (record_rows s) (none_left of_first of_second lists),
        none_told in_second (record_rows t) (none_right of_first of_second lists),
        none_right (of_first ++ of_second) below good,
      )
