-- The first row whose condition holds: in a table of two parts, where no row holds, which row it is, and what all faults of a table share.
-- Assumes nothing.
use mathlib.Core.Path.{◌≡◌, refl, sym, ap, ◌∙◌}
use mathlib.Core.Logic.{◌↔◌}
use mathlib.Core.Bool.{Bool, true, false, cond, true≢false}
use mathlib.Core.Option
use mathlib.Core.Option.{Option, none, some, none-ne-some, some-ne-none, some-injective}
use mathlib.Core.List.{List, [], ◌∷◌, ◌++◌, map}
use Rattle.record_format.specs.Row.{Row, told, first}
use Rattle.record_format.specs.Promises.{NoneHolds, FirstHolds}

module _ {F : Type 0} where
  -- where a row and the rest of its table give no fault, neither gives one
  none_both : (c : Bool) (f : F) (o : Option F) → cond c (some f) o ≡ none → (c ≡ false) × (o ≡ none)
  none_both true f o h = absurd (some-ne-none f h)
  none_both false f o h = (refl, h)

  -- no fault is the first one exactly where no row holds
  pub none_holds : (rows : List (Row F)) → (first rows ≡ none) ↔ NoneHolds rows
  unfolding first
  none_holds [] = (λ h. tt, λ h. refl)
  none_holds (r ∷ rows) = (
    λ h. let (off, rest) = none_both r.when r.fault (first rows) h in (off, (none_holds rows).0 rest),
    λ h. rw h.0 ((none_holds rows).1 h.1),
  )

  -- a table whose first part gives no fault gives that of its second part
  pub first_none : (xs ys : List (Row F)) → first xs ≡ none → first (xs ++ ys) ≡ first ys
  unfolding first
  first_none [] ys h = refl
  first_none (r ∷ xs) ys h =
      let (off, rest) = none_both r.when r.fault (first xs) h in rw off (first_none xs ys rest)

  -- a table whose first part gives a fault gives that one
  pub first_some : (xs ys : List (Row F)) (f : F) → first xs ≡ some f → first (xs ++ ys) ≡ some f
  unfolding first
  first_some [] ys f h = absurd (none-ne-some f h)
  first_some (r ∷ xs) ys f h = go r.when (first_some xs ys f) h
    where
      go : (c : Bool) → (first xs ≡ some f → first (xs ++ ys) ≡ some f) → cond c (some r.fault) (first xs) ≡ some f
          → cond c (some r.fault) (first (xs ++ ys)) ≡ some f
      go true later h = h
      go false later h = later h

  -- a table that gives no fault gives none in its first part
  pub none_left : (xs ys : List (Row F)) → first (xs ++ ys) ≡ none → first xs ≡ none
  unfolding first
  none_left [] ys h = refl
  none_left (r ∷ xs) ys h =
      let (off, rest) = none_both r.when r.fault (first (xs ++ ys)) h in rw off (none_left xs ys rest)

  -- and none in its second
  pub none_right : (xs ys : List (Row F)) → first (xs ++ ys) ≡ none → first ys ≡ none
  none_right xs ys h = sym (first_none xs ys (none_left xs ys h)) ∙ h

  -- the first fault is that of the first row that holds
  find : (rows : List (Row F)) (f : F) → first rows ≡ some f → FirstHolds rows f
  unfolding first
  find [] f h = absurd (none-ne-some f h)
  find (r ∷ rows) f h = go r.when refl (find rows f) h
    where
      go : (c : Bool) → r.when ≡ c → (first rows ≡ some f → FirstHolds rows f) → cond c (some r.fault) (first rows) ≡ some f
          → FirstHolds (r ∷ rows) f
      go true on later h = ([], r, rows, refl, tt, on, some-injective r.fault f h)
      go false off later h =
          let (before, q, after, parts, none_before, on, same) = later h in
          (r ∷ before, q, after, ap (λ (l : List (Row F)). r ∷ l) parts, (off, none_before), on, same)

  -- f is the first fault exactly where it is that of the first row that holds
  pub first_holds : (rows : List (Row F)) (f : F) → (first rows ≡ some f) ↔ FirstHolds rows f
  unfolding first
  first_holds rows f = (find rows f, back)
    where
      back : FirstHolds rows f → first rows ≡ some f
      back (before, r, after, parts, none_before, on, same) =
          rw (parts, first_none before (r ∷ after) ((none_holds before).1 none_before), on, same)

  -- every fault of a table is so
  abbrev pub AllFaults : (F → Type 0) → List (Row F) → Type 0
  AllFaults P [] = Unit {0}
  AllFaults P (r ∷ rows) = P r.fault × AllFaults P rows

  -- then so are those of two tables one behind the other
  pub all_both : (P : F → Type 0) (xs ys : List (Row F)) → AllFaults P xs → AllFaults P ys → AllFaults P (xs ++ ys)
  all_both P [] ys all all' = all'
  all_both P (r ∷ xs) ys (here, all) all' = (here, all_both P xs ys all all')

  -- and so is the first one
  pub first_is : (P : F → Type 0) (rows : List (Row F)) (f : F) → AllFaults P rows → first rows ≡ some f → P f
  unfolding first
  first_is P [] f all h = absurd (none-ne-some f h)
  first_is P (r ∷ rows) f (here, all) h = go r.when (first_is P rows f all) h
    where
      go : (c : Bool) → (first rows ≡ some f → P f) → cond c (some r.fault) (first rows) ≡ some f → P f
      go true later h = rw (← some-injective r.fault f h) here
      go false later h = later h

  -- a row whose fault no other row has gives the first fault exactly where it holds and none before it does
  module _ (is : F → Bool) (xs : List (Row F)) (r : Row F) (ys : List (Row F)) (own : is r.fault ≡ true)
      (before : AllFaults (λ f. is f ≡ false) xs) (after : AllFaults (λ f. is f ≡ false) ys) where
    -- no table of others gives it
    not_theirs : (rows : List (Row F)) → AllFaults (λ f. is f ≡ false) rows → first rows ≡ some r.fault → ⊥
    not_theirs rows others h = true≢false (sym own ∙ first_is (λ f. is f ≡ false) rows r.fault others h)

    pub only_row : (first (xs ++ r ∷ ys) ≡ some r.fault) ↔ (NoneHolds xs × (r.when ≡ true))
    unfolding first
    only_row = (λ h. go (first xs) refl r.when refl h, λ (free, on). first_none xs (r ∷ ys) ((none_holds xs).1 free) ∙ rw on)
      where
        go : (o : Option F) → first xs ≡ o → (c : Bool) → r.when ≡ c → first (xs ++ r ∷ ys) ≡ some r.fault
            → NoneHolds xs × (r.when ≡ true)
        go (some f) bad c e h = absurd (not_theirs xs before (bad ∙ sym (first_some xs (r ∷ ys) f bad) ∙ h))
        go none free true on h = ((none_holds xs).0 free, on)
        go none free false off h =
            let rest : first (r ∷ ys) ≡ some r.fault = sym (first_none xs (r ∷ ys) free) ∙ h in
            absurd (not_theirs ys after (rw off at rest))

-- the first fault of a table that is told otherwise is the first fault, told so
pub first_told : {F G : Type 0} (g : F → G) (rows : List (Row F)) → first (map (told g) rows) ≡ Option.map g (first rows)
unfolding first
first_told g [] = refl
first_told g (r ∷ rows) = go r.when (first_told g rows)
  where
    go : (c : Bool) → first (map (told g) rows) ≡ Option.map g (first rows)
        → cond c (some (g r.fault)) (first (map (told g) rows)) ≡ Option.map g (cond c (some r.fault) (first rows))
    go true later = refl
    go false later = later
