-- What the dense comparison finds, proved for every n and all lists whose gates are within n.
-- Assumes nothing.
use mathlib.Core.Path.{◌≡◌, refl, sym, ◌∙◌}
use mathlib.Core.Logic.{◌↔◌}
use mathlib.Core.Bool.{false≢true}
use mathlib.Core.List.{List}
use mathlib.Core.Option.{Option, none, some}
use Prim.Native.Nat.{ℕ, ◌-◌, ◌^◌, ◌<◌}
use native.Mathlib.Decide.{dec_lt}
use native.Mathlib.Omega.{arith}
use lib.Pow.{pow_pos}
use Rattle.record_format.specs.Gate.{Gate, AllWithin}
use Rattle.amplitude.specs.Circuit.{Fits, Carries}
use Rattle.amplitude.proofs.Bridge.{fits_unique}
use Rattle.dense_meaning.specs.Columns.{carried_by, unfit_at, finding_of, unfit, first_unfit, fits_all, first_power, finding}
use Rattle.dense_meaning.specs.Demands.{FitsUpTo, FoundIfCarried, ShownIsUnfit, ShownIsFirst}
use Rattle.dense_meaning.proofs.Searching.{none_below, some_below}
use Rattle.dense_meaning.proofs.Unfit.{fits_below, power_carries, fits_same, fit, unfit_none, none_shown, fit_everywhere}

-- an unfit input is no power
apart : (v j : ℕ) → unfit_at v ≡ carried_by j → ⊥
apart v j e = let z : ◌≡◌ {A = ℕ} 0 1 = cc in absurd (omega arith)

module _ (n : ℕ) (first second : List Gate) where
  -- there is no unfit input exactly where some power fits all columns: the last input is fit, and so they all are
  pub one_of_both : (first_unfit n first second ≡ none) ↔ ((j : ℕ) × (first_power n first second ≡ some j))
  one_of_both = (
    λ h. go h (first_power n first second) refl,
    λ (j, e). let (small, carries) = power_carries n first second j e in none_shown n first second j small carries,
  )
    where
      last : first_unfit n first second ≡ none → (j : ℕ) × (j < 8) × Carries n j first second
      last h =
          let size = pow_pos n in
          let (j, small, fits) = (fit n first second (2 ^ n - 1)).0 (none_below (unfit n first second) (2 ^ n) h (2 ^ n - 1) (omega arith)) in
          (j, small, λ v l. fits v (omega arith))

      go : first_unfit n first second ≡ none → (p : Option ℕ) → first_power n first second ≡ p → (j : ℕ) × (p ≡ some j)
      go h (some j) e = (j, refl)
      go h none e =
          let (j, small, carries) = last h in
          absurd (false≢true (sym (none_below (fits_all n first second) 8 e j small) ∙ (fits_below n first second (2 ^ n) j).1 carries))

  -- what is found is the first such power
  power-found : (j : ℕ) → finding n first second ≡ carried_by j → first_power n first second ≡ some j
  power-found j h = go (first_unfit n first second) (first_power n first second) h
    where
      go : (u p : Option ℕ) → finding_of u p ≡ carried_by j → p ≡ some j
      go none (some i) e = cc
      go none none e = absurd (apart 0 j e)
      go (some v) p e = absurd (apart v j e)

  -- or the first unfit input
  input_shown : (v : ℕ) → finding n first second ≡ unfit_at v → first_unfit n first second ≡ some v
  input_shown v h = go (first_unfit n first second) (first_power n first second) one_of_both.0 h
    where
      go : (u p : Option ℕ) → (u ≡ none → (j : ℕ) × (p ≡ some j)) → finding_of u p ≡ unfit_at v → u ≡ some v
      go none p other e = let (j, is) = other refl in absurd (apart v j (cc))
      go (some u) p other e = cc

  -- the power found is the one that carries the pair: no other does
  pub found_if_carried : AllWithin n first → AllWithin n second → FoundIfCarried n first second
  found_if_carried l r j = (
    λ h. power_carries n first second j (power-found j h),
    λ (small, carries). fit_everywhere n first second l r j small carries,
  )

  -- up to the input shown no power fits, and up to every smaller one some power does
  pub shown_is_first : ShownIsFirst n first second
  shown_is_first v h =
      let f = some_below (unfit n first second) (2 ^ n) v (input_shown v h) in
      (unfit_none n first second v f.passes, λ u l. (fit n first second u).0 (f.before u l))

  -- no single power fits column 0 and the column shown: it would be that of all the columns between
  pub shown_is_unfit : AllWithin n first → AllWithin n second → ShownIsUnfit n first second
  shown_is_unfit l r v h =
      ((some_below (unfit n first second) (2 ^ n) v (input_shown v h)).inside, λ j at_zero at_v. (shown_is_first v h).0 j (up_to j at_zero at_v))
    where
      up_to : (j : ℕ) → Fits n j first second 0 → Fits n j first second v → FitsUpTo n first second v j
      up_to j at_zero at_v u k = go (dec_lt u v)
        where
          go : Dec (u < v) → Fits n j first second u
          go (yes less) =
              let some_Fits = (shown_is_first v h).1 u less in
              fits_same n first second some_Fits.0 j u
              (fits_unique n first second 0 some_Fits.0 j l r (pow_pos n) (some_Fits.2 0 (omega arith)) at_zero)
              (some_Fits.2 u (omega arith))
          go (no more) = let e : u ≡ v = omega arith in rw e at_v
