-- An unfit input: no power of ω fits all columns up to it. Column 0 fits at most one power, so it alone is to be tried further on, and where
-- it fits all columns it is the power found.
-- Assumes nothing.
use mathlib.Core.Path.{◌≡◌, refl, sym, ◌∙◌}
use mathlib.Core.Logic.{◌↔◌}
use mathlib.Core.Bool.{Bool, true, false, not, not-eq-not, false≢true}
use mathlib.Core.List.{List}
use mathlib.Core.Option.{none, some}
use Prim.Native.Nat.{ℕ, suc, ◌%◌, ◌^◌, ◌<◌}
use native.Mathlib.Omega.{arith}
use lib.Pow.{pow_pos}
use Rattle.record_format.specs.Gate.{Gate, AllWithin}
use Rattle.amplitude.specs.Circuit.{Fits, Carries}
use Rattle.amplitude.specs.Testing.{below, fits_column}
use Rattle.amplitude.proofs.NumberLaws.{ω^_cong}
use Rattle.amplitude.proofs.Testing.{below_true, below_pass, fits_tested}
use Rattle.amplitude.proofs.Bridge.{fits_unique}
use Rattle.dense_meaning.specs.Columns.{carried_by, unfit_at, fits_up_to, unfit, first_unfit, fits_all, first_power, finding}
use Rattle.dense_meaning.specs.Demands.{FitsUpTo, SomeFitsUpTo}
use Rattle.dense_meaning.proofs.Searching.{First, some_power, below_none, some_below, below_some}

module _ (n : ℕ) (first second : List Gate) where
  -- the test of all columns below m passes exactly where the power fits them
  pub fits_below : (m j : ℕ) → (below m (fits_column n j first second) ≡ true) ↔ ((v : ℕ) → v < m → Fits n j first second v)
  fits_below m j = (
    λ h v l. (fits_tested n j first second v).0 (below_true m (fits_column n j first second) h v l),
    λ f. below_pass m (fits_column n j first second) (λ v l. (fits_tested n j first second v).1 (f v l)),
  )

  -- so a power that is found carries the pair
  pub power_carries : (j : ℕ) → first_power n first second ≡ some j → (j < 8) × Carries n j first second
  power_carries j e = let f = some_below (fits_all n first second) 8 j e in (f.inside, (fits_below (2 ^ n) j).0 f.passes)

  -- and the test up to v passes exactly where the power fits all columns up to it
  fits_up_to_lem : (v j : ℕ) → (fits_up_to n first second v j ≡ true) ↔ FitsUpTo n first second v j
  fits_up_to_lem v j = (
    λ h u l. (fits_below (suc v) j).0 h u (omega arith),
    λ f. (fits_below (suc v) j).1 (λ u l. f u (omega arith)),
  )

  -- powers of ω that are the same mod 8 fit alike
  pub fits_same : (i j v : ℕ) → i % 8 ≡ j % 8 → Fits n i first second v → Fits n j first second v
  fits_same i j v e f w b = sym (ω^_cong i j _ e) ∙ f w b

  -- an input is fit exactly where some power fits all columns up to it
  pub fit : (v : ℕ) → (unfit n first second v ≡ false) ↔ SomeFitsUpTo n first second v
  fit v = (λ h. found ((some_power (fits_up_to n first second v)).0 (both _ h)), λ s. ready s.0 s.1 s.2)
    where
      both : (b : Bool) → not b ≡ false → b ≡ true
      both true h = refl
      both false h = absurd (false≢true (sym h))

      found : ((j : ℕ) × (j < 8) × (fits_up_to n first second v j ≡ true)) → SomeFitsUpTo n first second v
      found h = (h.0, h.1, (fits_up_to_lem v h.0).0 h.2)

      ready : (j : ℕ) → j < 8 → FitsUpTo n first second v j → unfit n first second v ≡ false
      ready j l f = rw ((some_power (fits_up_to n first second v)).1 (j, l, (fits_up_to_lem v j).1 f))

  -- and unfit exactly where none does
  pub unfit_none : (v : ℕ) → unfit n first second v ≡ true → (j : ℕ) → FitsUpTo n first second v j → ⊥
  unfit_none v h j f =
      false≢true (sym ((fit v).1 (j % 8, omega arith, λ u l. fits_same j (j % 8) u (omega arith) (f u l))) ∙ h)

  none_unfit : (v : ℕ) → ((j : ℕ) → j < 8 → FitsUpTo n first second v j → ⊥) → unfit n first second v ≡ true
  none_unfit v failing = (not-eq-not {b = true}).0 (λ e. let s = (fit v).0 e in failing s.0 s.1 s.2)

  -- no input is unfit where a power fits every column
  pub none_shown : (j : ℕ) → j < 8 → Carries n j first second → first_unfit n first second ≡ none
  none_shown j small carries =
      below_none (unfit n first second) _ (λ v l. (fit v).1 (j, small, λ u k. carries u (omega arith)))

  -- what the code finds: no power fits column 0
  pub unfit_at_once : ((j : ℕ) → j < 8 → Fits n j first second 0 → ⊥) → finding n first second ≡ unfit_at 0
  unfit_at_once failing = rw (below_some (unfit n first second) (2 ^ n) 0 at_zero)
    where
      at_zero : First (unfit n first second) (2 ^ n) 0
      at_zero =
          record { inside = pow_pos n; passes = none_unfit 0 (λ j l f. failing j l (f 0 (omega arith))); before = λ u l. absurd (omega arith) }

  -- two lists within n qubits
  module _ (l : AllWithin n first) (r : AllWithin n second) where
    -- a power fits every column before v, and not column v
    pub unfit_at_lem : (v j : ℕ) → 0 < v → v < 2 ^ n → j < 8 →
        ((u : ℕ) → u < v → Fits n j first second u) → (Fits n j first second v → ⊥) → finding n first second ≡ unfit_at v
    unfit_at_lem v j pos inside small fits fails = rw (below_some (unfit n first second) (2 ^ n) v at_v)
      where
        same : (i : ℕ) → FitsUpTo n first second v i → i % 8 ≡ j % 8
        same i f = fits_unique n first second 0 i j l r (pow_pos n) (f 0 (omega arith)) (fits 0 pos)

        at_v : First (unfit n first second) (2 ^ n) v
        at_v =
            record {
              inside = inside;
              passes = none_unfit v (λ i k f. fails (fits_same i j v (same i f) (f v (omega arith))));
              before = λ u k. (fit u).1 (j, small, λ t m. fits t (omega arith));
            }

    -- a power fits every column
    pub fit_everywhere : (j : ℕ) → j < 8 → Carries n j first second → finding n first second ≡ carried_by j
    fit_everywhere j small carries = rw (none_shown j small carries, below_some (fits_all n first second) 8 j at_j)
      where
        other : (i : ℕ) → i < j → Carries n i first second → ⊥
        other i less also =
            omega (arith, fits_unique n first second 0 i j l r (pow_pos n) (also 0 (pow_pos n)) (carries 0 (pow_pos n)))

        at_j : First (fits_all n first second) 8 j
        at_j =
            record {
              inside = small;
              passes = (fits_below (2 ^ n) j).1 carries;
              before = λ i less. (not-eq-not {b = false}).0 (λ e. other i less ((fits_below (2 ^ n) i).0 e));
            }
