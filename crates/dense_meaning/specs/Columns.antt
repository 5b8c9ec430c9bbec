-- The dense comparison: document 02, items 2 and 4. All columns of two lists on n qubits are compared, as amplitude's Circuit has them and
-- scaled as document 01 says, for each of the eight powers of ω.
-- Assumes nothing.
use Rattle.std.specs.Prelude.{ℕ, zero, suc, ◌^◌, Bool, false, cond, not, ◌||◌, List, [], ◌∷◌}
use Rattle.std.proofs.Math.Option.{Option, none, some}
use Rattle.record_format.specs.Gate.{Gate}
use Rattle.amplitude.specs.Testing.{below, fits_column}

-- the eight powers of ω
abbrev pub powers : List ℕ
powers = 0 ∷ 1 ∷ 2 ∷ 3 ∷ 4 ∷ 5 ∷ 6 ∷ 7 ∷ []

-- a test passes somewhere in a list
unfoldable pub some_of : (ℕ → Bool) → List ℕ → Bool
some_of test [] = false
some_of test (k ∷ ks) = test k || some_of test ks

-- the first of two that is there
abbrev pub or_else : Option ℕ → Option ℕ → Option ℕ
or_else (some v) o = some v
or_else none o = o

-- the first number below m that passes a test
unfoldable pub first_below : (ℕ → Bool) → ℕ → Option ℕ
first_below test zero = none
first_below test (suc m) = or_else (first_below test m) (cond (test m) (some m) none)

-- what comparing all columns finds: the power of ω that carries every one, or the first input at which no power fits all columns up to it
pub data Finding : Type 0 where
  carried_by : ℕ → Finding
  unfit_at : ℕ → Finding

-- by the first input at which none is left, if there is one, and the first power that fits all columns, if there is one. (Exactly one of the
-- two is there: `one_of_both` in proofs/Theorems.antt.)
abbrev pub finding_of : Option ℕ → Option ℕ → Finding
finding_of (some v) p = unfit_at v
finding_of none (some j) = carried_by j
finding_of none none = unfit_at 0

module _ (n : ℕ) (first second : List Gate) where
  -- ω^j fits all columns up to v
  abbrev pub fits_up_to : ℕ → ℕ → Bool
  fits_up_to v j = below (suc v) (fits_column n j first second)

  -- no power fits all columns up to v
  abbrev pub unfit : ℕ → Bool
  unfit v = not (some_of (fits_up_to v) powers)

  -- the first input at which no power fits all columns up to it
  abbrev pub first_unfit : Option ℕ
  first_unfit = first_below unfit (2 ^ n)

  -- ω^j fits all columns
  abbrev pub fits_all : ℕ → Bool
  fits_all j = below (2 ^ n) (fits_column n j first second)

  -- the first of the eight powers that does
  abbrev pub first_power : Option ℕ
  first_power = first_below fits_all 8

  -- what comparing all columns finds
  abbrev pub finding : Finding
  finding = finding_of first_unfit first_power
