-- What the dense comparison of two lists on n qubits finds, as propositions: the power of ω that carries the pair, or the first input at
-- which no power fits all columns up to it. proofs/Theorems.antt proves all of them for every n and all lists whose gates are within n.
-- Assumes nothing.
use Rattle.std.specs.Prelude.{◌≡◌, ◌↔◌, ℕ, ◌^◌, ◌<◌, ◌≤◌, List}
use Rattle.record_format.specs.Gate.{Gate}
use Rattle.amplitude.specs.Circuit.{Fits, Carries}
use Rattle.dense_meaning.specs.Columns.{carried_by, unfit_at, finding}

module _ (n : ℕ) (first second : List Gate) where
  -- ω^j carries every column up to v
  abbrev pub FitsUpTo : ℕ → ℕ → Type 0
  FitsUpTo v j = (u : ℕ) → u ≤ v → Fits n j first second u

  -- some power of ω carries every column up to v
  abbrev pub SomeFitsUpTo : ℕ → Type 0
  SomeFitsUpTo v = (j : ℕ) × (j < 8) × FitsUpTo v j

  -- exact: ω^j is found exactly where it carries the pair, j below 8
  abbrev pub FoundIfCarried : Type 0
  FoundIfCarried = (j : ℕ) → (finding n first second ≡ carried_by j) ↔ ((j < 8) × Carries n j first second)

  -- sound: the input shown is one, and no single power fits its column and column 0
  abbrev pub ShownIsUnfit : Type 0
  ShownIsUnfit =
      (v : ℕ) → finding n first second ≡ unfit_at v
      → (v < 2 ^ n) × ((j : ℕ) → Fits n j first second 0 → Fits n j first second v → ⊥)

  -- first: no power fits all columns up to it, and up to every smaller input some power does
  abbrev pub ShownIsFirst : Type 0
  ShownIsFirst =
      (v : ℕ) → finding n first second ≡ unfit_at v
      → ((j : ℕ) → FitsUpTo v j → ⊥) × ((u : ℕ) → u < v → SomeFitsUpTo u)
