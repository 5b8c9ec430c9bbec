-- What the contract of the dense comparison says of the answer a that it returns for the bytes s and t.
-- Assumes nothing.
use Rattle.std.specs.Prelude.{◌≡◌, ℕ, ◌^◌, ◌<◌, List, Result as Returned, Ok}
use Rattle.record_format.specs.Gate.{Gate}
use Rattle.amplitude.specs.Circuit.{Fits}
use Rattle.comparison_meaning.specs.Verdict.{Result, equal, different, undecided, turned}
use Rattle.comparison_meaning.specs.Demands.{Accepted, OnePower, DecidedBy}
use Rattle.comparison_types.specs.Call.{comparison, says}
use Rattle.dense_meaning.specs.Demands.{FitsUpTo, SomeFitsUpTo}
use Rattle.comparison_types.specs.declared.Refusal.{Refusal}
use Rattle.dense_types.specs.Call.{Found, found_of}
use Rattle.dense_types.specs.declared.Outcome.{Outcome}

module _ (n : ℕ) (first second : List Gate) where
  -- equal exactly where all amplitudes agree, turned with j exactly where ω^j, j from 1 to 7, carries the pair, different exactly where no
  -- power does, never undecided; and at most one power carries the pair
  abbrev pub ExactlyDecided : Found → Type 0
  ExactlyDecided r = DecidedBy n first second r.verdict r.first × OnePower n first second

  -- different shows two inputs whose columns no single power of ω fits
  abbrev pub ShownApart : Found → Type 0
  ShownApart r =
      r.verdict ≡ different
      → (r.first < 2 ^ n)
      × (r.second < 2 ^ n)
      × ((j : ℕ) → Fits n j first second r.first → Fits n j first second r.second → ⊥)

  -- they are 0 and the first input at which no power fits all columns up to it: at every smaller one some power does
  abbrev pub ShownFirst : Found → Type 0
  ShownFirst r =
      r.verdict ≡ different
      → (r.first ≡ 0)
      × ((j : ℕ) → FitsUpTo n first second r.second j → ⊥)
      × ((v : ℕ) → v < r.second → SomeFitsUpTo n first second v)

  -- where equal they are 0 and 0, and where turned the second is 0
  abbrev pub ShownAsSaid : Found → Type 0
  ShownAsSaid r = (r.verdict ≡ equal → (r.first ≡ 0) × (r.second ≡ 0)) × (r.verdict ≡ turned → r.second ≡ 0)

-- a demand, for the outcome of two accepted records
abbrev pub ForFound : List ℕ → List ℕ → Returned Outcome Refusal → (ℕ → List Gate → List Gate → Found → Type 0) → Type 0
ForFound s t a Demand =
    (n : ℕ) (first second : List Gate) (o : Outcome) → Accepted s t n first second → a ≡ Ok o → Demand n first second (found_of o)

-- exact: each verdict if and only if it is right, and which power turns the pair
abbrev pub Exact : List ℕ → List ℕ → Returned Outcome Refusal → Type 0
Exact s t a = ForFound s t a (λ n first second r. ExactlyDecided n first second r)

-- sound: the two shown columns fit no single power
abbrev pub Sound : List ℕ → List ℕ → Returned Outcome Refusal → Type 0
Sound s t a = ForFound s t a (λ n first second r. ShownApart n first second r)

-- first: no smaller input would do
abbrev pub First : List ℕ → List ℕ → Returned Outcome Refusal → Type 0
First s t a = ForFound s t a (λ n first second r. ShownFirst n first second r)

-- inputs: 0 and 0 where equal, the second 0 where turned
abbrev pub Inputs : List ℕ → List ℕ → Returned Outcome Refusal → Type 0
Inputs s t a = ForFound s t a (λ n first second r. ShownAsSaid n first second r)

-- the same verdict, and where that is turned the same power of ω
abbrev pub SameVerdict : Found → Result → Type 0
SameVerdict f r = (f.verdict ≡ r.verdict) × (r.verdict ≡ turned → f.first ≡ r.first)

-- agrees: wherever the path-sum comparison of the same records, lent whatever workspaces, is not undecided, verdict and power are the same
abbrev pub Agrees : List ℕ → List ℕ → Returned Outcome Refusal → Type 0
Agrees s t a =
    (o : Outcome) (w c : ℕ) (r : Result) → a ≡ Ok o → comparison s t w c ≡ says r → (r.verdict ≡ undecided → ⊥) → SameVerdict (found_of o) r
