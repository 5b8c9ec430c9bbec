-- Demands 2 and 3 as clauses of the comparison's contract: of the answer a that it returns for the bytes s and t. What each demand says
-- stands once, in comparison_meaning's Demands, over any result; here it is said of the outcome that is returned.
-- Assumes nothing.
use Rattle.std.specs.Prelude.{◌≡◌, ◌↔◌, ℕ, ◌≤◌, List, [], Result as Returned, Ok}
use Rattle.record_format.specs.Gate.{Gate}
use Rattle.record_format.specs.Reading.{accepted, read}
use Rattle.amplitude.specs.Circuit.{Carries, t_gates}
use Rattle.comparison_meaning.specs.Demands.{Accepted, OnePower, EqualIsRight, TurnedIsRight, DifferentIsRight, ByTheSteps, InputsAsSaid, CliffordIsDecided, CountsAddUp, StepsWithinHGates}
use Rattle.comparison_meaning.specs.Verdict.{Result}
use Rattle.record_format.specs.Pair.{PairFault}
use Rattle.comparison_types.specs.Call.{comparison, says, refuses, result_of}
use Rattle.comparison_types.specs.declared.Outcome.{Outcome}
use Rattle.comparison_types.specs.declared.Refusal.{Refusal}

-- a demand, for the outcome of two accepted records
abbrev pub ForResult : List ℕ → List ℕ → Returned Outcome Refusal → (ℕ → List Gate → List Gate → Result → Type 0) → Type 0
ForResult s t a Demand =
    (n : ℕ) (first second : List Gate) (o : Outcome) → Accepted s t n first second → a ≡ Ok o → Demand n first second (result_of o)

-- what a verdict says of a pair is right: equal, turned and different
abbrev pub Right : ℕ → List Gate → List Gate → Result → Type 0
Right n first second r = EqualIsRight n first second r × TurnedIsRight n first second r × DifferentIsRight n first second r

-- sound, demand 2: equal is said only where all amplitudes agree, turned only where the power of ω that is shown carries the pair, different
-- only with two inputs whose columns no power fits; and no other power carries the pair
abbrev pub Sound : List ℕ → List ℕ → Returned Outcome Refusal → Type 0
Sound s t a = ForResult s t a (λ n first second r. Right n first second r × OnePower n first second)

-- stops, demand 2: the outcome is that of document 01's steps in their order, and of no others; undecided exactly where they stop
abbrev pub Stops : List ℕ → List ℕ → Returned Outcome Refusal → Type 0
Stops s t a = ForResult s t a (λ n first second r. ByTheSteps n first second r)

-- inputs: 0 and 0 where equal or undecided, and the second 0 where turned
abbrev pub Inputs : List ℕ → List ℕ → Returned Outcome Refusal → Type 0
Inputs s t a = ForResult s t a (λ n first second r. InputsAsSaid n first second r)

-- clifford, demand 3: without T, equal exactly where all amplitudes agree, turned with j exactly where ω^j, j from 1 to 7, carries the pair,
-- different exactly where no power does, never undecided
abbrev pub Clifford : List ℕ → List ℕ → Returned Outcome Refusal → Type 0
Clifford s t a = ForResult s t a (λ n first second r. CliffordIsDecided n first second r)

-- counts, demand 3: they add up to the H gates of both lists, and there are no more sums, turns and joins than these
abbrev pub CountsUp : List ℕ → List ℕ → Returned Outcome Refusal → Type 0
CountsUp s t a = ForResult s t a (λ n first second r. CountsAddUp n first second r × StepsWithinHGates n first second r)

-- the pick's part is an accepted record; all its amplitudes are the first list's, exactly, and it has at most the first list's T gates
abbrev pub PickIsRight : List ℕ → List ℕ → ℕ → ℕ → List ℕ → Type 0
PickIsRight s t w c part =
    (n : ℕ) (first second : List Gate) (o : Result) →
    Accepted s t n first second →
    comparison s t w c ≡ says o →
    (chosen : List Gate) × (read part ≡ accepted n chosen) × Carries n 0 first chosen × (t_gates chosen ≤ t_gates first)

-- it is empty exactly where the comparison refuses
abbrev pub EmptyIfRefused : List ℕ → List ℕ → ℕ → ℕ → List ℕ → Type 0
EmptyIfRefused s t w c part = (part ≡ []) ↔ ((f : PairFault) × (comparison s t w c ≡ refuses f))
