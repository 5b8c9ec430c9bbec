-- The customer's demands 2 and 3, as document 02's item 4 has them now, as propositions about a pair of lists on n qubits and the result of
-- its comparison, and what is shown beside them. proofs/Theorems.antt proves all of them for every n and all lists whose gates are within n.
-- Assumes nothing.
use Rattle.std.specs.Prelude.{◌≡◌, ◌↔◌, ◌⊎◌, ℕ, ◌+◌, ◌*◌, ◌%◌, ◌^◌, ◌≤◌, ◌<◌, true, List, length}
use Rattle.std.proofs.Math.Option.{none, some}
use Rattle.record_format.specs.Gate.{Gate}
use Rattle.record_format.specs.Reading.{accepted, read}
use Rattle.amplitude.specs.Number.{√2^}
use Rattle.amplitude.specs.Circuit.{Fits, Carries, column, h_gates, t_gates}
use Rattle.phase_sum_meaning.specs.Parity.{Parity}
use Rattle.phase_sum_meaning.specs.Phase.{Canonical, in_odd}
use Rattle.phase_sum_meaning.specs.Building.{PathSum, build}
use Rattle.phase_sum_meaning.specs.Meaning.{remaining}
use Rattle.phase_sum_meaning.specs.Room.{room, most_variables, places}
use Rattle.comparison_meaning.specs.Reduction.{Counts, End, factor}
use Rattle.comparison_meaning.specs.Steps.{Steps, Blocked}
use Rattle.comparison_meaning.specs.Course.{Course, Stuck}
use Rattle.comparison_meaning.specs.Verdict.{Verdict, Result, equal, different, undecided, turned, power, miter, pinned_of, reduced_of, compare}

-- the sum t with the counts d is reached by document 01's steps from the pinned sum of a pair
abbrev pub Reached : ℕ → ℕ → List Gate → List Gate → PathSum → Counts → Type 0
Reached scratch n first second t d = Steps (pinned_of scratch n first second).sum (pinned_of scratch n first second).counts t d

-- a turn: a power of ω from the first to the seventh, and not 1
abbrev pub Turn : ℕ → Type 0
Turn j = (1 ≤ j) × (j < 8)

module _ (n : ℕ) (first second : List Gate) where
  -- where pinning ends
  abbrev pub pinning : End
  pinning = pinned_of 0 n first second

  -- where the reduction ends
  abbrev pub end : End
  end = reduced_of 0 n first second

  -- one power of ω carries every amplitude of the first list to the same amplitude of the second
  abbrev pub SomePower : Type 0
  SomePower = (j : ℕ) × (j < 8) × Carries n j first second

  -- at most one power of ω does, mod 8: a power that carries the pair is the power
  abbrev pub OnePower : Type 0
  OnePower = (i j : ℕ) → Carries n i first second → Carries n j first second → i % 8 ≡ j % 8

  -- demand 2: equal is said only where all amplitudes agree exactly
  abbrev pub EqualIsRight : Result → Type 0
  EqualIsRight answer = answer.verdict ≡ equal → Carries n 0 first second

  -- turned is said only where the power of ω that is shown in the first input's place, from 1 to 7, carries the pair
  abbrev pub TurnedIsRight : Result → Type 0
  TurnedIsRight answer = answer.verdict ≡ turned → Turn answer.first × Carries n answer.first first second

  -- in both cases that power is minus the constant of the phase that is left
  abbrev pub ByConstant : Result → Type 0
  ByConstant answer =
      (answer.verdict ≡ equal) ⊎ (answer.verdict ≡ turned)
      → (answer.first ≡ power end) × Carries n (power end) first second

  -- demand 2: different is said only with two inputs shown whose columns no single power of ω fits
  abbrev pub DifferentIsRight : Result → Type 0
  DifferentIsRight answer =
      answer.verdict ≡ different
      → (answer.first < 2 ^ n)
      × (answer.second < 2 ^ n)
      × ((j : ℕ) → Fits n j first second answer.first → Fits n j first second answer.second → ⊥)

  -- demand 2: verdict, inputs and counts are those of document 01's steps, which give no other result; and undecided is said exactly where
  -- they stop, not blocked, with path variables left and none of them ready
  pub record ByTheSteps (answer : Result) : Type 0 where
    pub course : Course 0 n first second answer
    pub only : (r : Result) → Course 0 n first second r → r ≡ answer
    pub undecided_if_stuck : (answer.verdict ≡ undecided) ↔ Stuck course.end

  -- the sum and the counts where the reduction ends are reached by steps in any order of the variables
  abbrev pub ReachedBySteps : Type 0
  ReachedBySteps = Reached 0 n first second end.sum end.counts

  -- and where a step blocks it, there is a ready variable whose step cannot be taken
  abbrev pub BlockedAsShown : Type 0
  BlockedAsShown = pinning.blocked_by ≡ none → (q : Parity) → end.blocked_by ≡ some q → Blocked end.sum q

  -- the inputs are 0 and 0 unless different or turned, and the second is 0 where turned
  abbrev pub InputsAsSaid : Result → Type 0
  InputsAsSaid answer =
      ((answer.verdict ≡ equal) ⊎ (answer.verdict ≡ undecided) → (answer.first ≡ 0) × (answer.second ≡ 0))
      × (answer.verdict ≡ turned → answer.second ≡ 0)

  -- demand 3: pins + sums + turns + 2 · joins + left = the H gates of both lists
  abbrev pub CountsAddUp : Result → Type 0
  CountsAddUp answer =
      answer.pins + answer.sums + answer.turns + 2 * answer.joins + answer.left ≡ h_gates first + h_gates second

  -- demand 3: so sums + turns + joins never exceeds them
  abbrev pub StepsWithinHGates : Result → Type 0
  StepsWithinHGates answer = answer.sums + answer.turns + answer.joins ≤ h_gates first + h_gates second

  -- a verdict and what it shows first: equal exactly when all amplitudes agree, turned with j exactly when ω^j, j from 1 to 7, carries the
  -- pair, different exactly when no power does, and never undecided
  pub record DecidedBy (v : Verdict) (shown : ℕ) : Type 0 where
    pub equal_if : (v ≡ equal) ↔ Carries n 0 first second
    pub turned_if : (j : ℕ) → ((v ≡ turned) × (shown ≡ j)) ↔ (Turn j × Carries n j first second)
    pub different_if : (v ≡ different) ↔ (SomePower → ⊥)
    pub not_undecided : v ≡ undecided → ⊥

  -- demand 3 in the terms' own words, with turned beside equal: one of the two is said exactly when one power of ω carries the pair,
  -- otherwise different (`as_the_terms_say` in proofs/Theorems.antt)
  abbrev pub AsTheTermsSay : Verdict → Type 0
  AsTheTermsSay v = (((v ≡ equal) ⊎ (v ≡ turned)) ↔ SomePower) × (((v ≡ equal) ⊎ (v ≡ turned)) ⊎ (v ≡ different))

  -- so it is with a result
  abbrev pub Decided : Result → Type 0
  Decided answer = DecidedBy answer.verdict answer.first

  -- no T gate and no inverse of one
  abbrev pub NoT : Type 0
  NoT = (t_gates first ≡ 0) × (t_gates second ≡ 0)

  -- demand 3: lists without T are decided
  abbrev pub CliffordIsDecided : Result → Type 0
  CliffordIsDecided answer = NoT → Decided answer

  -- with T present: if after pinning no path variable is in a term of odd coefficient, the pair is decided too
  abbrev pub EvenIsDecided : Result → Type 0
  EvenIsDecided answer = ((v : ℕ) → n ≤ v → in_odd v pinning.sum.phase.terms ≡ true → ⊥) → Decided answer

  -- the diagonal amplitudes of the first list followed by the inverse of the second, H without its factor, are √2 to the factor of d
  -- times the sum that is left in t
  abbrev pub DiagonalIs : PathSum → Counts → Type 0
  DiagonalIs t d = (v : ℕ) → v < 2 ^ n → column (miter first second) v v ≡ √2^ (factor d) (remaining t v)

  -- the invariant: so it is after every step, in whatever order the steps come
  abbrev pub EveryStep : Type 0
  EveryStep = pinning.blocked_by ≡ none → (t : PathSum) (d : Counts) → Reached 0 n first second t d → DiagonalIs t d

  -- and so where the reduction ends
  abbrev pub EndOfSteps : Type 0
  EndOfSteps = pinning.blocked_by ≡ none → DiagonalIs end.sum end.counts

  -- equal sets are merged, empty sets and zero coefficients dropped: the terms of the built sum, and of every sum that steps reach from
  -- the pinned one, stand in canonical form
  abbrev pub EverySumIsCanonical : Type 0
  EverySumIsCanonical =
      Canonical (build 0 n (miter first second)).phase.terms
      × ((t : PathSum) (d : Counts) → Reached 0 n first second t d → Canonical t.phase.terms)

  -- the terms of a sum keep to the room of both lists
  abbrev pub Fitting : PathSum → Type 0
  Fitting t = length t.phase.terms ≤ room first second

  -- so do those of the built sum
  abbrev pub BuiltFits : Type 0
  BuiltFits = Fitting (build 0 n (miter first second))

  -- and those of every sum that steps reach from the pinned one
  abbrev pub EveryStepFits : Type 0
  EveryStepFits = (t : PathSum) (d : Counts) → Reached 0 n first second t d → Fitting t

-- a pair of accepted records: both read, on the same qubits
pub record Accepted (s t : List ℕ) (n : ℕ) (first second : List Gate) : Type 0 where
  pub reads_first : read s ≡ accepted n first
  pub reads_second : read t ≡ accepted n second

-- the terms of an accepted pair with no more variables than a pair may have fit the places of a workspace, at every step
abbrev pub PairFits : ℕ → List Gate → List Gate → Type 0
PairFits n first second = n + (h_gates first + h_gates second) ≤ most_variables → room first second ≤ places

-- all of it, for a pair
pub record Demands (n : ℕ) (first second : List Gate) : Type 0 where
  pub one_power : OnePower n first second
  pub equal_is_right : EqualIsRight n first second (compare 0 n first second)
  pub turned_is_right : TurnedIsRight n first second (compare 0 n first second)
  pub by_constant : ByConstant n first second (compare 0 n first second)
  pub different_is_right : DifferentIsRight n first second (compare 0 n first second)
  pub by_the_steps : ByTheSteps n first second (compare 0 n first second)
  pub reached_by_steps : ReachedBySteps n first second
  pub blocked_as_shown : BlockedAsShown n first second
  pub inputs_as_said : InputsAsSaid n first second (compare 0 n first second)
  pub counts_add_up : CountsAddUp n first second (compare 0 n first second)
  pub steps_within_h_gates : StepsWithinHGates n first second (compare 0 n first second)
  pub clifford_is_decided : CliffordIsDecided n first second (compare 0 n first second)
  pub even_is_decided : EvenIsDecided n first second (compare 0 n first second)
  pub every_step : EveryStep n first second
  pub end_of_steps : EndOfSteps n first second
  pub every_sum_is_canonical : EverySumIsCanonical n first second
  pub built_fits : BuiltFits n first second
  pub every_step_fits : EveryStepFits n first second
