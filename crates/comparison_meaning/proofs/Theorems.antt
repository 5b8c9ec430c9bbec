-- The customer's demands 2 and 3, proved for every n and all lists whose gates are within n, with the equation that carries them and
-- the room that the terms take.
-- Assumes nothing.
use mathlib.Core.Path.{◌≡◌, refl, sym, ◌∙◌, ap}
use mathlib.Core.Logic.{◌⊎◌, inl, inr, ⊎_elim}
use mathlib.Core.Bool.{true≢false}
use mathlib.Core.List.{List}
use mathlib.Core.Option.{none, some}
use Prim.Native.Nat.{ℕ, ◌+◌, ◌*◌, ◌^◌, ◌<◌}
use native.Mathlib.Omega.{arith}
use lib.Pow.{pow_pos}
use Rattle.record_format.specs.Gate.{Gate, AllWithin}
use Rattle.amplitude.specs.Number.{0ω}
use Rattle.amplitude.specs.Circuit.{column, h_gates, Fits, Carries}
use Rattle.amplitude.proofs.BitLaws.{bit_zero}
use Rattle.amplitude.proofs.NumberLaws.{√2^-0ω}
use Rattle.amplitude.proofs.Bridge.{zero_diagonal, fits_unique}
use Rattle.phase_sum_meaning.specs.Sets.{Clear}
use Rattle.phase_sum_meaning.specs.Parity.{Parity}
use Rattle.phase_sum_meaning.proofs.Evenness.{OddIn, InputsOnly, ready_even, no_odd_even, no_odd_build}
use Rattle.phase_sum_meaning.proofs.Roominess.{room-build}
use Rattle.comparison_meaning.specs.Reduction.{End, factor}
use Rattle.comparison_meaning.specs.Verdict.{Verdict, equal, different, undecided, turned, number, Result, candidates, first_differing, blocked_input, power, reduced_of, compare, miter, pinned_of}
use Rattle.comparison_meaning.specs.Demands.{SomePower, OnePower, Turn, EqualIsRight, TurnedIsRight, ByConstant, DifferentIsRight, ByTheSteps, ReachedBySteps, InputsAsSaid, CountsAddUp, StepsWithinHGates, DecidedBy, AsTheTermsSay, Decided, CliffordIsDecided, EvenIsDecided, EveryStep, EndOfSteps, BuiltFits, EveryStepFits, Demands, BlockedAsShown, EverySumIsCanonical}
use Rattle.comparison_meaning.specs.Course.{Continues, further, halted, Done, Judged, blocked, unsized, found, same, rotated, Shown, shows}
use Rattle.comparison_meaning.proofs.Weight.{search_some}
use Rattle.comparison_meaning.proofs.Pinning.{blocked_input_lem, pin_blocked}
use Rattle.comparison_meaning.proofs.Reducing.{reduce_steps, reduce_blocks, stuck_inputs, stuck_nonzero, stuck_zero}
use Rattle.comparison_meaning.proofs.Reached.{room-miter, no_t_miter, within_miter, pin_end, kept, steps_count, steps_fit, steps_diagonal, fits_sized, same_carries, phases_apart}
use Rattle.comparison_meaning.proofs.Course.{course_of, only_course, undecided_if_stuck}
use Rattle.comparison_meaning.proofs.Outcomes.{continues, reduced_steps, reduced_through, reduced_even, judges, reason, judged_decided, judged_equal, judged_unready, judged_turned, reduced_blocked}
use Rattle.phase_sum_meaning.proofs.Wellformed.{good_build}

-- no input has a scratch qubit at 1 where there are none
clear_none : (v : ℕ) → Clear 0 v
clear_none v q h = absurd (true≢false (sym h ∙ bit_zero q))

-- a verdict that is right and never undecided says exactly what carries the pair, where at most one power does
pub decided_by :
    (n : ℕ) (first second : List Gate)
    → OnePower n first second
    → (v : Verdict) (shown : ℕ)
    → (v ≡ equal → Carries n 0 first second)
    → (v ≡ turned → Turn shown × Carries n shown first second)
    → (v ≡ different → SomePower n first second → ⊥)
    → (v ≡ undecided → ⊥)
    → DecidedBy n first second v shown
decided_by n first second one equal shown agree carries apart decides =
    record {
      equal_if = (agree, λ c. refl);
      turned_if = λ j. (λ h. absurd (omega (arith, ap number h.0)), λ h. absurd (omega (arith, one 0 j (agree refl) h.1, h.0.0, h.0.1)));
      different_if = (λ h. absurd (omega (arith, ap number h)), λ no. absurd (no (0, omega arith, agree refl)));
      not_undecided = decides;
    }
decided_by n first second one turned shown agree carries apart decides =
    let (turn, carried) = carries refl in
    record {
      equal_if = (λ h. absurd (omega (arith, ap number h)), λ c. absurd (omega (arith, one 0 shown c carried, turn.0, turn.1)));
      turned_if = λ j. (λ h. rw (← h.1) (turn, carried), λ h. (refl, omega (arith, one shown j carried h.1, turn.1, h.0.1)));
      different_if = (λ h. absurd (omega (arith, ap number h)), λ no. absurd (no (shown, turn.1, carried)));
      not_undecided = decides;
    }
decided_by n first second one different shown agree carries apart decides =
    record {
      equal_if = (λ h. absurd (omega (arith, ap number h)), λ c. absurd (apart refl (0, omega arith, c)));
      turned_if = λ j. (λ h. absurd (omega (arith, ap number h.0)), λ h. absurd (apart refl (j, h.0.1, h.1)));
      different_if = (apart, λ no. refl);
      not_undecided = decides;
    }
decided_by n first second one undecided shown agree carries apart decides = absurd (decides refl)

-- and it is as the terms say
pub as_the_terms_say :
    (n : ℕ) (first second : List Gate) (v : Verdict) (shown : ℕ) → DecidedBy n first second v shown → AsTheTermsSay n first second v
as_the_terms_say n first second equal shown d = ((λ h. (0, omega arith, d.equal_if.0 refl), λ h. inl refl), inl (inl refl))
as_the_terms_say n first second turned shown d =
    let (turn, carried) = (d.turned_if shown).0 (refl, refl) in
    ((λ h. (shown, turn.1, carried), λ h. inr refl), inl (inr refl))
as_the_terms_say n first second different shown d =
    let apart : (different ≡ equal) ⊎ (different ≡ turned) → ⊥ =
    ⊎_elim (λ h. omega (arith, ap number h)) (λ h. omega (arith, ap number h))
    in
    ((λ h. absurd (apart h), λ h. absurd (d.different_if.0 refl h)), inr refl)
as_the_terms_say n first second undecided shown d = absurd (d.not_undecided refl)

module _ (n : ℕ) (first second : List Gate) (l : AllWithin n first) (r : AllWithin n second) where
  -- how the reduction ends
  ends : Continues n (pinned_of 0 n first second) (reduced_of 0 n first second)
  ends = continues n (pinned_of 0 n first second) (pin_end 0 n first second l r).good

  -- its end is reached by steps, also where pinning is blocked
  pub reached_by_steps : ReachedBySteps n first second
  reached_by_steps = reduced_steps ends

  -- after every step the diagonal amplitude is the power of √2 counted so far times the sum that is left
  pub every_step : EveryStep n first second
  every_step through t d steps v b = steps_diagonal 0 n first second l r t d steps through v b (clear_none v)

  -- so it is where the reduction ends, also where a step is blocked
  pub end_of_steps : EndOfSteps n first second
  end_of_steps through = every_step through _ _ reached_by_steps

  -- where a step blocks the reduction, a ready variable's step cannot be taken
  pub blocked_as_shown : BlockedAsShown n first second
  blocked_as_shown through q h = reduced_blocked ends through h

  -- the terms that are built, and those after every step, stand in canonical form
  pub every_sum_is_canonical : EverySumIsCanonical n first second
  every_sum_is_canonical = (
    (good_build 0 n (miter first second) (within_miter 0 n first second l r)).0.canonical,
    λ t d steps. (kept 0 n first second l r t d steps).good.canonical,
  )

  -- the terms that are built keep to the room of both lists
  pub built_fits : BuiltFits n first second
  built_fits = omega (arith, room-build 0 n (miter first second), room-miter first second)

  -- so do those after every step
  pub every_step_fits : EveryStepFits n first second
  every_step_fits = steps_fit 0 n first second l r

  -- the result shows the verdict on the end, and its counts
  shown : Shown 0 n (reduced_of 0 n first second) (compare 0 n first second)
  unfolding compare
  shown = judges 0 n (reduced_of 0 n first second)

  -- pins + sums + turns + 2 · joins + left are the H gates of both lists
  pub counts_add_up : CountsAddUp n first second (compare 0 n first second)
  counts_add_up = add_up shown
    where
      add_up :
          {x : Result}
          → Shown 0 n (reduced_of 0 n first second) x
          → x.pins + x.sums + x.turns + 2 * x.joins + x.left ≡ h_gates first + h_gates second
      add_up (shows j) = steps_count 0 n first second l r _ _ reached_by_steps

  -- so there are no more sums, turns and joins than these
  pub steps_within_h_gates : StepsWithinHGates n first second (compare 0 n first second)
  steps_within_h_gates = omega (arith, counts_add_up)

  -- at most one power carries the pair: column 0 fits at most one
  pub one_power : OnePower n first second
  one_power i j carried again = fits_unique n first second 0 i j l r (pow_pos n) (carried 0 (pow_pos n)) (again 0 (pow_pos n))

  -- where the phase is the same at every input, minus its constant fits every column
  carries :
      Done (reduced_of 0 n first second)
      → (reduced_of 0 n first second).counts.pins ≡ (reduced_of 0 n first second).counts.sums
      → first_differing (reduced_of 0 n first second).sum.phase (candidates 0 n) ≡ none
      → Carries n (power (reduced_of 0 n first second)) first second
  carries done sized None-found v b =
      same_carries 0 n first second l r _ _ reached_by_steps (reduced_through ends done.0) done.1 sized None-found v b (clear_none v)

  -- so where equal or turned is said, and it is the power shown
  pub by_constant : ByConstant n first second (compare 0 n first second)
  by_constant = ⊎_elim (λ h. is_one (rw h at (reason shown))) (λ h. is_other (rw h at (reason shown)))
    where
      is_one :
          {a b : ℕ}
          → Judged 0 n (reduced_of 0 n first second) equal a b
          → (a ≡ power (reduced_of 0 n first second)) × Carries n (power (reduced_of 0 n first second)) first second
      is_one (same done sized None-found one) = (sym one, carries done sized None-found)

      is_other :
          {a b : ℕ}
          → Judged 0 n (reduced_of 0 n first second) turned a b
          → (a ≡ power (reduced_of 0 n first second)) × Carries n (power (reduced_of 0 n first second)) first second
      is_other (rotated done sized None-found other) = (refl, carries done sized None-found)

  -- equal: the power is 1, so all amplitudes agree
  pub equal_is_right : EqualIsRight n first second (compare 0 n first second)
  equal_is_right h =
      let (is-shown, carried) = by_constant (inl h) in
      rw (sym is-shown ∙ (judged_equal (rw h at (reason shown))).0) at carried

  -- turned: it is the one shown, and not 1
  pub turned_is_right : TurnedIsRight n first second (compare 0 n first second)
  turned_is_right h = is (rw h at (reason shown))
    where
      is : {a b : ℕ} → Judged 0 n (reduced_of 0 n first second) turned a b → Turn a × Carries n a first second
      is (rotated done sized None-found other) = ((other, omega arith), carries done sized None-found)

  -- where the reduction is blocked, the diagonal amplitude is 0 at the input shown
  blocked_zero :
      {e : End} {q : Parity}
      → Continues n (pinned_of 0 n first second) e
      → e.blocked_by ≡ some q
      → (blocked_input n q < 2 ^ n) × (column (miter first second) (blocked_input n q) (blocked_input n q) ≡ 0ω)
  blocked_zero {e} {q} (further through course) h =
      let steps = reduce_steps course in
      let good = (kept 0 n first second l r e.sum e.counts steps).good in
      let stuck = reduce_blocks course h in
      let makes = blocked_input_lem n q (stuck_inputs n e.sum q good stuck) (stuck_nonzero e.sum q stuck) in (
        makes.0,
        every_step through e.sum e.counts steps (blocked_input n q) makes.0
            ∙ rw (stuck_zero n e.sum q (blocked_input n q) good stuck makes.1) (√2^-0ω (factor e.counts)),
      )
  blocked_zero {q} (halted b) h =
      pin_blocked 0 n (miter first second) q (within_miter 0 n first second l r) h (clear_none (blocked_input n q))

  -- different: the diagonal amplitude is 0 or has another size than √2 once for each H gate, or the phases of the two columns differ
  pub different_is_right : DifferentIsRight n first second (compare 0 n first second)
  different_is_right h = differ (rw h at (reason shown))
    where
      differ :
          {a b : ℕ}
          → Judged 0 n (reduced_of 0 n first second) different a b
          → (a < 2 ^ n) × (b < 2 ^ n) × ((j : ℕ) → Fits n j first second a → Fits n j first second b → ⊥)
      differ (blocked h) =
          let zero = blocked_zero ends h in
          (zero.0, zero.0, λ j fits again. zero_diagonal n first second _ j l r zero.0 zero.1 fits)
      differ (unsized done unequal) =
          let sized = fits_sized 0 n first second l r _ _ reached_by_steps (reduced_through ends done.0) done.1 in
          (pow_pos n, pow_pos n, λ j fits again. unequal (sized 0 j (pow_pos n) (clear_none 0) fits))
      differ (found {v} done sized differs) =
          let witness = search_some 0 n v (reduced_of 0 n first second).sum.phase differs in
          let apart = phases_apart 0 n first second l r _ _ reached_by_steps (reduced_through ends done.0) done.1 sized in
          (pow_pos n, witness.0, λ j. apart 0 v j (pow_pos n) witness.0 (clear_none 0) witness.1 witness.2)

  -- the result is that of document 01's course, and no other is; undecided: the steps stop, not blocked, with path variables left and none
  -- ready
  pub by_the_steps : ByTheSteps n first second (compare 0 n first second)
  by_the_steps =
      record {
        course = course_of 0 n first second l r;
        only = λ other. only_course 0 n first second other l r;
        undecided_if_stuck = undecided_if_stuck (course_of 0 n first second l r);
      }

  -- the inputs are 0 and 0 where equal or undecided, and the second is 0 where turned
  pub inputs_as_said : InputsAsSaid n first second (compare 0 n first second)
  inputs_as_said = (
    ⊎_elim (λ h. judged_equal (rw h at (reason shown))) (λ h. judged_unready (rw h at (reason shown))),
    λ h. judged_turned (rw h at (reason shown)),
  )

  -- a verdict that is not undecided says exactly what carries the pair
  pub decided_unless : ((compare 0 n first second).verdict ≡ undecided → ⊥) → Decided n first second (compare 0 n first second)
  decided_unless = decided_by n first second one_power _ _ equal_is_right turned_is_right refuted
    where
      refuted : (compare 0 n first second).verdict ≡ different → SomePower n first second → ⊥
      refuted h power = let no = different_is_right h in no.2 power.0 (power.2 _ no.0) (power.2 _ no.1)

  -- where every odd coefficient of the pinned sum is on inputs alone, it is not
  decided : OddIn (InputsOnly n) (pinned_of 0 n first second).sum.phase.terms → Decided n first second (compare 0 n first second)
  decided even = decided_unless (λ h. judged_decided (rw h at (reason shown)) (reduced_even ends (pin_end 0 n first second l r).good even))

  -- so it is where no path variable is in a term of odd coefficient after pinning
  pub even_is_decided : EvenIsDecided n first second (compare 0 n first second)
  even_is_decided ready = decided (ready_even n (pinned_of 0 n first second).sum.phase.terms ready)

  -- and without T gates, where no coefficient is odd
  pub clifford_is_decided : CliffordIsDecided n first second (compare 0 n first second)
  clifford_is_decided no_t =
      decided
      (no_odd_even n (pinned_of 0 n first second).sum.phase.terms
      ((pin_end 0 n first second l r).even (no_odd_build 0 n (miter first second) (no_t_miter n first second no_t))))

-- every pair within n meets them
pub demands : (n : ℕ) (first second : List Gate) → AllWithin n first → AllWithin n second → Demands n first second
demands n first second l r =
    record {
      one_power = one_power n first second l r;
      equal_is_right = equal_is_right n first second l r;
      turned_is_right = turned_is_right n first second l r;
      by_constant = by_constant n first second l r;
      different_is_right = different_is_right n first second l r;
      by_the_steps = by_the_steps n first second l r;
      reached_by_steps = reached_by_steps n first second l r;
      blocked_as_shown = blocked_as_shown n first second l r;
      inputs_as_said = inputs_as_said n first second l r;
      counts_add_up = counts_add_up n first second l r;
      steps_within_h_gates = steps_within_h_gates n first second l r;
      clifford_is_decided = clifford_is_decided n first second l r;
      even_is_decided = even_is_decided n first second l r;
      every_step = every_step n first second l r;
      end_of_steps = end_of_steps n first second l r;
      every_sum_is_canonical = every_sum_is_canonical n first second l r;
      built_fits = built_fits n first second l r;
      every_step_fits = every_step_fits n first second l r;
    }
