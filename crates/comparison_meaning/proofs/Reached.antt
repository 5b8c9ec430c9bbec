-- What holds of the path sum of a pair after every step, in any order of steps: the counts add up, the terms keep to their room, and
-- the diagonal amplitude of the first list followed by the inverse of the second is a power of √2, counted by the steps, times the
-- sum that is left. With no variable left, it tells which power of ω fits each column.
-- Assumes nothing.
use mathlib.Core.Path.{◌≡◌, ◌∙◌, ap}
use mathlib.Core.List.{List, []}
use mathlib.Core.Option.{none}
use Prim.Native.Nat.{ℕ, ◌+◌, ◌*◌, ◌%◌, ◌^◌, ◌<◌, ◌≤◌}
use native.Mathlib.Omega.{arith}
use lib.ListN.{length}
use Rattle.record_format.specs.Gate.{Gate, AllWithin, inverse_list}
use Rattle.amplitude.specs.Number.{1ω, ω^, √2^}
use Rattle.amplitude.specs.Circuit.{column, tally, is_h, is_t, h_gates, t_gates, Fits}
use Rattle.amplitude.proofs.Linear.{tally-append, h_gates-inverse, t_gates-inverse}
use Rattle.record_format.proofs.GateLaws.{within_append, within_inverse}
use Rattle.amplitude.proofs.Bridge.{diagonal_fits, size_diagonal, fits_unique}
use Rattle.phase_sum_meaning.specs.Sets.{Clear}
use Rattle.phase_sum_meaning.specs.Phase.{phase_at, minus}
use Rattle.phase_sum_meaning.specs.Building.{PathSum, build}
use Rattle.phase_sum_meaning.specs.Meaning.{phasor, remaining}
use Rattle.phase_sum_meaning.specs.Room.{room_for, room}
use Rattle.phase_sum_meaning.proofs.Wellformed.{live_build}
use Rattle.phase_sum_meaning.proofs.Roominess.{room-build, tally-inverse-room}
use Rattle.comparison_meaning.specs.Reduction.{Counts, counts, factor}
use Rattle.comparison_meaning.specs.Verdict.{candidates, first_differing, miter, pinned_of}
use Rattle.comparison_meaning.specs.Demands.{NoT, Reached}
use Rattle.comparison_meaning.proofs.Weight.{sum_zero, search_none}
use Rattle.comparison_meaning.proofs.Pinning.{PinEnd, pin_ends, pinned_diagonal}
use Rattle.comparison_meaning.proofs.Reducing.{Kept, steps_keep, live_empty_phase}

-- the miter list has the H gates of both
h_gates-miter : (first second : List Gate) → h_gates (miter first second) ≡ h_gates first + h_gates second
h_gates-miter first second = tally-append is_h first (inverse_list second) ∙ ap (λ k. h_gates first + k) (h_gates-inverse second)

-- and their room
pub room-miter : (first second : List Gate) → tally room_for (miter first second) ≡ room first second
room-miter first second = tally-append room_for first (inverse_list second) ∙ ap (λ k. tally room_for first + k) (tally-inverse-room second)

-- and no T gate where neither has one
pub no_t_miter : (n : ℕ) (first second : List Gate) → NoT n first second → t_gates (miter first second) ≡ 0
no_t_miter n first second h = omega (arith, tally-append is_t first (inverse_list second), t_gates-inverse second)

-- what holds of the pinned sum of a pair and of all that steps make of it
module _ (scratch n : ℕ) (first second : List Gate) (l : AllWithin n first) (r : AllWithin n second) where
  -- the miter list is within n
  pub within_miter : AllWithin n (miter first second)
  within_miter = within_append n first (inverse_list second) l (within_inverse n second r)

  -- what pinning ends in
  pub pin_end : PinEnd scratch n (build scratch n (miter first second)) (counts 0 0 0 0) (pinned_of scratch n first second)
  pin_end = pin_ends scratch n (miter first second) within_miter

  module _ (t : PathSum) (d : Counts) (steps : Reached scratch n first second t d) where
    -- what the steps keep
    pub kept : Kept n (pinned_of scratch n first second).sum (pinned_of scratch n first second).counts t d
    kept = steps_keep n _ _ t d pin_end.good steps

    -- the counts and the variables left add up to the H gates of both lists
    pub steps_count : d.pins + d.sums + d.turns + 2 * d.joins + length t.live ≡ h_gates first + h_gates second
    steps_count =
        omega (
          arith,
          kept.pins,
          kept.count,
          pin_end.pins,
          pin_end.sums,
          pin_end.turns,
          pin_end.joins,
          live_build scratch n (miter first second),
          h_gates-miter first second,
        )

    -- the terms keep to the room of both
    pub steps_fit : length t.phase.terms ≤ room first second
    steps_fit =
        omega
        (arith, kept.room, pin_end.few, pin_end.pins, room-build scratch n (miter first second), room-miter first second)

    module _ (through : (pinned_of scratch n first second).blocked_by ≡ none) where
      -- the diagonal amplitude is the power of √2 counted so far times the sum that is left
      pub steps_diagonal : (v : ℕ) → v < 2 ^ n → Clear scratch v → column (miter first second) v v ≡ √2^ (factor d) (remaining t v)
      unfolding √2^
      steps_diagonal v b clear =
          let start : factor (pinned_of scratch n first second).counts ≡ 0 = omega (arith, pin_end.sums, pin_end.turns, pin_end.joins) in
          pinned_diagonal scratch n (miter first second) v within_miter b clear through ∙ (rw start at (kept.value v))

      module _ (done : t.live ≡ []) where
        -- with no variable left it is a power of √2 times one of ω
        pub done_diagonal :
            (v : ℕ) → v < 2 ^ n → Clear scratch v → column (miter first second) v v ≡ √2^ (factor d) (ω^ (phase_at t.phase v) 1ω)
        unfolding phasor
        done_diagonal v b clear = steps_diagonal v b clear ∙ ap (√2^ (factor d)) (live_empty_phase t v done)

        -- where some power of ω fits a column, pins and sums are equal: only then is the power of √2 that of the H gates
        pub fits_sized : (v j : ℕ) → v < 2 ^ n → Clear scratch v → Fits n j first second v → d.pins ≡ d.sums
        fits_sized v j b clear fits =
            let empty : length t.live ≡ 0 = rw done in
            omega
            (arith, steps_count, size_diagonal n first second v j (factor d) (phase_at t.phase v) l r b (done_diagonal v b clear) fits)

        -- where they are, minus the phase of each input is the power that fits its column
        pub sized_fits : d.pins ≡ d.sums → (v : ℕ) → v < 2 ^ n → Clear scratch v → Fits n (minus (phase_at t.phase v)) first second v
        sized_fits sized v b clear =
            let empty : length t.live ≡ 0 = rw done in
            let whole : factor d ≡ h_gates first + h_gates second = omega (arith, steps_count) in
            diagonal_fits n first second v (phase_at t.phase v) l r b (rw whole at (done_diagonal v b clear))

        -- and where the search finds no input of another phase, minus the constant fits every column
        pub same_carries :
            d.pins ≡ d.sums
            → first_differing t.phase (candidates scratch n) ≡ none
            → (v : ℕ)
            → v < 2 ^ n
            → Clear scratch v
            → Fits n (minus t.phase.constant) first second v
        unfolding phase_at
        same_carries sized None-found v b clear = rw constant at (sized_fits sized v b clear)
          where
            constant : phase_at t.phase v % 8 ≡ t.phase.constant % 8
            constant = omega (arith, search_none scratch n t.phase None-found v b clear, sum_zero t.phase.terms)

        -- and no power fits two columns whose phases differ
        pub phases_apart :
            d.pins ≡ d.sums
            → (u v j : ℕ)
            → u < 2 ^ n
            → v < 2 ^ n
            → Clear scratch u
            → Clear scratch v
            → (phase_at t.phase v % 8 ≡ phase_at t.phase u % 8 → ⊥)
            → Fits n j first second u
            → Fits n j first second v
            → ⊥
        phases_apart sized u v j bu bv cu cv apart fu fv =
            apart
            (omega (
              arith,
              fits_unique n first second u j (minus (phase_at t.phase u)) l r bu fu (sized_fits sized u bu cu),
              fits_unique n first second v j (minus (phase_at t.phase v)) l r bv fv (sized_fits sized v bv cv),
            ))
