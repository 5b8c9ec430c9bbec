-- Two columns compared: what the tests mean.
-- Assumes nothing.
use mathlib.Core.Path.{◌≡◌, sym, ◌∙◌, ap}
use mathlib.Core.Bool.{true, false, false≢true}
use mathlib.Core.List.{List}
use Prim.Native.Nat.{ℕ, zero, suc, ◌+◌, ◌<◌}
use native.Mathlib.Omega.{arith}
use lib.ListN.{length}
use lib.IntN.{ℤ}
use Rattle.record_format.specs.Gate.{Gate}
use Rattle.record_format.specs.Reading.{gates_in}
use Rattle.amplitude.specs.Number.{ω^}
use Rattle.amplitude.specs.Circuit.{column, h_gates, Fits}
use Rattle.amplitude.specs.Testing.{carries_state, scaled_column}
use Rattle.amplitude.proofs.Testing.{carries_true, carries_pass}
use Rattle.dense_numbers.specs.Numbers.{most_doublings}
use Rattle.dense_numbers.proofs.Sizes.{sized_more, sized_√2^}
use Rattle.dense_columns.specs.Columns.{amplitude_at, AllSized, Room}
use Rattle.dense_running.proofs.Growth.{column_sized}
use Rattle.dense_running.proofs.Stepwise.{agree_sized}
use Rattle.dense_judging.specs.Judging.{Block, BothRun}

-- a column that is written on keeps its room
pub room_kept : {n : ℕ} {xs ys : List (List ℤ)} → Room n xs → length ys ≡ length xs → Room n ys
room_kept room e = record { few = room.few; places = rw e room.places }

module _ (n : ℕ) (first second : List Gate) (v : ℕ) (xs ys : List (List ℤ)) (ran : BothRun n first second v xs ys) where
  -- a test that passed
  pub passed_fits : (j : ℕ) → carries_state n j (amplitude_at xs) (amplitude_at ys) ≡ true → Fits n j first second v
  passed_fits j e w b = ap (ω^ j) (sym (ran.left w b)) ∙ carries_true n j (amplitude_at xs) (amplitude_at ys) e w b ∙ ran.right w b

  -- and one that failed
  pub failed_fits : (j : ℕ) → carries_state n j (amplitude_at xs) (amplitude_at ys) ≡ false → Fits n j first second v → ⊥
  failed_fits j e f =
      false≢true
      (sym e ∙ carries_pass n j (amplitude_at xs) (amplitude_at ys) (λ w b. ap (ω^ j) (ran.left w b) ∙ f w b ∙ sym (ran.right w b)))

-- the numbers in the first are small enough to be turned
pub left_small : {n h k v : ℕ} {first second : List ℕ} {xs ys : List (List ℤ)} → Block n first second h k →
    BothRun n (gates_in first) (gates_in second) v xs ys → AllSized n most_doublings (amplitude_at xs)
left_small {n} {h} {k} {v} {first} {second} {xs} {ys} block ran =
    let gs = gates_in first in
    let hs = gates_in second in
    agree_sized n most_doublings (amplitude_at xs) (scaled_column (h_gates hs) gs v) ran.left
    (λ w b.
    sized_more (h_gates gs + h_gates hs) most_doublings (scaled_column (h_gates hs) gs v w)
    (omega (arith, block.h_first, block.h_second, block.small))
    (sized_√2^ (h_gates hs) (h_gates gs) (column gs v w) (column_sized n v gs block.within_first w b)))

-- a power that fits column 0 fits every column below 1
pub below_one : (first second : List Gate) (n j : ℕ) → Fits n j first second 0 → (u : ℕ) → u < 1 → Fits n j first second u
below_one first second n j f zero l = f
below_one first second n j f (suc u) l = absurd (omega arith)
