-- A pass over a column, turn by turn.
-- Assumes nothing.
use mathlib.Core.Path.{◌≡◌, refl, ◌∙◌}
use mathlib.Core.List.{List}
use Prim.Native.Nat.{ℕ, ◌+◌, ◌^◌, ◌<◌, ◌≤◌}
use native.Mathlib.Decide.{ℕ_discrete}
use native.Mathlib.Omega.{arith}
use lib.ListN.{length}
use lib.IntN.{ℤ}
use Rattle.amplitude.specs.Number.{Zω}
use Rattle.amplitude.specs.Circuit.{State}
use Rattle.dense_columns.specs.Columns.{amplitude_at, stored, Holds, Turned, Local, Inside, itself}
use Rattle.dense_columns.proofs.Places.{stored_same, stored_other}

-- the places with keys below w hold what F makes of φ, the others still hold φ
pub record Passed (n : ℕ) (key : ℕ → ℕ) (F : State → State) (φ : State) (w : ℕ) (xs : List (List ℤ)) : Type 0 where
  pub done : (u : ℕ) → u < 2 ^ n → key u < w → amplitude_at xs u ≡ F φ u
  pub left : (u : ℕ) → u < 2 ^ n → w ≤ key u → amplitude_at xs u ≡ φ u

module _ (n : ℕ) (key : ℕ → ℕ) (F : State → State) where
  -- before the first turn
  pub pass_start : (xs : List (List ℤ)) → Passed n key F (amplitude_at xs) 0 xs
  pass_start xs = record { done = λ u l h. absurd (omega arith); left = λ u l h. refl }

  -- after a turn
  pub pass_turn : (φ : State) (w : ℕ) (xs ys : List (List ℤ)) → Local n key F → Passed n key F φ w xs → Turned n key F w xs ys →
      Passed n key F φ (w + 1) ys
  pass_turn φ w xs ys local p t =
      record {
        done = λ u l h. go u l (ℕ_discrete (key u) w) h;
        left = λ u l h. t.others u l (λ e. omega arith) ∙ p.left u l (omega arith);
      }
    where
      go : (u : ℕ) → u < 2 ^ n → Dec (key u ≡ w) → key u < w + 1 → amplitude_at ys u ≡ F φ u
      go u l (yes e) h = t.here u l e ∙ local (amplitude_at xs) φ u l (λ v b k. p.left v b (omega arith))
      go u l (no ne) h = t.others u l ne ∙ p.done u l (omega arith)

  -- after the last
  pub pass_end : (φ : State) (xs : List (List ℤ)) → Inside n key → Passed n key F φ (2 ^ n) xs → Holds n (F φ) xs
  pass_end φ xs below p w l = p.done w l (below w l)

-- a turn that stores at its own place what F makes of the column there
pub point_turned : (n w : ℕ) (F : State → State) (x : Zω) (xs : List (List ℤ)) → w < length xs → x ≡ F (amplitude_at xs) w →
    Turned n itself F w xs (stored xs w x)
point_turned n w F x xs room e =
    record { here = λ u b h. rw h (stored_same xs w x room ∙ e); others = λ u b ne. stored_other xs w x u ne }

-- a turn that does nothing, where F leaves the place as it is
pub point_kept : (n w : ℕ) (F : State → State) (xs : List (List ℤ)) → amplitude_at xs w ≡ F (amplitude_at xs) w → Turned n itself F w xs xs
point_kept n w F xs e = record { here = λ u b h. rw h e; others = λ u b ne. refl }
