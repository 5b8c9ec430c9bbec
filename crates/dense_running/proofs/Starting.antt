-- A column from its input on: √2 k times at the input's own place and 0 elsewhere, then the gates. As running a list is linear, the column
-- is that of the list, times √2 k times.
-- Assumes nothing.
use mathlib.Core.Path.{◌≡◌, sym, ◌∙◌, ap}
use mathlib.Core.List.{List}
use Prim.Native.Nat.{ℕ, ◌+◌, ◌-◌, ◌^◌, ◌<◌, ◌≤◌}
use native.Mathlib.Decide.{ℕ_discrete}
use native.Mathlib.Omega.{arith}
use lib.ListN.{replicate, length-replicate}
use lib.IntN.{ℤ}
use Rattle.record_format.specs.Gate.{Gate, AllWithin}
use Rattle.amplitude.specs.Number.{0ω, 1ω, √2^}
use Rattle.amplitude.specs.Circuit.{State, basis, run, column, h_gates}
use Rattle.amplitude.specs.Testing.{scaled_column}
use Rattle.amplitude.proofs.NumberLaws.{√2^-0ω}
use Rattle.amplitude.proofs.Linear.{run-√2^}
use Rattle.amplitude.proofs.Outside.{basis_same, basis_other}
use Rattle.dense_numbers.specs.Numbers.{coefficients, most_doublings}
use Rattle.dense_numbers.proofs.Sizes.{sized_more, sized_√2^}
use Rattle.dense_columns.specs.Columns.{amplitude_at, stored, Holds}
use Rattle.dense_columns.proofs.Places.{stored_same, stored_other, zeros_at}
use Rattle.dense_running.specs.Running.{Ready}
use Rattle.dense_running.proofs.Locality.{run_local}
use Rattle.dense_running.proofs.Growth.{basis_sized}
use Rattle.dense_running.proofs.Stepwise.{agree_sized}

-- an input's state, times √2 k times
abbrev pub scaled_basis : ℕ → ℕ → State
scaled_basis k v w = √2^ k (basis v w)

-- as the code makes it
pub start_holds : (n v k m : ℕ) → v < 2 ^ n → 2 ^ n ≤ m → Holds n (scaled_basis k v) (stored (replicate m (coefficients 0ω)) v (√2^ k 1ω))
start_holds n v k m b room w l = go (ℕ_discrete w v)
  where
    go : Dec (w ≡ v) → amplitude_at (stored (replicate m (coefficients 0ω)) v (√2^ k 1ω)) w ≡ scaled_basis k v w
    go (yes e) =
        rw e (stored_same (replicate m (coefficients 0ω)) v (√2^ k 1ω) (rw (length-replicate m (coefficients 0ω)) (omega arith)) ∙ ap (√2^ k) (sym (basis_same v)))
    go (no ne) =
        stored_other (replicate m (coefficients 0ω)) v (√2^ k 1ω) w ne
        ∙ zeros_at m w
        ∙ sym (√2^-0ω k)
        ∙ ap (√2^ k) (sym (basis_other v w ne))

module _ (n v k : ℕ) (gs : List Gate) (l : AllWithin n gs) (xs : List (List ℤ)) (start : Holds n (scaled_basis k v) xs) where
  -- it is ready for gates
  pub start_ready : h_gates gs + k ≤ most_doublings → Ready n gs xs
  start_ready few =
      record {
        within = l;
        few = omega arith;
        sized =
            agree_sized n (most_doublings - h_gates gs) (amplitude_at xs) (scaled_basis k v) start
            (λ w b. sized_more (0 + k) (most_doublings - h_gates gs) (scaled_basis k v w) (omega arith) (sized_√2^ k 0 (basis v w) (basis_sized v w)));
      }

  -- and when they have run it is the list's column, scaled
  pub column-run : (ys : List (List ℤ)) → Holds n (run gs (amplitude_at xs)) ys → Holds n (scaled_column k gs v) ys
  unfolding column
  column-run ys ran w b = ran w b ∙ run_local n gs (amplitude_at xs) (scaled_basis k v) l start w b ∙ ap (λ ψ. ψ w) (run-√2^ k gs (basis v))
