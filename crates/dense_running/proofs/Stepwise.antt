-- A list of gates run on a column, gate by gate.
-- Assumes nothing.
use mathlib.Core.Path.{◌≡◌, refl, sym, ◌∙◌, subst}
use mathlib.Core.List.{List, [], ◌∷◌}
use Prim.Native.Nat.{ℕ, ◌+◌, ◌-◌}
use native.Mathlib.Omega.{arith}
use lib.IntN.{ℤ}
use Rattle.record_format.specs.Gate.{Gate}
use Rattle.amplitude.specs.Circuit.{State, apply, run, tally, is_h, h_gates}
use Rattle.dense_numbers.specs.Numbers.{Sized, most_doublings}
use Rattle.dense_numbers.proofs.Sizes.{sized_more}
use Rattle.dense_columns.specs.Columns.{amplitude_at, Agree, Holds, AllSized}
use Rattle.dense_running.specs.Running.{Ready}
use Rattle.dense_running.proofs.Locality.{run_local}
use Rattle.dense_running.proofs.Growth.{apply_sized}

-- the gates that are left take the column as it is to the state aimed at
pub record ToRun (n : ℕ) (aim : State) (gs : List Gate) (xs : List (List ℤ)) : Type 0 where
  pub ready : Ready n gs xs
  pub reaches : Agree n (run gs (amplitude_at xs)) aim

-- the column's numbers are small enough for the next
pub ready_small : (n : ℕ) (gs : List Gate) (xs : List (List ℤ)) → Ready n gs xs → AllSized n most_doublings (amplitude_at xs)
ready_small n gs xs r w b = sized_more (most_doublings - h_gates gs) most_doublings (amplitude_at xs w) (omega arith) (r.sized w b)

-- states that agree have one size
pub agree_sized : (n k : ℕ) (φ ψ : State) → Agree n φ ψ → AllSized n k ψ → AllSized n k φ
agree_sized n k φ ψ same s w b = subst (λ z. Sized k z) (sym (same w b)) (s w b)

-- before the first
pub none_run : (n : ℕ) (gs : List Gate) (xs : List (List ℤ)) → Ready n gs xs → ToRun n (run gs (amplitude_at xs)) gs xs
none_run n gs xs r = record { ready = r; reaches = λ w b. refl }

-- after one
pub one_run : (n : ℕ) (aim : State) (g : Gate) (gs : List Gate) (xs ys : List (List ℤ)) → ToRun n aim (g ∷ gs) xs → Holds n (apply g (amplitude_at xs)) ys →
    ToRun n aim gs ys
unfolding run tally
one_run n aim g gs xs ys t h =
    record {
      ready =
          record {
            within = t.ready.within.1;
            few = omega (arith, t.ready.few);
            sized =
                subst (λ k. AllSized n k (amplitude_at ys)) grown
                (agree_sized n _ (amplitude_at ys) (apply g (amplitude_at xs)) h
                (apply_sized n g (most_doublings - h_gates (g ∷ gs)) (amplitude_at xs) t.ready.within.0 t.ready.sized));
          };
      reaches = λ w b. run_local n gs (amplitude_at ys) (apply g (amplitude_at xs)) t.ready.within.1 h w b ∙ t.reaches w b;
    }
  where
    grown : most_doublings - h_gates (g ∷ gs) + is_h g ≡ most_doublings - h_gates gs
    grown = omega (arith, t.ready.few)

-- after the last
pub all_run : (n : ℕ) (aim : State) (xs : List (List ℤ)) → ToRun n aim [] xs → Holds n aim xs
unfolding run
all_run n aim xs t = t.reaches
