-- The places of a column: an amplitude that was stored is there, and every other stays.
-- Assumes nothing.
use mathlib.Core.Path.{◌≡◌, refl, sym, ◌∙◌, ap}
use mathlib.Core.List.{List, [], ◌∷◌}
use Prim.Native.Nat.{ℕ, zero, suc, ◌^◌, ◌<◌, ◌≤◌}
use native.Mathlib.Decide.{ℕ_discrete}
use native.Mathlib.Omega.{arith}
use lib.ListN.{length, replicate, length-set, get_or, set}
use lib.Seq.{get_or-set_same, get_or-set_other}
use lib.Pow.{pow_mono}
use lib.IntN.{ℤ}
use Rattle.std.specs.List.{swap}
use Rattle.std.proofs.lemmas.List.Edits.{swap_is}
use Rattle.amplitude.specs.Number.{Zω, whole, 0ω}
use Rattle.dense_meaning.specs.Limits.{block_qubits}
use Rattle.dense_numbers.specs.Numbers.{of_coefficients, coefficients}
use Rattle.dense_columns.specs.Columns.{amplitude_at, stored, Exchanged}

-- at most 64 places
pub few_places : (k : ℕ) → k ≤ block_qubits → 2 ^ k ≤ 64
few_places k l = pow_mono l

-- a number by its coefficients
of_own : (z : Zω) → of_coefficients (coefficients z) ≡ z
unfolding of_coefficients coefficients
of_own z = refl

-- four coefficients by their number
four_own : (ns : List ℤ) → length ns ≡ 4 → coefficients (of_coefficients ns) ≡ ns
unfolding of_coefficients coefficients
four_own [] e = absurd (omega arith)
four_own (a ∷ []) e = absurd (omega arith)
four_own (a ∷ b ∷ []) e = absurd (omega arith)
four_own (a ∷ b ∷ c ∷ []) e = absurd (omega arith)
four_own (a ∷ b ∷ c ∷ d ∷ []) e = refl
four_own (a ∷ b ∷ c ∷ d ∷ n ∷ ns) e = absurd (omega arith)

-- storing keeps the length
pub length-stored : (xs : List (List ℤ)) (w : ℕ) (z : Zω) → length (stored xs w z) ≡ length xs
unfolding stored
length-stored xs w z = simp length-set

-- the amplitude at another place stays
pub stored_other : (xs : List (List ℤ)) (w : ℕ) (z : Zω) (u : ℕ) → (u ≡ w → ⊥) → amplitude_at (stored xs w z) u ≡ amplitude_at xs u
unfolding amplitude_at stored
stored_other xs w z u ne = ap of_coefficients (get_or-set_other xs w u (coefficients z) [] ne)

-- the amplitude that was stored is there
pub stored_same : (xs : List (List ℤ)) (w : ℕ) (z : Zω) → w < length xs → amplitude_at (stored xs w z) w ≡ z
unfolding amplitude_at stored
stored_same xs w z l = ap of_coefficients (get_or-set_same xs w (coefficients z) [] l) ∙ of_own z

-- an exchange of elements is two stores
pub swap_stores : (xs : List (List ℤ)) (low high : ℕ) → low < length xs → high < length xs →
    ((i : ℕ) → i < length xs → length (get_or xs i []) ≡ 4) →
    swap xs low high ≡ stored (stored xs low (amplitude_at xs high)) high (amplitude_at xs low)
unfolding amplitude_at stored
swap_stores xs low high l h four =
    sym (swap_is xs low high [] l h)
    ∙ (λ i. set (set xs low (sym (four_own (get_or xs high []) (four high h)) i)) high (sym (four_own (get_or xs low []) (four low l)) i))

-- two places exchanged by two stores
pub exchanged : (xs : List (List ℤ)) (low high : ℕ) → low < length xs → high < length xs →
    Exchanged low high xs (stored (stored xs low (amplitude_at xs high)) high (amplitude_at xs low))
exchanged xs low high l h =
    record {
      at_low = go (ℕ_discrete low high);
      at_high = stored_same (stored xs low (amplitude_at xs high)) high (amplitude_at xs low) (rw (length-stored xs low (amplitude_at xs high)) h);
      others = λ u p q. stored_other (stored xs low (amplitude_at xs high)) high (amplitude_at xs low) u q ∙ stored_other xs low (amplitude_at xs high) u p;
    }
  where
    go : Dec (low ≡ high) → amplitude_at (stored (stored xs low (amplitude_at xs high)) high (amplitude_at xs low)) low ≡ amplitude_at xs high
    go (yes e) = rw (← e) (stored_same (stored xs low (amplitude_at xs low)) low (amplitude_at xs low) (rw (length-stored xs low (amplitude_at xs low)) l))
    go (no ne) =
        stored_other (stored xs low (amplitude_at xs high)) high (amplitude_at xs low) low ne
        ∙ stored_same xs low (amplitude_at xs high) l

-- zeros have 0 at every place, also where there is none
pub zeros_at : (m w : ℕ) → amplitude_at (replicate m (coefficients 0ω)) w ≡ 0ω
unfolding amplitude_at of_coefficients coefficients 0ω whole
zeros_at zero w = refl
zeros_at (suc m) zero = refl
zeros_at (suc m) (suc w) = zeros_at m w
