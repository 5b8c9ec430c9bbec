-- A test at every number of a range.
-- Assumes nothing.
use mathlib.Core.Path.{◌≡◌, refl, ap, ◌∙◌}
use mathlib.Core.Bool.{Bool, true, false, ◌&&◌}
use mathlib.Core.List.{[], ◌∷◌, ◌++◌}
use Prim.Native.Nat.{ℕ, zero, suc, ◌+◌}
use native.Mathlib.Omega.{arith}
use Rattle.std.specs.List.{range_with_len, list_all}
use Rattle.std.proofs.lemmas.List.Folds.{list_all-append}
use Rattle.amplitude.specs.Testing.{below}

-- a range ends in its last number
range_end : (a m : ℕ) → range_with_len a (suc m) ≡ range_with_len a m ++ (a + m) ∷ []
range_end a zero = ap (λ n. n ∷ []) (omega arith)
range_end a (suc m) =
    let same : (a + 1) + m ≡ a + suc m = omega arith in
    ap (λ ns. a ∷ ns) (range_end (a + 1) m ∙ ap (λ n. range_with_len (a + 1) m ++ n ∷ []) same)

-- the numbers below m
pub below_range : (m : ℕ) (test : ℕ → Bool) → list_all test (range_with_len 0 m) ≡ below m test
unfolding below
below_range zero test = refl
below_range (suc m) test =
    let same : 0 + m ≡ m = omega arith in
    ap (list_all test) (range_end 0 m ∙ ap (λ n. range_with_len 0 m ++ n ∷ []) same)
    ∙ list_all-append test (range_with_len 0 m) (m ∷ [])
    ∙ (λ i. below_range m test i && last (test m) i)
  where
    last : (b : Bool) → (b && true) ≡ b
    last true = refl
    last false = refl
