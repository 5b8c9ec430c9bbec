-- Two lists one after the other, over the same n qubits, multiply as matrices: what the first makes of an input is a sum of inputs, each
-- with its amplitude, and the second passes sums and factors through.
-- Assumes nothing.
use mathlib.Core.Path.{◌≡◌, sym, ◌∙◌, ap, fun_ext}
use mathlib.Core.List.{List, ◌++◌}
use Prim.Native.Nat.{ℕ, zero, suc, ◌^◌, ◌<◌}
use native.Mathlib.Decide.{dec_lt}
use native.Mathlib.Omega.{arith}
use Rattle.record_format.specs.Gate.{Gate, AllWithin}
use Rattle.amplitude.specs.Number.{0ω, ◌+ω◌, ◌*ω◌, sum_below}
use Rattle.amplitude.specs.Circuit.{State, basis, run, column}
use Rattle.amplitude.specs.Composition.{MatrixProduct}
use Rattle.amplitude.proofs.ProductLaws.{*ω-0ω, *ω-1ω, sum_below_cong, sum_below_zero, sum_below_only}
use Rattle.amplitude.proofs.Linear.{linear_*ω, linear_0ω, run_linear, run-+ω, run-append}
use Rattle.amplitude.proofs.Outside.{Outside, basis_same, basis_other, column_outside}

-- a list passes a sum of m states through
run-sum_below :
    (gs : List Gate) (m : ℕ) (ψ : ℕ → State) → run gs (λ w. sum_below m (λ u. ψ u w)) ≡ (λ w. sum_below m (λ u. run gs (ψ u) w))
unfolding sum_below
run-sum_below gs zero ψ = run_linear (λ x. 0ω) linear_0ω gs (λ w. 0ω)
run-sum_below gs (suc m) ψ =
    run-+ω gs (λ w. sum_below m (λ u. ψ u w)) (ψ m) ∙ ap (λ (φ : State). λ w. φ w +ω run gs (ψ m) w) (run-sum_below gs m ψ)

-- a state that is 0 from output 2^n on is the sum of all inputs below, each with its amplitude
by_inputs : (n : ℕ) (ψ : State) → Outside n ψ → ψ ≡ (λ w. sum_below (2 ^ n) (λ u. ψ u *ω basis u w))
by_inputs n ψ h = fun_ext (λ w. sym (pick w (dec_lt w (2 ^ n))))
  where
    other : (w u : ℕ) → (u ≡ w → ⊥) → ψ u *ω basis u w ≡ 0ω
    other w u ne = rw (basis_other u w (λ e. ne (sym e))) (*ω-0ω (ψ u))

    pick : (w : ℕ) → Dec (w < 2 ^ n) → sum_below (2 ^ n) (λ u. ψ u *ω basis u w) ≡ ψ w
    pick w (yes l) = sum_below_only (2 ^ n) w _ l (λ u k. other w u) ∙ ap (λ z. ψ w *ω z) (basis_same w) ∙ *ω-1ω (ψ w)
    pick w (no g) = sum_below_zero (2 ^ n) _ (λ u l. other w u (omega arith)) ∙ sym (h w (omega arith))

-- the join in time is the product of matrices
pub in_time : (n : ℕ) (first second : List Gate) → AllWithin n first → MatrixProduct n first second (first ++ second)
unfolding column
in_time n first second l v w hv hw =
    ap (λ (ψ : State). ψ w)
    (run-append first second (basis v)
    ∙ ap (run second) (by_inputs n (column first v) (λ x. column_outside n first v x l hv))
    ∙ run-sum_below second (2 ^ n) (λ u x. column first v u *ω basis u x))
    ∙ sum_below_cong (2 ^ n) _ _ (λ u k. ap (λ (ψ : State). ψ w) (run_linear _ (linear_*ω (column first v u)) second (basis u)))
