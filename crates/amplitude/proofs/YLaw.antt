-- Y is Z followed by X, but for the factor i, and is its own inverse exactly, on every state and at every qubit.
-- Assumes nothing.
use mathlib.Core.Path.{◌≡◌, refl, ap, fun_ext}
use Prim.Native.Nat.{ℕ}
use mathlib.Core.Bool.{Bool, true, false}
use mathlib.Core.List.{[], ◌∷◌}
use Rattle.record_format.specs.Gate.{one, X, Y, Z}
use Rattle.amplitude.specs.Number.{ω^}
use Rattle.amplitude.specs.Bits.{bit}
use Rattle.amplitude.specs.Matrix.{matrix, entry, times}
use Rattle.amplitude.specs.Circuit.{State, apply, run}
use Rattle.amplitude.proofs.NumberLaws.{+ω_idl, +ω_idr, ω^-add, ω^_eight}
use Rattle.amplitude.proofs.BitLaws.{bit_put_same, put_put_same, put_bit}

-- bits that were put, sums with 0, and powers of ω that meet
ruleset crossing = (bit_put_same, put_put_same, +ω_idl, +ω_idr, ← ω^-add, ω^_eight)

-- Y is i times Z, then X
pub y_is_z_then_x : (q : ℕ) (ψ : State) → apply (one Y q) ψ ≡ (λ w. ω^ 2 (apply (one X q) (apply (one Z q) ψ) w))
unfolding apply matrix entry times
y_is_z_then_x q ψ = fun_ext (λ w. at w (bit q w) refl)
  where
    at : (w : ℕ) (b : Bool) → bit q w ≡ b → apply (one Y q) ψ w ≡ ω^ 2 (apply (one X q) (apply (one Z q) ψ) w)
    at w false e = simp (e, crossing)
    at w true e = simp (e, crossing)

-- Y twice is nothing
pub y_own_inverse : (q : ℕ) (ψ : State) → run (one Y q ∷ one Y q ∷ []) ψ ≡ ψ
unfolding run apply matrix entry times
y_own_inverse q ψ = fun_ext (λ w. at w (bit q w) refl)
  where
    at : (w : ℕ) (b : Bool) → bit q w ≡ b → run (one Y q ∷ one Y q ∷ []) ψ w ≡ ψ w
    at w false e = simp (e, crossing) (ap ψ (rw e at (put_bit q w)))
    at w true e = simp (e, crossing) (ap ψ (rw e at (put_bit q w)))
