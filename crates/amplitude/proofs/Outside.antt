-- A list over n qubits stays among the outputs of n qubits: a state that is 0 from output 2^n on stays so.
-- Assumes nothing.
use mathlib.Core.Path.{◌≡◌, refl, sym, ◌∙◌, ap}
use mathlib.Core.Bool.{Bool, true, false, cond, ◌&&◌, xor}
use mathlib.Core.List.{List, [], ◌∷◌}
use Prim.Native.Nat.{ℕ, ◌^◌, ◌<◌, ◌≤◌}
use native.Mathlib.Omega.{arith}
use borrow.Author.Tests.{eq-eqb, ne_eqb}
use Rattle.record_format.specs.Gate.{Gate, one, two, CX, CZ, SWAP, Within, AllWithin}
use Rattle.amplitude.specs.Number.{0ω, 1ω, ω^}
use Rattle.amplitude.specs.Bits.{bit, put}
use Rattle.amplitude.specs.Circuit.{State, basis, apply, run, column}
use Rattle.amplitude.proofs.NumberLaws.{+ω_idl, ω^-0ω}
use Rattle.amplitude.proofs.BitLaws.{put_above}
use Rattle.amplitude.proofs.Linear.{times-0ω}

-- 0 at every output from 2^n on
abbrev pub Outside : ℕ → State → Type 0
Outside n ψ = (w : ℕ) → 2 ^ n ≤ w → ψ w ≡ 0ω

-- a gate over n qubits keeps a state 0 from output 2^n on
pub apply_outside : (n : ℕ) (g : Gate) (ψ : State) → Within n g → Outside n ψ → Outside n (apply g ψ)
unfolding apply
apply_outside n (one u q) ψ l h w m =
    rw (h (put q false w) (put_above n q false w l m), h (put q true w) (put_above n q true w l m)) (simp times-0ω (+ω_idl 0ω))
apply_outside n (two CX a b) ψ l h w m = h _ (put_above n b (xor (bit a w) (bit b w)) w l.1 m)
apply_outside n (two CZ a b) ψ l h w m = go (bit a w && bit b w)
  where
    go : (t : Bool) → cond t (ω^ 4 (ψ w)) (ψ w) ≡ 0ω
    go true = ap (ω^ 4) (h w m) ∙ ω^-0ω 4
    go false = h w m
apply_outside n (two SWAP a b) ψ l h w m =
    h _ (put_above n a (bit b w) (put b (bit a w) w) l.0 (put_above n b (bit a w) w l.1 m))

-- a list over n qubits keeps a state 0 from output 2^n on
pub run_outside : (n : ℕ) (gs : List Gate) (ψ : State) → AllWithin n gs → Outside n ψ → Outside n (run gs ψ)
unfolding run
run_outside n [] ψ l h = h
run_outside n (g ∷ gs) ψ l h = run_outside n gs (apply g ψ) l.1 (apply_outside n g ψ l.0 h)

-- input v has amplitude 1 at output v
pub basis_same : (v : ℕ) → basis v v ≡ 1ω
unfolding basis
basis_same v = rw (eq-eqb v v refl)

-- and 0 at every other
pub basis_other : (v w : ℕ) → (w ≡ v → ⊥) → basis v w ≡ 0ω
unfolding basis
basis_other v w ne = rw (ne_eqb v w (λ e. ne (sym e)))

-- a column is 0 at outputs from 2^n on
pub column_outside : (n : ℕ) (gs : List Gate) (v w : ℕ) → AllWithin n gs → v < 2 ^ n → 2 ^ n ≤ w → column gs v w ≡ 0ω
unfolding column
column_outside n gs v w l h m = run_outside n gs (basis v) l (λ x above. basis_other v x (omega arith)) w m
