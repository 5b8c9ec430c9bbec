-- Gates on n qubits read the amplitudes below 2^n alone.
-- Assumes nothing.
use mathlib.Core.Bool.{true, false, xor}
use mathlib.Core.List.{List, [], ◌∷◌}
use Prim.Native.Nat.{ℕ}
use Rattle.record_format.specs.Gate.{Gate, one, two, CX, CZ, SWAP, Within, AllWithin}
use Rattle.amplitude.specs.Bits.{bit, put}
use Rattle.amplitude.specs.Circuit.{State, apply, run}
use Rattle.amplitude.proofs.BitLaws.{put_below}
use Rattle.dense_columns.specs.Columns.{Agree}

-- a gate
pub apply_local : (n : ℕ) (g : Gate) (φ ψ : State) → Within n g → Agree n φ ψ → Agree n (apply g φ) (apply g ψ)
unfolding apply
apply_local n (one u q) φ ψ l same w b =
    rw (same (put q false w) (put_below n q false w l b), same (put q true w) (put_below n q true w l b))
apply_local n (two CX x y) φ ψ l same w b =
    same (put y (xor (bit x w) (bit y w)) w) (put_below n y (xor (bit x w) (bit y w)) w l.1 b)
apply_local n (two CZ x y) φ ψ l same w b = rw (same w b)
apply_local n (two SWAP x y) φ ψ l same w b =
    same (put x (bit y w) (put y (bit x w) w)) (put_below n x (bit y w) (put y (bit x w) w) l.0 (put_below n y (bit x w) w l.1 b))

-- a list
pub run_local : (n : ℕ) (gs : List Gate) (φ ψ : State) → AllWithin n gs → Agree n φ ψ → Agree n (run gs φ) (run gs ψ)
unfolding run
run_local n [] φ ψ l same = same
run_local n (g ∷ gs) φ ψ l same = run_local n gs (apply g φ) (apply g ψ) l.1 (apply_local n g φ ψ l.0 same)
