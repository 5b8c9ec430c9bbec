-- Each gate is local to the places of its pass's key.
-- Assumes nothing.
use mathlib.Core.Path.{◌≡◌, refl, ◌∙◌, ap}
use mathlib.Core.Logic.{◌≢◌}
use mathlib.Core.Bool.{Bool, true, false, xor}
use Prim.Native.Nat.{ℕ, ◌^◌, ◌<◌}
use Rattle.record_format.specs.Gate.{two, CX, SWAP}
use Rattle.amplitude.specs.Bits.{bit, put}
use Rattle.amplitude.specs.Circuit.{apply}
use Rattle.amplitude.proofs.BitLaws.{put_put_same, put_put_other, put_below}
use Rattle.dense_columns.specs.Columns.{Local, Inside, itself}
use Rattle.dense_turning.specs.Turns.{turned_where, crossed, lowest}

-- turns: each place
pub turned_local : (n a b k : ℕ) → Local n itself (turned_where a b k)
unfolding turned_where
turned_local n a b k φ ψ w l same = rw (same w l refl)

-- exchanges with turns: pairs along the qubit
pub crossed_local : (n q b c : ℕ) → q < n → Local n (put q false) (crossed q b c)
unfolding crossed
crossed_local n q b c qn φ ψ w l same =
    rw (same (put q false w) (put_below n q false w qn l) (put_put_same q false false w), same (put q true w) (put_below n q true w qn l) (put_put_same q false true w))

-- CX: pairs along its target
pub cx_local : (n a b : ℕ) → b < n → Local n (put b false) (apply (two CX a b))
unfolding apply
cx_local n a b bn φ ψ w l same =
    same (put b (xor (bit a w) (bit b w)) w) (put_below n b (xor (bit a w) (bit b w)) w bn l) (put_put_same b false (xor (bit a w) (bit b w)) w)

-- the lower place of a pair is a place of n qubits
pub pair_inside : (n q : ℕ) → q < n → Inside n (put q false)
pair_inside n q qn u b = put_below n q false u qn b

-- the lowest of four places is that of all four
pub lowest_put : (a b u : ℕ) (x y : Bool) → a ≢ b → lowest a b (put a x (put b y u)) ≡ lowest a b u
lowest_put a b u x y ne =
    ap (put a false) (put_put_other b a false x (put b y u) (λ e. ne (cc)))
    ∙ put_put_same a false x (put b false (put b y u))
    ∙ ap (put a false) (put_put_same b false y u)

-- it is a place of n qubits where they are
pub lowest_below : (n a b u : ℕ) → a < n → b < n → u < 2 ^ n → lowest a b u < 2 ^ n
lowest_below n a b u an bn l = put_below n a false (put b false u) an (put_below n b false u bn l)

-- SWAP: four places
pub swap_local : (n a b : ℕ) → a < n → b < n → a ≢ b → Local n (lowest a b) (apply (two SWAP a b))
unfolding apply
swap_local n a b an bn ne φ ψ w l same =
    same (put a (bit b w) (put b (bit a w) w)) (put_below n a (bit b w) (put b (bit a w) w) an (put_below n b (bit a w) w bn l))
    (lowest_put a b w (bit b w) (bit a w) ne)
