-- Numbers in their coordinates, with products and a sum, gates of every kind counted, and single amplitudes, by computation: facts that
-- pin the conventions of the definitions.
-- Assumes nothing.
use mathlib.Core.Path.{◌≡◌, refl}
use mathlib.Core.Bool.{xor}
use mathlib.Core.List.{[], ◌∷◌, map}
use lib.IntN.{ℤ, pos, neg_ℤ}
use Rattle.record_format.specs.Gate.{every_kind, one, two, X, Y, Z, T, H, CX, SWAP}
use Rattle.amplitude.specs.Number.{Zω, whole, 0ω, 1ω, ◌+ω◌, neg, mulω, ω^, mul√2, √2^, ◌*ω◌, sum_below}
use Rattle.amplitude.specs.Bits.{bit, put}
use Rattle.amplitude.specs.Matrix.{matrix, entry, times}
use Rattle.amplitude.specs.Circuit.{basis, apply, run, column, tally, is_h, is_t, h_gates, t_gates}

-- a number by its coordinates: a + bω + cω² + dω³
abbrev coordinates : ℤ → ℤ → ℤ → ℤ → Zω
coordinates a b c d = record { a = a; b = b; c = c; d = d }

-- 1 is 1 + 0ω + 0ω² + 0ω³
pub one_is : 1ω ≡ coordinates (pos 1) (pos 0) (pos 0) (pos 0)
unfolding 1ω whole
one_is = refl

-- ω is its own coordinate
pub ω_is : ω^ 1 1ω ≡ coordinates (pos 0) (pos 1) (pos 0) (pos 0)
unfolding ω^ mulω 1ω whole
ω_is = refl

-- so is ω²
pub ω²_is : ω^ 2 1ω ≡ coordinates (pos 0) (pos 0) (pos 1) (pos 0)
unfolding ω^ mulω 1ω whole
ω²_is = refl

-- √2 is ω − ω³
pub √2_is : √2^ 1 1ω ≡ coordinates (pos 0) (pos 1) (pos 0) (neg_ℤ (pos 1))
unfolding √2^ mul√2 ω^ mulω 1ω whole neg ◌+ω◌
√2_is = refl

-- of one gate of each kind, from 0 to 10, those that count as T: kinds 5 and 6
pub t_kinds : map is_t every_kind ≡ 0 ∷ 0 ∷ 0 ∷ 0 ∷ 0 ∷ 1 ∷ 1 ∷ 0 ∷ 0 ∷ 0 ∷ 0 ∷ []
t_kinds = refl

-- and those that count as H: kind 7
pub h_kinds : map is_h every_kind ≡ 0 ∷ 0 ∷ 0 ∷ 0 ∷ 0 ∷ 0 ∷ 0 ∷ 1 ∷ 0 ∷ 0 ∷ 0 ∷ []
h_kinds = refl

-- so among them are two T gates
pub t_gates_of_every_kind : t_gates every_kind ≡ 2
unfolding tally
t_gates_of_every_kind = refl

-- and one H gate
pub h_gates_of_every_kind : h_gates every_kind ≡ 1
unfolding tally
h_gates_of_every_kind = refl

-- ω⁴ is −1
pub fourth_power : ω^ 4 1ω ≡ neg 1ω
unfolding ω^ mulω 1ω whole neg
fourth_power = refl

-- √2 twice is 2
pub root_of_two : √2^ 2 1ω ≡ 1ω +ω 1ω
unfolding √2^ mul√2 ω^ mulω 1ω whole neg ◌+ω◌
root_of_two = refl

-- ω³ times ω is −1
pub product_of_powers : ω^ 3 1ω *ω ω^ 1 1ω ≡ neg 1ω
unfolding ◌*ω◌ ω^ mulω 1ω whole neg
product_of_powers = refl

-- (1 + 2ω + 3ω² + 4ω³)(5 + 6ω + 7ω² + 8ω³), each power of ω gathered:
-- 5 − (16 + 21 + 24), 6 + 10 − (24 + 28), 7 + 12 + 15 − 32, 8 + 14 + 18 + 20
pub product_of_all :
    coordinates (pos 1) (pos 2) (pos 3) (pos 4) *ω coordinates (pos 5) (pos 6) (pos 7) (pos 8)
    ≡ coordinates (neg_ℤ (pos 56)) (neg_ℤ (pos 36)) (pos 2) (pos 60)
unfolding ◌*ω◌
product_of_all = refl

-- the sum over 0, 1 and 2 of ω^u is 1 + ω + ω²
pub sum_of_three : sum_below 3 (λ u. ω^ u 1ω) ≡ coordinates (pos 1) (pos 1) (pos 1) (pos 0)
unfolding sum_below ◌+ω◌ ω^ mulω 0ω 1ω whole
sum_of_three = refl

-- T multiplies input 1 by ω
pub t_turns : column (one T 0 ∷ []) 1 1 ≡ ω^ 1 1ω
unfolding whole 0ω 1ω ◌+ω◌ neg mulω ω^ bit put matrix entry times basis apply run column
t_turns = refl

-- H without its factor sends 1 to 0 minus 1
pub h_of_one : column (one H 0 ∷ []) 1 1 ≡ neg 1ω
unfolding whole 0ω 1ω ◌+ω◌ neg mulω ω^ bit put matrix entry times basis apply run column
h_of_one = refl

-- X sends 0 to 1
pub x_flips : column (one X 0 ∷ []) 0 1 ≡ 1ω
unfolding whole 0ω 1ω ◌+ω◌ neg mulω ω^ bit put matrix entry times basis apply run column
x_flips = refl

-- Z negates input 1
pub z_signs : column (one Z 0 ∷ []) 1 1 ≡ neg 1ω
unfolding whole 0ω 1ω ◌+ω◌ neg mulω ω^ bit put matrix entry times basis apply run column
z_signs = refl

-- qubit 1 is the bit of worth 2: X there sends 0 to 2
pub x_qubit : column (one X 1 ∷ []) 0 2 ≡ 1ω
unfolding whole 0ω 1ω ◌+ω◌ neg mulω ω^ bit put matrix entry times basis apply run column
x_qubit = refl

-- CX flips its second qubit where its first is 1
pub cx_target : column (two CX 0 1 ∷ []) 1 3 ≡ 1ω
unfolding whole 0ω 1ω ◌+ω◌ neg mulω ω^ bit put matrix entry times basis apply run column xor
cx_target = refl

-- and does nothing where its first is 0
pub cx_control : column (two CX 0 1 ∷ []) 2 2 ≡ 1ω
unfolding whole 0ω 1ω ◌+ω◌ neg mulω ω^ bit put matrix entry times basis apply run column xor
cx_control = refl

-- SWAP sends 1 to 2
pub swap_bits : column (two SWAP 0 1 ∷ []) 1 2 ≡ 1ω
unfolding whole 0ω 1ω ◌+ω◌ neg mulω ω^ bit put matrix entry times basis apply run column
swap_bits = refl

-- a list runs from its first gate: T meets the 1 that X has made
pub x_first : column (one X 0 ∷ one T 0 ∷ []) 0 1 ≡ ω^ 1 1ω
unfolding whole 0ω 1ω ◌+ω◌ neg mulω ω^ bit put matrix entry times basis apply run column
x_first = refl

-- and meets the 0 before it
pub x_last : column (one T 0 ∷ one X 0 ∷ []) 0 1 ≡ 1ω
unfolding whole 0ω 1ω ◌+ω◌ neg mulω ω^ bit put matrix entry times basis apply run column
x_last = refl

-- Y at input 0 gives i
pub y_of_zero : column (one Y 0 ∷ []) 0 1 ≡ ω^ 2 1ω
unfolding whole 0ω 1ω ◌+ω◌ neg mulω ω^ bit put matrix entry times basis apply run column
y_of_zero = refl

-- and at input 1 gives −i
pub y_of_one : column (one Y 0 ∷ []) 1 0 ≡ ω^ 6 1ω
unfolding whole 0ω 1ω ◌+ω◌ neg mulω ω^ bit put matrix entry times basis apply run column
y_of_one = refl
