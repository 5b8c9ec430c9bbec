-- The sum over the outputs of n qubits, and what it says of a list: running it multiplies the sum of the sizes by 2 once for
-- each H gate, so no column is 0 everywhere.
-- Assumes nothing.
use mathlib.Core.Path.{◌≡◌, refl, sym, ◌∙◌, ap, ap₂, fun_ext}
use mathlib.Core.Logic.{◌≢◌}
use mathlib.Core.Bool.{Bool, true, false, cond, ◌&&◌, xor}
use mathlib.Core.List.{List, [], ◌∷◌}
use Prim.Native.Nat.{ℕ, zero, suc, ◌+◌, ◌*◌, ◌/◌, ◌%◌, ◌^◌, ◌<◌, ◌≤◌}
use native.Mathlib.Nat.{le_of_suc-le-suc, add-zero, pow-succ', mul-add, mul_assoc, mul_left_comm, one-mul, mul-one}
use native.Mathlib.Omega.{arith}
use lib.Arith.{lt-one}
use lib.Pow.{pow-add, pow_pos}
use lib.Dec.{eqb}
use borrow.Author.Tests.{eqb-true, eqb-false, ne_eqb}
use Rattle.record_format.specs.Gate.{OneQubit, X, Y, Z, S, S†, T, T†, H, Gate, one, two, CX, CZ, SWAP, Within, AllWithin, one_qubit_kind}
use Rattle.amplitude.specs.Number.{Zω, 0ω, 1ω, ω^}
use Rattle.amplitude.specs.Bits.{bit, put}
use Rattle.amplitude.specs.Matrix.{matrix, entry, times, row}
use Rattle.amplitude.specs.Circuit.{State, basis, apply, run, column, tally, is_h, h_gates}
use Rattle.amplitude.proofs.NumberLaws.{+ω_idl, +ω_idr, ω^_four}
use Rattle.amplitude.proofs.Norm.{norm, norm_ω^, norm_parallelogram, norm_0ω, norm_1ω}
use Rattle.amplitude.proofs.XorLaws.{xor_comm, xor_cancel}
use Rattle.amplitude.proofs.BitLaws.{digit-below, double_half, double_rest, bit_put_same, bit_put_other, put_put_same, put_put_other}
use Rattle.amplitude.proofs.Linear.{ω^_zero, apply_one}

-- the sum of f over the numbers below 2^n
unfoldable pub total : ℕ → (ℕ → ℕ) → ℕ
total zero f = f 0
total (suc n) f = total n (λ w. f (2 * w) + f (2 * w + 1))

-- functions that agree below 2^n have one sum
pub total_cong : (n : ℕ) (f g : ℕ → ℕ) → ((w : ℕ) → w < 2 ^ n → f w ≡ g w) → total n f ≡ total n g
unfolding total
total_cong zero f g h = h 0 (omega arith)
total_cong (suc n) f g h =
    total_cong n _ _ (λ w l. ap₂ ◌+◌ (h (2 * w) (omega (arith, pow-succ' 2 n))) (h (2 * w + 1) (omega (arith, pow-succ' 2 n))))

-- the sum of f + g is the sum of f and the sum of g
pub total-+ : (n : ℕ) (f g : ℕ → ℕ) → total n (λ w. f w + g w) ≡ total n f + total n g
unfolding total
total-+ zero f g = refl
total-+ (suc n) f g = total_cong n _ _ (λ w l. omega arith) ∙ total-+ n (λ w. f (2 * w) + f (2 * w + 1)) (λ w. g (2 * w) + g (2 * w + 1))

-- a constant factor goes in front of the sum
pub total-* : (n c : ℕ) (f : ℕ → ℕ) → total n (λ w. c * f w) ≡ c * total n f
unfolding total
total-* zero c f = refl
total-* (suc n) c f =
    total_cong n _ _ (λ w l. sym (mul-add c (f (2 * w)) (f (2 * w + 1)))) ∙ total-* n c (λ w. f (2 * w) + f (2 * w + 1))

-- the sum of 0 is 0
pub total_zero : (n : ℕ) → total n (λ w. 0) ≡ 0
unfolding total
total_zero zero = refl
total_zero (suc n) = total_zero n

-- v is 2w or 2w + 1 where its half is w, and neither elsewhere
one_half : (v w c : ℕ) → cond (eqb v (2 * w)) c 0 + cond (eqb v (2 * w + 1)) c 0 ≡ cond (eqb (v / 2) w) c 0
one_half v w c = go (eqb v (2 * w)) (eqb v (2 * w + 1)) (eqb (v / 2) w) refl refl refl
  where
    go : (r s t : Bool) → eqb v (2 * w) ≡ r → eqb v (2 * w + 1) ≡ s → eqb (v / 2) w ≡ t → cond r c 0 + cond s c 0 ≡ cond t c 0
    go true true t e d h = absurd (omega (arith, eqb-true, eqb-true))
    go true false true e d h = omega arith
    go true false false e d h = absurd (omega (arith, eqb-true, eqb-false))
    go false true true e d h = omega arith
    go false true false e d h = absurd (omega (arith, eqb-true, eqb-false))
    go false false true e d h = absurd (omega (arith, eqb-true, eqb-false))
    go false false false e d h = refl

-- the sum of c at v and 0 elsewhere is c
pub total_one : (n v c : ℕ) → v < 2 ^ n → total n (λ w. cond (eqb v w) c 0) ≡ c
unfolding total
total_one zero v c l = rw (lt-one l)
total_one (suc n) v c l = total_cong n _ _ (λ w m. one_half v w c) ∙ total_one n (v / 2) c (omega (arith, pow-succ' 2 n))

-- the sum is the value at v and the sum of the others
pub total_split : (n : ℕ) (f : ℕ → ℕ) (v : ℕ) → v < 2 ^ n → total n f ≡ f v + total n (λ w. cond (eqb v w) 0 (f w))
total_split n f v l =
    total_cong n _ _ (λ w m. go (eqb v w) w refl) ∙ total-+ n (λ w. cond (eqb v w) (f v) 0) (λ w. cond (eqb v w) 0 (f w))
    ∙ ap (λ s. s + total n (λ w. cond (eqb v w) 0 (f w))) (total_one n v (f v) l)
  where
    go : (t : Bool) (w : ℕ) → eqb v w ≡ t → f w ≡ cond t (f v) 0 + cond t 0 (f w)
    go true w e = rw (eqb-true v w e) (omega arith)
    go false w e = omega arith

-- no value is above the sum
pub total_above : (n : ℕ) (f : ℕ → ℕ) (v : ℕ) → v < 2 ^ n → f v ≤ total n f
total_above n f v l = omega (arith, total_split n f v l)

-- where one value is the sum, every other is 0
pub total_rest : (n : ℕ) (f : ℕ → ℕ) (v : ℕ) → v < 2 ^ n → total n f ≡ f v → (w : ℕ) → w < 2 ^ n → (w ≡ v → ⊥) → f w ≡ 0
total_rest n f v l e w m ne =
    let other : eqb v w ≡ false = ne_eqb v w (λ r. ne (sym r)) in
    let below : f w ≤ total n (λ x. cond (eqb v x) 0 (f x)) = rw other at (total_above n (λ x. cond (eqb v x) 0 (f x)) w m) in
    omega (arith, total_split n f v l)

-- a double halved
even_half : (w : ℕ) → 2 * w / 2 ≡ w
even_half w = omega arith

-- a double leaves no rest
even_rest : (w : ℕ) → 2 * w % 2 ≡ 0
even_rest w = omega arith

-- halves and rests of a double, and of a double and 1
ruleset halves = (even_half, even_rest, double_half, double_rest, add-zero)

-- summing over both values of one bit gives the sum twice
pub total_pair : (n q : ℕ) (f : ℕ → ℕ) → q < n → total n (λ w. f (put q false w) + f (put q true w)) ≡ 2 * total n f
unfolding total put
total_pair zero q f l = absurd (omega arith)
total_pair (suc n) zero f l =
    total_cong n _ _ (λ w m. simp (halves, digit-below true) (omega arith)) ∙ total-* n 2 (λ w. f (2 * w) + f (2 * w + 1))
total_pair (suc n) (suc q) f l =
    total_cong n _ _ (λ w m. simp (halves, digit-below true) (omega arith))
    ∙ total_pair n q (λ w. f (2 * w) + f (2 * w + 1)) (le_of_suc-le-suc l)

-- where f's values at both values of a bit add up to c times g's, so do the sums
pub total_by_pairs : (n q c : ℕ) (f g : ℕ → ℕ) → q < n →
    ((w : ℕ) → f (put q false w) + f (put q true w) ≡ c * (g (put q false w) + g (put q true w))) → total n f ≡ c * total n g
total_by_pairs n q c f g l h = omega (arith, twice, mul_left_comm c 2 (total n g))
  where
    twice : 2 * total n f ≡ c * (2 * total n g)
    twice =
        sym (total_pair n q f l)
        ∙ total_cong n _ _ (λ w m. h w)
        ∙ total-* n c (λ w. g (put q false w) + g (put q true w))
        ∙ ap (λ s. c * s) (total_pair n q g l)

-- the sizes of a matrix's two results add up to those of the two numbers, twice that for H
pub kind_norm : (u : OneQubit) (q : ℕ) (x y : Zω) →
    norm (row (matrix u) false x y) + norm (row (matrix u) true x y) ≡ 2 ^ is_h (one u q) * (norm x + norm y)
unfolding matrix entry times one_qubit_kind
kind_norm X q x y = simp (+ω_idl, +ω_idr, norm_ω^) (omega arith)
kind_norm Y q x y = simp (+ω_idl, +ω_idr, norm_ω^) (omega arith)
kind_norm Z q x y = simp (+ω_idl, +ω_idr, norm_ω^) (omega arith)
kind_norm S q x y = simp (+ω_idl, +ω_idr, norm_ω^) (omega arith)
kind_norm S† q x y = simp (+ω_idl, +ω_idr, norm_ω^) (omega arith)
kind_norm T q x y = simp (+ω_idl, +ω_idr, norm_ω^) (omega arith)
kind_norm T† q x y = simp (+ω_idl, +ω_idr, norm_ω^) (omega arith)
kind_norm H q x y = simp (ω^_zero, ω^_four) (omega (arith, norm_parallelogram x y))

-- CX exchanges the outputs of a pair where a is 1: their values add up to the same
pub cx_pair : (a b : ℕ) (f : ℕ → ℕ) (w : ℕ) → a ≢ b →
    (let g : ℕ → ℕ = λ v. f (put b (xor (bit a v) (bit b v)) v) in
    g (put b false w) + g (put b true w) ≡ 1 * (f (put b false w) + f (put b true w)))
cx_pair a b f w ne = simp (bit_put_same, bit_put_other, put_put_same) (go (bit a w))
  where
    go : (t : Bool) → f (put b (xor t false) w) + f (put b (xor t true) w) ≡ 1 * (f (put b false w) + f (put b true w))
    go true = unfold xor in omega arith
    go false = unfold xor in omega arith

-- CX keeps the sum of the sizes
pub cx_norm : (n a b : ℕ) (ψ : State) → b < n → a ≢ b → total n (λ w. norm (apply (two CX a b) ψ w)) ≡ 1 * total n (λ w. norm (ψ w))
unfolding apply
cx_norm n a b ψ l ne = total_by_pairs n b 1 _ (λ w. norm (ψ w)) l (λ w. cx_pair a b (λ v. norm (ψ v)) w ne)

-- CZ changes no size
pub cz_norm : (n a b : ℕ) (ψ : State) → total n (λ w. norm (apply (two CZ a b) ψ w)) ≡ 1 * total n (λ w. norm (ψ w))
unfolding apply
cz_norm n a b ψ = total_cong n _ _ (λ w l. go (bit a w && bit b w) (ψ w)) ∙ sym (one-mul _)
  where
    go : (t : Bool) (x : Zω) → norm (cond t (ω^ 4 x) x) ≡ norm x
    go true x = norm_ω^ 4 x
    go false x = refl

-- SWAP is three CX gates
pub swap_cx : (a b : ℕ) (ψ : State) → a ≢ b → apply (two SWAP a b) ψ ≡ apply (two CX a b) (apply (two CX b a) (apply (two CX a b) ψ))
unfolding apply
swap_cx a b ψ ne =
    let en : b ≡ a → ⊥ = λ e. ne (sym e) in
    fun_ext (λ w. ap ψ (simp (bit_put_same, bit_put_other, around, behind) (rw (put_put_other b a) (simp put_put_same))))
  where
    around : (s t : Bool) → xor (xor s t) s ≡ t
    around s t = xor_comm (xor s t) s ∙ xor_cancel s t

    behind : (s t : Bool) → xor t (xor s t) ≡ s
    behind s t = ap (xor t) (xor_comm s t) ∙ xor_cancel t s

-- running a gate multiplies the sum of the sizes by 2 for H, and keeps it otherwise
pub apply_norm : (n : ℕ) (g : Gate) (ψ : State) → Within n g →
    total n (λ w. norm (apply g ψ w)) ≡ 2 ^ is_h g * total n (λ w. norm (ψ w))
apply_norm n (one u q) ψ l =
    total_by_pairs n q (2 ^ is_h (one u q)) _ (λ w. norm (ψ w)) l
    (λ w. simp apply_one (kind_norm u q (ψ (put q false w)) (ψ (put q true w))))
apply_norm n (two CX a b) ψ l = cx_norm n a b ψ l.1 l.2
apply_norm n (two CZ a b) ψ l = cz_norm n a b ψ
apply_norm n (two SWAP a b) ψ l =
    rw (swap_cx a b ψ l.2)
    (omega (
      arith,
      cx_norm n a b ψ l.1 l.2,
      cx_norm n b a (apply (two CX a b) ψ) l.0 (λ e. l.2 (sym e)),
      cx_norm n a b (apply (two CX b a) (apply (two CX a b) ψ)) l.1 l.2,
    ))

-- running a list multiplies the sum of the sizes by 2 once for each H gate
pub run_norm : (n : ℕ) (gs : List Gate) (ψ : State) → AllWithin n gs →
    total n (λ w. norm (run gs ψ w)) ≡ 2 ^ h_gates gs * total n (λ w. norm (ψ w))
unfolding run tally
run_norm n [] ψ l = sym (one-mul _)
run_norm n (g ∷ gs) ψ l =
    run_norm n gs (apply g ψ) l.1 ∙ ap (λ s. 2 ^ h_gates gs * s) (apply_norm n g ψ l.0)
    ∙ mul_left_comm (2 ^ h_gates gs) (2 ^ is_h g) _ ∙ sym (mul_assoc (2 ^ is_h g) (2 ^ h_gates gs) _)
    ∙ ap (λ k. k * total n (λ w. norm (ψ w))) (sym (pow-add 2 (is_h g) (h_gates gs)))

-- the sizes of a column add up to 2^h, h the number of H gates
pub column_norm : (n : ℕ) (gs : List Gate) (v : ℕ) → AllWithin n gs → v < 2 ^ n → total n (λ w. norm (column gs v w)) ≡ 2 ^ h_gates gs
unfolding column basis
column_norm n gs v l m = run_norm n gs (basis v) l ∙ ap (λ s. 2 ^ h_gates gs * s) start ∙ mul-one (2 ^ h_gates gs)
  where
    go : (t : Bool) → norm (cond t 1ω 0ω) ≡ cond t 1 0
    go true = norm_1ω
    go false = norm_0ω

    start : total n (λ w. norm (basis v w)) ≡ 1
    start = total_cong n _ _ (λ w k. go (eqb v w)) ∙ total_one n v 1 m

-- a column is not 0 everywhere
pub column_nonzero : (n : ℕ) (gs : List Gate) (v : ℕ) → AllWithin n gs → v < 2 ^ n → ((w : ℕ) → w < 2 ^ n → column gs v w ≡ 0ω) → ⊥
column_nonzero n gs v l m h =
    let none : total n (λ w. norm (column gs v w)) ≡ 0 = total_cong n _ _ (λ w k. ap norm (h w k) ∙ norm_0ω) ∙ total_zero n in
    omega (arith, column_norm n gs v l m, pow_pos (h_gates gs))
