-- The numbers a + bω + cω² + dω³ under addition, multiplication by ω and multiplication by √2: a commutative group, on which
-- both multiplications act and lose nothing. A number that ω^k leaves as it is, k no multiple of 8, is 0.
-- Assumes nothing.
use mathlib.Core.Path.{◌≡◌, refl, sym, ◌∙◌, ap}
use Prim.Native.Nat.{ℕ, zero, suc, ◌+◌, ◌*◌, ◌-◌, ◌/◌, ◌%◌}
use native.Mathlib.Nat.{zero-add, add_comm, suc-add}
use native.Mathlib.Decide.{ℕ_discrete}
use native.Mathlib.Omega.{arith}
use lib.IntN.{ℤ, pos, negsuc, nat_abs, pos-ne-negsuc, ◌+ℤ◌, +ℤ_comm, +ℤ_assoc, +ℤ_idl, +ℤ_invr, neg_ℤ-+ℤ, neg_ℤ-neg_ℤ}
use Rattle.amplitude.specs.Number.{Zω, whole, 0ω, ◌+ω◌, neg, mulω, ω^, mul√2, √2^}

-- numbers are equal where their four coefficients are
pub zω≡ : {x y : Zω} → x.a ≡ y.a → x.b ≡ y.b → x.c ≡ y.c → x.d ≡ y.d → x ≡ y
zω≡ p q r s = λ i. record { a = p i; b = q i; c = r i; d = s i }

-- addition commutes
pub +ω_comm : (x y : Zω) → x +ω y ≡ y +ω x
unfolding ◌+ω◌
+ω_comm x y = zω≡ (+ℤ_comm x.a y.a) (+ℤ_comm x.b y.b) (+ℤ_comm x.c y.c) (+ℤ_comm x.d y.d)

-- addition associates
pub +ω_assoc : (x y z : Zω) → (x +ω y) +ω z ≡ x +ω (y +ω z)
unfolding ◌+ω◌
+ω_assoc x y z = zω≡ (search +ℤ_assoc) (search +ℤ_assoc) (search +ℤ_assoc) (search +ℤ_assoc)

-- 0 on the left of a sum
pub +ω_idl : (x : Zω) → 0ω +ω x ≡ x
unfolding ◌+ω◌ 0ω whole
+ω_idl x = zω≡ (+ℤ_idl x.a) (+ℤ_idl x.b) (+ℤ_idl x.c) (+ℤ_idl x.d)

-- 0 on the right of a sum
pub +ω_idr : (x : Zω) → x +ω 0ω ≡ x
+ω_idr x = +ω_comm x 0ω ∙ +ω_idl x

-- a number and its negative cancel
pub +ω_invr : (x : Zω) → x +ω neg x ≡ 0ω
unfolding ◌+ω◌ neg 0ω whole
+ω_invr x = zω≡ (+ℤ_invr x.a) (+ℤ_invr x.b) (+ℤ_invr x.c) (+ℤ_invr x.d)

-- the middle two of four summands exchanged
pub +ω_swap : (x y z t : Zω) → (x +ω y) +ω (z +ω t) ≡ (x +ω z) +ω (y +ω t)
+ω_swap x y z t =
    +ω_assoc x y (z +ω t)
    ∙ ap (λ u. x +ω u) (sym (+ω_assoc y z t) ∙ ap (λ u. u +ω t) (+ω_comm y z) ∙ +ω_assoc z y t)
    ∙ sym (+ω_assoc x z (y +ω t))

-- the negative of a sum
pub neg-+ω : (x y : Zω) → neg (x +ω y) ≡ neg x +ω neg y
unfolding ◌+ω◌ neg
neg-+ω x y = zω≡ (neg_ℤ-+ℤ x.a y.a) (neg_ℤ-+ℤ x.b y.b) (neg_ℤ-+ℤ x.c y.c) (neg_ℤ-+ℤ x.d y.d)

-- twice negated
pub neg-neg : (x : Zω) → neg (neg x) ≡ x
unfolding neg
neg-neg x = zω≡ (neg_ℤ-neg_ℤ x.a) (neg_ℤ-neg_ℤ x.b) (neg_ℤ-neg_ℤ x.c) (neg_ℤ-neg_ℤ x.d)

-- 0 negated
pub neg-0ω : neg 0ω ≡ 0ω
unfolding neg 0ω whole
neg-0ω = refl

-- ω times a sum
pub mulω-+ω : (x y : Zω) → mulω (x +ω y) ≡ mulω x +ω mulω y
unfolding ◌+ω◌ mulω
mulω-+ω x y = zω≡ (neg_ℤ-+ℤ x.d y.d) refl refl refl

-- ω times 0
pub mulω-0ω : mulω 0ω ≡ 0ω
unfolding mulω 0ω whole
mulω-0ω = refl

-- ω times a negative
pub mulω-neg : (x : Zω) → mulω (neg x) ≡ neg (mulω x)
unfolding mulω neg
mulω-neg x = refl

-- ω^k times a sum
pub ω^-+ω : (k : ℕ) (x y : Zω) → ω^ k (x +ω y) ≡ ω^ k x +ω ω^ k y
unfolding ω^
ω^-+ω zero x y = refl
ω^-+ω (suc k) x y = ap mulω (ω^-+ω k x y) ∙ mulω-+ω (ω^ k x) (ω^ k y)

-- ω^k times 0
pub ω^-0ω : (k : ℕ) → ω^ k 0ω ≡ 0ω
unfolding ω^
ω^-0ω zero = refl
ω^-0ω (suc k) = ap mulω (ω^-0ω k) ∙ mulω-0ω

-- ω^k times a negative
pub ω^-neg : (k : ℕ) (x : Zω) → ω^ k (neg x) ≡ neg (ω^ k x)
unfolding ω^
ω^-neg zero x = refl
ω^-neg (suc k) x = ap mulω (ω^-neg k x) ∙ mulω-neg (ω^ k x)

-- exponents of ω add
pub ω^-add : (j k : ℕ) (x : Zω) → ω^ (j + k) x ≡ ω^ j (ω^ k x)
unfolding ω^
ω^-add zero k x = ap (λ m. ω^ m x) (zero-add k)
ω^-add (suc j) k x = ap (λ m. ω^ m x) (suc-add j k) ∙ ap mulω (ω^-add j k x)

-- powers of ω commute
pub ω^_comm : (j k : ℕ) (x : Zω) → ω^ j (ω^ k x) ≡ ω^ k (ω^ j x)
ω^_comm j k x = sym (ω^-add j k x) ∙ ap (λ m. ω^ m x) (add_comm j k) ∙ ω^-add k j x

-- ω⁴ = −1
pub ω^_four : (x : Zω) → ω^ 4 x ≡ neg x
unfolding ω^ mulω neg
ω^_four x = refl

-- ω⁸ = 1
pub ω^_eight : (x : Zω) → ω^ 8 x ≡ x
ω^_eight x = ω^-add 4 4 x ∙ ω^_four (ω^ 4 x) ∙ ap neg (ω^_four x) ∙ neg-neg x

-- ω to a multiple of 8 is 1
ω^_turns : (m : ℕ) (x : Zω) → ω^ (m * 8) x ≡ x
unfolding ω^
ω^_turns zero x = refl
ω^_turns (suc m) x = ap (λ n. ω^ n x) more ∙ ω^-add 8 (m * 8) x ∙ ω^_eight (ω^ (m * 8) x) ∙ ω^_turns m x
  where
    more : suc m * 8 ≡ 8 + m * 8
    more = omega arith

-- exponents of ω count modulo 8
pub ω^-mod : (k : ℕ) (x : Zω) → ω^ (k % 8) x ≡ ω^ k x
ω^-mod k x = sym (ap (λ m. ω^ m x) parts ∙ ω^-add (k % 8) (k / 8 * 8) x ∙ ap (ω^ (k % 8)) (ω^_turns (k / 8) x))
  where
    parts : k ≡ k % 8 + k / 8 * 8
    parts = omega arith

-- so exponents that agree modulo 8 give one power
pub ω^_cong : (j k : ℕ) (x : Zω) → j % 8 ≡ k % 8 → ω^ j x ≡ ω^ k x
ω^_cong j k x h = sym (ω^-mod j x) ∙ ap (λ m. ω^ m x) h ∙ ω^-mod k x

-- ω^(8 − k), k taken modulo 8, undoes ω^k
pub ω^_undo : (k : ℕ) (x : Zω) → ω^ ((8 - k % 8) % 8) (ω^ k x) ≡ x
unfolding ω^
ω^_undo k x = sym (ω^-add ((8 - k % 8) % 8) k x) ∙ ω^_cong ((8 - k % 8) % 8 + k) 0 x turns
  where
    turns : ((8 - k % 8) % 8 + k) % 8 ≡ 0 % 8
    turns = omega arith

-- √2 times a sum
pub mul√2-+ω : (x y : Zω) → mul√2 (x +ω y) ≡ mul√2 x +ω mul√2 y
unfolding mul√2
mul√2-+ω x y = simp (ω^-+ω, neg-+ω) (+ω_swap (ω^ 1 x) (ω^ 1 y) (neg (ω^ 3 x)) (neg (ω^ 3 y)))

-- √2 times 0
pub mul√2-0ω : mul√2 0ω ≡ 0ω
unfolding mul√2
mul√2-0ω = simp (ω^-0ω, neg-0ω, +ω_idl)

-- √2√2 = 2
pub mul√2_twice : (x : Zω) → mul√2 (mul√2 x) ≡ x +ω x
unfolding mul√2
mul√2_twice x =
    simp (ω^-+ω, ω^-neg, neg-+ω, ← ω^-add, ω^_four, neg-neg)
    (ap (λ u. (ω^ 2 x +ω x) +ω u) (+ω_comm x (ω^ 6 x))
    ∙ +ω_swap (ω^ 2 x) x (ω^ 6 x) x
    ∙ ap (λ u. (ω^ 2 x +ω u) +ω (x +ω x)) (ω^-add 4 2 x ∙ ω^_four (ω^ 2 x))
    ∙ ap (λ u. u +ω (x +ω x)) (+ω_invr (ω^ 2 x))
    ∙ +ω_idl (x +ω x))

-- √2 to a power, times a sum
pub √2^-+ω : (k : ℕ) (x y : Zω) → √2^ k (x +ω y) ≡ √2^ k x +ω √2^ k y
unfolding √2^
√2^-+ω zero x y = refl
√2^-+ω (suc k) x y = ap mul√2 (√2^-+ω k x y) ∙ mul√2-+ω (√2^ k x) (√2^ k y)

-- √2 to a power, times 0
pub √2^-0ω : (k : ℕ) → √2^ k 0ω ≡ 0ω
unfolding √2^
√2^-0ω zero = refl
√2^-0ω (suc k) = ap mul√2 (√2^-0ω k) ∙ mul√2-0ω

-- √2 times a power of ω
pub mul√2-ω^ : (k : ℕ) (x : Zω) → mul√2 (ω^ k x) ≡ ω^ k (mul√2 x)
unfolding mul√2
mul√2-ω^ k x = rw (ω^-+ω, ω^-neg, ω^_comm 1 k x, ω^_comm 3 k x)

-- powers of √2 and of ω commute
pub √2^-ω^ : (j k : ℕ) (x : Zω) → √2^ j (ω^ k x) ≡ ω^ k (√2^ j x)
unfolding √2^
√2^-ω^ zero k x = refl
√2^-ω^ (suc j) k x = ap mul√2 (√2^-ω^ j k x) ∙ mul√2-ω^ k (√2^ j x)

-- exponents of √2 add
pub √2^-add : (j k : ℕ) (x : Zω) → √2^ (j + k) x ≡ √2^ j (√2^ k x)
unfolding √2^
√2^-add zero k x = ap (λ m. √2^ m x) (zero-add k)
√2^-add (suc j) k x = ap (λ m. √2^ m x) (suc-add j k) ∙ ap mul√2 (√2^-add j k x)

-- whole numbers are equal where their doubles are
double_ℤ : (m n : ℤ) → m +ℤ m ≡ n +ℤ n → m ≡ n
double_ℤ (pos m) (pos n) h =
    let e : m + m ≡ n + n = ap nat_abs h in
    let half : m ≡ n = omega arith in
    ap pos half
double_ℤ (pos m) (negsuc n) h = absurd (pos-ne-negsuc _ _ h)
double_ℤ (negsuc m) (pos n) h = absurd (pos-ne-negsuc _ _ (sym h))
double_ℤ (negsuc m) (negsuc n) h =
    let e : suc (suc (m + m)) ≡ suc (suc (n + n)) = ap nat_abs h in
    let half : m ≡ n = omega arith in
    ap negsuc half

-- a double determines the number
pub double_cancel : (x y : Zω) → x +ω x ≡ y +ω y → x ≡ y
unfolding ◌+ω◌
double_cancel x y h =
    zω≡ (double_ℤ x.a y.a (ap (λ z. z.a) h)) (double_ℤ x.b y.b (ap (λ z. z.b) h))
    (double_ℤ x.c y.c (ap (λ z. z.c) h)) (double_ℤ x.d y.d (ap (λ z. z.d) h))

-- a power of √2 cancels
pub √2^_cancel : (k : ℕ) (x y : Zω) → √2^ k x ≡ √2^ k y → x ≡ y
unfolding √2^
√2^_cancel zero x y h = h
√2^_cancel (suc k) x y h =
    √2^_cancel k x y
    (double_cancel (√2^ k x) (√2^ k y) (sym (mul√2_twice (√2^ k x)) ∙ ap mul√2 h ∙ mul√2_twice (√2^ k y)))

-- a number that ω^k leaves as it is, k 4 modulo 8, is its own negative, so 0
own_negative : (k : ℕ) (z : Zω) → k % 8 ≡ 4 → ω^ k z ≡ z → z ≡ 0ω
own_negative k z four h =
    double_cancel z 0ω (ap (λ u. z +ω u) (sym h ∙ ω^_cong k 4 z four ∙ ω^_four z) ∙ +ω_invr z ∙ sym (+ω_idl 0ω))

-- what ω^k leaves as it is, ω^(2k) leaves too
ω^_square : (k : ℕ) (z : Zω) → ω^ k z ≡ z → ω^ (k + k) z ≡ z
ω^_square k z h = ω^-add k k z ∙ ap (ω^ k) h ∙ h

-- a number that ω^k leaves as it is, k no multiple of 8, is 0: one of k, 2k and 4k is 4 modulo 8, and ω⁴ = −1
pub ω^_fixes : (k : ℕ) (z : Zω) → (k % 8 ≡ 0 → ⊥) → ω^ k z ≡ z → z ≡ 0ω
ω^_fixes k z part h = pick (ℕ_discrete (k % 2) 1) (ℕ_discrete (k % 4) 2)
  where
    pick : Dec (k % 2 ≡ 1) → Dec (k % 4 ≡ 2) → z ≡ 0ω
    pick (yes odd) two = own_negative (k + k + (k + k)) z (omega arith) (ω^_square (k + k) z (ω^_square k z h))
    pick (no even) (yes two) = own_negative (k + k) z (omega arith) (ω^_square k z h)
    pick (no even) (no four) = own_negative k z (omega arith) h

-- a number other than 0 tells powers of ω apart
pub ω^_unique : (j k : ℕ) (z : Zω) → (z ≡ 0ω → ⊥) → ω^ j z ≡ ω^ k z → j % 8 ≡ k % 8
ω^_unique j k z some h = pick (ℕ_discrete ((back + j) % 8) 0)
  where
    back : ℕ
    back = (8 - k % 8) % 8

    pick : Dec ((back + j) % 8 ≡ 0) → j % 8 ≡ k % 8
    pick (yes turns) = omega arith
    pick (no part) = absurd (some (ω^_fixes (back + j) z part (ω^-add back j z ∙ ap (ω^ back) h ∙ ω^_undo k z)))
