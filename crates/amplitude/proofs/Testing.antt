-- The tests of specs/Testing.antt pass exactly where what they test for holds.
-- Assumes nothing.
use mathlib.Core.Path.{◌≡◌, refl, ap, subst}
use mathlib.Core.Logic.{◌↔◌}
use mathlib.Core.Bool.{Bool, true, ◌&&◌, false≢true, and-eq-true_iff}
use mathlib.Core.List.{List}
use Prim.Native.Nat.{ℕ, zero, suc, ◌^◌, ◌<◌}
use native.Mathlib.Omega.{arith}
use lib.IntN.{ℤ, pos, negsuc}
use borrow.Author.Tests.{eqb-true, eq-eqb}
use borrow.Author.Count.{below_more}
use Rattle.record_format.specs.Gate.{Gate}
use Rattle.amplitude.specs.Number.{Zω, ω^}
use Rattle.amplitude.specs.Circuit.{State, Fits}
use Rattle.amplitude.specs.Testing.{eq_ℤ, eqω, below, carries_state, fits_column}
use Rattle.amplitude.proofs.NumberLaws.{zω≡}

-- whole numbers that compare as equal are equal
pub eq_ℤ_true : (m n : ℤ) → eq_ℤ m n ≡ true → m ≡ n
unfolding eq_ℤ
eq_ℤ_true (pos m) (pos n) h = ap pos (eqb-true m n h)
eq_ℤ_true (pos m) (negsuc n) h = absurd (false≢true h)
eq_ℤ_true (negsuc m) (pos n) h = absurd (false≢true h)
eq_ℤ_true (negsuc m) (negsuc n) h = ap negsuc (eqb-true m n h)

-- a whole number compares as equal to itself
pub eq_ℤ_same : (n : ℤ) → eq_ℤ n n ≡ true
unfolding eq_ℤ
eq_ℤ_same (pos n) = eq-eqb n n refl
eq_ℤ_same (negsuc n) = eq-eqb n n refl

-- numbers that compare as equal are equal
pub eqω_true : (x y : Zω) → eqω x y ≡ true → x ≡ y
unfolding eqω
eqω_true x y h =
    let halves = (and-eq-true_iff (eq_ℤ x.a y.a && eq_ℤ x.b y.b) (eq_ℤ x.c y.c && eq_ℤ x.d y.d)).0 h in
    let ab = (and-eq-true_iff (eq_ℤ x.a y.a) (eq_ℤ x.b y.b)).0 halves.0 in
    let cd = (and-eq-true_iff (eq_ℤ x.c y.c) (eq_ℤ x.d y.d)).0 halves.1 in
    zω≡ (eq_ℤ_true x.a y.a ab.0) (eq_ℤ_true x.b y.b ab.1)
    (eq_ℤ_true x.c y.c cd.0) (eq_ℤ_true x.d y.d cd.1)

-- a number compares as equal to itself
pub eqω_same : (x : Zω) → eqω x x ≡ true
unfolding eqω
eqω_same x = rw (eq_ℤ_same x.a, eq_ℤ_same x.b, eq_ℤ_same x.c, eq_ℤ_same x.d)

-- a test that passes below m passes at each number there
pub below_true : (m : ℕ) (test : ℕ → Bool) → below m test ≡ true → (v : ℕ) → v < m → test v ≡ true
unfolding below
below_true zero test h v l = absurd (omega arith)
below_true (suc m) test h v l =
    let parts = (and-eq-true_iff (below m test) (test m)).0 h in
    below_more (λ u. test u ≡ true) m (below_true m test parts.0) parts.1 v (omega arith)

-- and one that passes at each passes below m
pub below_pass : (m : ℕ) (test : ℕ → Bool) → ((v : ℕ) → v < m → test v ≡ true) → below m test ≡ true
unfolding below
below_pass zero test h = refl
below_pass (suc m) test h = rw (below_pass m test (λ v l. h v (omega arith)), h m (omega arith))

-- where the test of two states passes, ω^j carries every amplitude
pub carries_true : (n j : ℕ) (φ ψ : State) → carries_state n j φ ψ ≡ true → (w : ℕ) → w < 2 ^ n → ω^ j (φ w) ≡ ψ w
unfolding carries_state
carries_true n j φ ψ h w l = eqω_true (ω^ j (φ w)) (ψ w) (below_true (2 ^ n) (λ u. eqω (ω^ j (φ u)) (ψ u)) h w l)

-- and where it carries every amplitude, the test passes
pub carries_pass : (n j : ℕ) (φ ψ : State) → ((w : ℕ) → w < 2 ^ n → ω^ j (φ w) ≡ ψ w) → carries_state n j φ ψ ≡ true
unfolding carries_state
carries_pass n j φ ψ h =
    below_pass (2 ^ n) (λ u. eqω (ω^ j (φ u)) (ψ u))
    (λ w l. subst (λ z. eqω (ω^ j (φ w)) z ≡ true) (h w l) (eqω_same (ω^ j (φ w))))

-- the test of column v passes exactly where ω^j carries it
pub fits_tested : (n j : ℕ) (first second : List Gate) (v : ℕ) → (fits_column n j first second v ≡ true) ↔ Fits n j first second v
fits_tested n j first second v = (carries_true n j _ _, carries_pass n j _ _)
