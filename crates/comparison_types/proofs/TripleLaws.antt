-- The phase at three qubits, where at each of them and at each two it is that at input 0: it differs exactly if an odd number of terms
-- of odd coefficient hold all three, and the exclusive or of the sets of those that hold two of the qubits shows that for every third.
-- So where no coefficient is odd, no input of weight 3 differs.
-- Assumes nothing.
use mathlib.Core.Path.{◌≡◌, refl, sym, ◌∙◌}
use mathlib.Core.Logic.{⊎_elim}
use Prim.Native.Nat.{ℕ, suc, ◌+◌, ◌*◌, ◌/◌, ◌%◌, ◌^◌, ◌<◌}
use native.Mathlib.Nat.{zero-add, add-zero, add_assoc, lt_trans, eq-or-lt_of_le, pow-succ'}
use native.Mathlib.Omega.{arith}
use mathlib.Core.Bool.{Bool, true, false, cond}
use mathlib.Core.List.{List, [], ◌∷◌}
use mathlib.Core.Option.{none}
use lib.Dec.{eqb}
use lib.Pow.{pow-lt}
use borrow.Author.Tests.{eqb-true, eqb-false, eq-eqb, ne_eqb, not-false}
use Rattle.amplitude.specs.Bits.{bit}
use Rattle.amplitude.proofs.BitLaws.{bit_zero}
use Rattle.phase_sum_meaning.specs.Phase.{Term, Phase, sum_at, phase_at}
use Rattle.phase_sum_meaning.specs.Stepping.{coeffs}
use Rattle.phase_sum_meaning.proofs.SetLaws.{sum_bit, bit-△, △_idl}
use Rattle.phase_sum_types.specs.Inner.{OddMask, odd_both}
use Rattle.phase_sum_types.proofs.Passes.{odd_bit, odd_both_none}
use Rattle.comparison_meaning.specs.Verdict.{weight, first_differing}
use Rattle.comparison_meaning.proofs.Weight.{holding, sum_zero, sum_with, sum_alone}
use Rattle.comparison_types.specs.Inner.{AgreesToTwo}
use Rattle.comparison_types.proofs.SearchLaws.{differing, beside_none, pass_itself, passed_itself, pass_each, passed_each}

-- a coefficient that counts for k is odd where the set of the odd term holds k
odd_share : (k s c : ℕ) → eqb (cond (bit k s) c 0 % 2) 1 ≡ bit k (cond (eqb (c % 2) 1) s 0)
odd_share k s c = go (bit k s) ∙ odd_bit k s (eqb (c % 2) 1)
  where
    go : (b : Bool) → eqb (cond b c 0 % 2) 1 ≡ cond b (eqb (c % 2) 1) false
    go true = refl
    go false = refl

-- the coefficients of the terms that hold i, j and k add up to an odd number where the exclusive or of those that hold i and j holds k
odd_together : (i j k : ℕ) (ts : List Term) → eqb (coeffs k (holding j (holding i ts)) % 2) 1 ≡ bit k (odd_both i j ts)
unfolding coeffs holding odd_both
odd_together i j k [] = sym (bit_zero k)
odd_together i j k (t ∷ ts) = go (odd_together i j k ts) (bit i t.set) refl (bit j t.set) refl
  where
    go :
        eqb (coeffs k (holding j (holding i ts)) % 2) 1 ≡ bit k (odd_both i j ts)
        → (a : Bool)
        → bit i t.set ≡ a
        → (b : Bool)
        → bit j t.set ≡ b
        → eqb (coeffs k (holding j (holding i (t ∷ ts))) % 2) 1 ≡ bit k (odd_both i j (t ∷ ts))
    go ih true e true f =
        rw (e, f, bit-△, ← ih, ← odd_share k t.set t.coeff)
        (sum_bit (cond (bit k t.set) t.coeff 0) (coeffs k (holding j (holding i ts))))
    go ih true e false f = rw (e, f, △_idl) ih
    go ih false e b f = rw (e, △_idl) ih

-- the phase is that at input 0 where the terms add a multiple of 8
same_multiple : (φ : Phase) (v : ℕ) → differing φ v ≡ false → sum_at φ.terms v ≡ 8 * (sum_at φ.terms v / 8)
unfolding phase_at
same_multiple φ v h =
    let same : phase_at φ v % 8 ≡ phase_at φ 0 % 8 = eqb-true _ _ (not-false _ h) in
    omega (arith, same, sum_zero φ.terms)

-- where they add a multiple of 8 and four times m, it differs if m is odd
differs_if_odd : (φ : Phase) (v m : ℕ) → sum_at φ.terms v % 8 ≡ 4 * (m % 2) → differing φ v ≡ eqb (m % 2) 1
unfolding phase_at
differs_if_odd φ v m h = go (eqb (m % 2) 1) refl
  where
    go : (b : Bool) → eqb (m % 2) 1 ≡ b → differing φ v ≡ eqb (m % 2) 1
    go true e = rw (e, ne_eqb (phase_at φ v % 8) (phase_at φ 0 % 8) (omega (arith, h, eqb-true (m % 2) 1 e, sum_zero φ.terms)))
    go false e = rw (e, eq-eqb (phase_at φ v % 8) (phase_at φ 0 % 8) (omega (arith, h, eqb-false (m % 2) 1 e, sum_zero φ.terms)))

-- what is left of a multiple of 8 and four times m
rest_of_four : (x a b m : ℕ) → x + 8 * a ≡ 8 * b + 4 * m → x % 8 ≡ 4 * (m % 2)
rest_of_four x a b m e = omega arith

-- two lower qubits stay below a third
two_below : {i j k : ℕ} → k < j → j < i → 2 ^ j + 2 ^ k < 2 ^ i
two_below {i} {j} {k} kj ji =
    let low : 2 ^ j + 2 ^ k < 2 ^ suc j = omega (arith, pow-lt kj, pow-succ' 2 j) in
    ⊎_elim (λ e. rw e at low) (λ l. lt_trans low (pow-lt l)) (eq-or-lt_of_le ji)

-- at three qubits the terms add what they add at each two, less what at each one, and four times the coefficients that hold all three
sum_three :
    {i j k : ℕ} (ts : List Term)
    → k < j
    → j < i
    → sum_at ts (2 ^ i + (2 ^ j + 2 ^ k)) + (sum_at ts (2 ^ i) + sum_at ts (2 ^ j) + sum_at ts (2 ^ k))
    ≡ sum_at ts (2 ^ i + 2 ^ j) + sum_at ts (2 ^ i + 2 ^ k) + sum_at ts (2 ^ j + 2 ^ k) + 4 * coeffs k (holding j (holding i ts))
sum_three {i} {j} {k} ts kj ji =
    omega (
      arith,
      sum_with i (2 ^ j + 2 ^ k) ts (two_below kj ji),
      sum_with i (2 ^ j) ts (pow-lt ji),
      sum_with i (2 ^ k) ts (pow-lt (lt_trans kj ji)),
      sum_with j (2 ^ k) (holding i ts) (pow-lt kj),
      alone i ts,
      alone j (holding i ts),
      alone k (holding j (holding i ts)),
    )
  where
    alone : (q : ℕ) (us : List Term) → sum_at us (2 ^ q) ≡ coeffs q us
    alone q us = rw add-zero at (sum_alone q us)

-- a set holds just those qubits below j which, beside those of w, make an input that differs
abbrev pub Shows : Phase → ℕ → ℕ → ℕ → Type 0
Shows φ w j s = (k u : ℕ) → k < j → u ≡ w + 2 ^ k → differing φ u ≡ bit k s

-- no input of weight 1 or 2 differs
module _ (φ : Phase) (n : ℕ) (agrees : AgreesToTwo φ n) where
  -- not that with qubit i alone
  one_same : (i : ℕ) → i < n → differing φ (2 ^ i) ≡ false
  one_same i l =
      passed_itself φ (2 ^ i) i (rw zero-add at (passed_each φ 0 0 n i l (beside_none φ 1 n ∙ agrees.0)))

  -- nor that with qubits i and j
  two_same : (i j : ℕ) → j < i → i < n → differing φ (2 ^ i + 2 ^ j) ≡ false
  two_same i j ji l =
      passed_itself φ (2 ^ i + 2 ^ j) j
      (passed_each φ (2 ^ i) 0 i j ji (rw zero-add at (passed_each φ 0 1 n i l (beside_none φ 2 n ∙ agrees.1))))

  -- with i, j and k one differs where the exclusive or of the odd terms that hold i and j holds k
  three_differs :
      (i j k : ℕ) → k < j → j < i → i < n → differing φ (2 ^ i + 2 ^ j + 2 ^ k) ≡ bit k (odd_both i j φ.terms)
  three_differs i j k kj ji l =
      let ts : List Term = φ.terms in
      let one : (q : ℕ) → q < n → sum_at ts (2 ^ q) ≡ 8 * (sum_at ts (2 ^ q) / 8) = λ q m. same_multiple φ (2 ^ q) (one_same q m) in
      let two : (p q : ℕ) → q < p → p < n → sum_at ts (2 ^ p + 2 ^ q) ≡ 8 * (sum_at ts (2 ^ p + 2 ^ q) / 8) =
      λ p q m o. same_multiple φ (2 ^ p + 2 ^ q) (two_same p q m o) in
      let left : sum_at ts (2 ^ i + (2 ^ j + 2 ^ k)) % 8 ≡ 4 * (coeffs k (holding j (holding i ts)) % 2) =
      rest_of_four _ (sum_at ts (2 ^ i) / 8 + sum_at ts (2 ^ j) / 8 + sum_at ts (2 ^ k) / 8)
      (sum_at ts (2 ^ i + 2 ^ j) / 8 + sum_at ts (2 ^ i + 2 ^ k) / 8 + sum_at ts (2 ^ j + 2 ^ k) / 8) _
      (omega (
        arith,
        sum_three ts kj ji,
        one i l,
        one j (lt_trans ji l),
        one k (lt_trans kj (lt_trans ji l)),
        two i j ji l,
        two i k (lt_trans kj ji) l,
        two j k kj (lt_trans ji l),
      )) in
      rw add_assoc (differs_if_odd φ _ _ left) ∙ odd_together i j k ts

  -- which shows it for every k below j
  pub shows_three : (i j w s : ℕ) → j < i → i < n → w ≡ 2 ^ i + 2 ^ j → s ≡ odd_both i j φ.terms → Shows φ w j s
  shows_three i j w s ji l e f k u kj g = rw (g, e, f) (three_differs i j k kj ji l)

  -- so none of weight 3 differs where no variable is in a term of odd coefficient
  pub none_of_three :
      (mask : ℕ) → mask ≡ 0 → OddMask mask φ.terms → none ≡ first_differing φ (weight 0 3 n)
  none_of_three mask z odd =
      sym
      (pass_each φ 0 2 n (λ i l.
      rw zero-add
      (pass_each φ (2 ^ i) 1 i (λ j ji.
      pass_each φ (2 ^ i + 2 ^ j) 0 j (λ k kj.
      pass_itself φ (2 ^ i + 2 ^ j + 2 ^ k) k
      (three_differs i j k kj ji l
      ∙ rw (odd_both_none i j φ.terms (rw (← odd i, z, bit_zero i))) (bit_zero k)))))))
      ∙ beside_none φ 3 n
