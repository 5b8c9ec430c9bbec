-- The canonical form of terms: every way to add a term keeps it, and terms in it are known by the coefficient at each set.
-- Assumes nothing.
use mathlib.Core.Path.{◌≡◌, refl, sym, ◌∙◌, ap₂}
use mathlib.Core.Bool.{Bool, true, false, cond}
use mathlib.Core.List.{List, [], ◌∷◌}
use Prim.Native.Nat.{ℕ, ◌+◌, ◌%◌, ◌<◌, ◌≤◌, zero-le}
use native.Mathlib.Nat.{le_refl, add-zero}
use native.Mathlib.Omega.{arith}
use lib.Dec.{eqb, ltb}
use borrow.Author.Tests.{eqb-true, eqb-false, eq-eqb, ne_eqb, ltb-true, ltb-false}
use Rattle.phase_sum_meaning.specs.Parity.{Parity}
use Rattle.phase_sum_meaning.specs.Phase.{Term, term, Phase, minus, keep, merge, add_term, add_constant, add_phase, rebuild, CanonicalAbove, Canonical}
use Rattle.phase_sum_meaning.proofs.PhaseLaws.{keep_cases, merge_cases}

-- terms above a bound are above a lower one
pub above_lower : (b d : ℕ) (ts : List Term) → b ≤ d → CanonicalAbove d ts → CanonicalAbove b ts
above_lower b d [] l e = tt
above_lower b d (t ∷ ts) l e = (omega arith, e.1, e.2, e.3)

-- a term kept in front of larger ones
above_keep : (b s c : ℕ) (ts : List Term) → b < s → CanonicalAbove s ts → CanonicalAbove b (keep s c ts)
above_keep b s c ts l e =
    keep_cases (CanonicalAbove b) s c ts (λ z. above_lower b s ts (omega arith) e) (λ z. (l, omega arith, omega arith, e))

-- a term merged
above_merge : (b s c : ℕ) (ts : List Term) → b < s → CanonicalAbove b ts → CanonicalAbove b (merge s c ts)
unfolding merge
above_merge b s c [] l e = above_keep b s c [] l tt
above_merge b s c (t ∷ ts) l e =
    merge_cases
    (CanonicalAbove b)
    s
    c
    t
    ts
    (λ m. above_keep b s c (t ∷ ts) l (m, e.1, e.2, e.3))
    (λ q. above_keep b s (c + t.coeff) ts l (rw q e.3))
    (λ m. (e.0, e.1, e.2, above_merge t.set s c ts m e.3))

-- merging a term keeps the canonical form
pub canonical_merge : (s c : ℕ) (ts : List Term) → (s ≡ 0 → ⊥) → Canonical ts → Canonical (merge s c ts)
canonical_merge s c ts ne e = above_merge 0 s c ts (omega arith) e

-- so does adding a term
pub canonical_add_term : (s c : ℕ) (φ : Phase) → Canonical φ.terms → Canonical (add_term s c φ).terms
unfolding add_term
canonical_add_term s c φ e = go (eqb s 0) refl
  where
    go : (b : Bool) → eqb s 0 ≡ b → Canonical (add_term s c φ).terms
    go true h = rw h e
    go false h = rw h (canonical_merge s c φ.terms (eqb-false s 0 h) e)

-- so does adding a phase on a parity
pub canonical_add_phase : (c : ℕ) (p : Parity) (φ : Phase) → Canonical φ.terms → Canonical (add_phase c p φ).terms
unfolding add_phase add_constant
canonical_add_phase c p φ e = go p.flipped
  where
    go : (b : Bool) → Canonical (cond b (add_term p.vars (minus c) (add_constant c φ)) (add_term p.vars c φ)).terms
    go true = canonical_add_term p.vars (minus c) (add_constant c φ) e
    go false = canonical_add_term p.vars c φ e

-- rebuilt terms are in canonical form
pub canonical_rebuild : (f : ℕ → Parity) (k : ℕ) (ts : List Term) → Canonical (rebuild f k ts).terms
unfolding rebuild
canonical_rebuild f k [] = tt
canonical_rebuild f k (t ∷ ts) = canonical_add_phase t.coeff (f t.set) (rebuild f k ts) (canonical_rebuild f k ts)

-- the coefficient at a set, 0 where no term has the set
unfoldable pub coeff_of : ℕ → List Term → ℕ
coeff_of s [] = 0
coeff_of s (t ∷ ts) = cond (eqb s t.set) t.coeff (coeff_of s ts)

-- a set up to the bound has the coefficient 0
pub coeff_of_above : (s b : ℕ) (ts : List Term) → s ≤ b → CanonicalAbove b ts → coeff_of s ts ≡ 0
unfolding coeff_of
coeff_of_above s b [] l e = refl
coeff_of_above s b (t ∷ ts) l e =
    rw (ne_eqb s t.set (omega arith)) (coeff_of_above s t.set ts (omega arith) e.3)

-- the coefficients of a term kept in front of terms without its set
coeff_of_keep : (r s c : ℕ) (ts : List Term) → coeff_of s ts ≡ 0 → coeff_of r (keep s c ts) ≡ cond (eqb r s) (c % 8) (coeff_of r ts)
unfolding coeff_of
coeff_of_keep r s c ts e =
    keep_cases (λ us. coeff_of r us ≡ cond (eqb r s) (c % 8) (coeff_of r ts)) s c ts (λ z. go (eqb r s) refl z) (λ z. refl)
  where
    go : (b : Bool) → eqb r s ≡ b → c % 8 ≡ 0 → coeff_of r ts ≡ cond (eqb r s) (c % 8) (coeff_of r ts)
    go true h z = rw (h, z, eqb-true r s h) e
    go false h z = rw h

-- merging a term adds its coefficient at its set, mod 8, and changes no other
pub coeff_of_merge :
    (r s c : ℕ) (ts : List Term) → Canonical ts → coeff_of r (merge s c ts) ≡ cond (eqb r s) ((c + coeff_of s ts) % 8) (coeff_of r ts)
unfolding merge coeff_of
coeff_of_merge r s c [] e = rw add-zero (coeff_of_keep r s c [] refl)
coeff_of_merge r s c (t ∷ ts) e =
    merge_cases
    (λ us. coeff_of r us ≡ sum)
    s
    c
    t
    ts
    before
    (λ q. same (eqb r s) refl q)
    (λ l. rw (coeff_of_merge r s c ts (above_lower 0 t.set ts zero-le e.3)) (behind (eqb r t.set) refl l))
  where
    sum : ℕ
    sum = cond (eqb r s) ((c + coeff_of s (t ∷ ts)) % 8) (coeff_of r (t ∷ ts))

    before : s < t.set → coeff_of r (keep s c (t ∷ ts)) ≡ sum
    before l =
        let none : coeff_of s (t ∷ ts) ≡ 0 = coeff_of_above s s (t ∷ ts) (le_refl s) (l, e.1, e.2, e.3) in
        rw (none, add-zero) (coeff_of_keep r s c (t ∷ ts) none)

    same : (b : Bool) → eqb r s ≡ b → s ≡ t.set → coeff_of r (keep s (c + t.coeff) ts) ≡ sum
    same b h q =
        let none : coeff_of s ts ≡ 0 = coeff_of_above s t.set ts (omega arith) e.3 in
        rw (coeff_of_keep r s (c + t.coeff) ts none, eq-eqb s t.set q) (other b h)
      where
        other :
            (b : Bool) →
            eqb r s ≡ b →
            cond (eqb r s) ((c + t.coeff) % 8) (coeff_of r ts) ≡ cond (eqb r s) ((c + t.coeff) % 8) (coeff_of r (t ∷ ts))
        other true h = rw h
        other false h = rw (← q, h)

    behind :
        (b : Bool) →
        eqb r t.set ≡ b →
        t.set < s →
        cond (eqb r t.set) t.coeff (cond (eqb r s) ((c + coeff_of s ts) % 8) (coeff_of r ts)) ≡ sum
    behind true h l = rw (h, ne_eqb r s (omega (arith, eqb-true r t.set h)))
    behind false h l = rw (h, ne_eqb s t.set (omega arith))

-- the coefficient at the first set
coeff_of_first : (t : Term) (ts : List Term) → coeff_of t.set (t ∷ ts) ≡ t.coeff
unfolding coeff_of
coeff_of_first t ts = rw (eq-eqb t.set t.set refl)

-- the coefficient at another set
coeff_of_other : (s : ℕ) (t : Term) (ts : List Term) → (s ≡ t.set → ⊥) → coeff_of s (t ∷ ts) ≡ coeff_of s ts
unfolding coeff_of
coeff_of_other s t ts ne = rw (ne_eqb s t.set ne)

-- a list that starts with t has a coefficient at t's set, and terms above that set have none
not_above :
    (t : Term) (ts us : List Term) →
    Canonical (t ∷ ts) →
    CanonicalAbove t.set us →
    coeff_of t.set (t ∷ ts) ≡ coeff_of t.set us →
    ⊥
not_above t ts us e f h = omega (arith, coeff_of_first t ts, coeff_of_above t.set t.set us (le_refl t.set) f)

-- behind first terms of one set, equal coefficients stay equal
tails_agree :
    (t u : Term) (ts us : List Term) →
    Canonical (t ∷ ts) →
    Canonical (u ∷ us) →
    t.set ≡ u.set →
    ((s : ℕ) → coeff_of s (t ∷ ts) ≡ coeff_of s (u ∷ us)) →
    (s : ℕ) → coeff_of s ts ≡ coeff_of s us
tails_agree t u ts us e f q h s = go (eqb s t.set) refl
  where
    go : (b : Bool) → eqb s t.set ≡ b → coeff_of s ts ≡ coeff_of s us
    go true k =
        let first : s ≡ t.set = eqb-true s t.set k in
        coeff_of_above s t.set ts (omega arith) e.3 ∙ sym (coeff_of_above s u.set us (omega arith) f.3)
    go false k =
        let other : s ≡ t.set → ⊥ = eqb-false s t.set k in
        sym (coeff_of_other s t ts other) ∙ (h s ∙ coeff_of_other s u us (omega arith))

-- terms in canonical form with the same coefficient at every set are the same
pub canonical_unique : (ts us : List Term) → Canonical ts → Canonical us → ((s : ℕ) → coeff_of s ts ≡ coeff_of s us) → ts ≡ us
canonical_unique [] [] e f h = refl
canonical_unique [] (u ∷ us) e f h = absurd (not_above u us [] f tt (sym (h u.set)))
canonical_unique (t ∷ ts) [] e f h = absurd (not_above t ts [] e tt (h t.set))
canonical_unique (t ∷ ts) (u ∷ us) e f h = go (ltb t.set u.set) (ltb u.set t.set) refl refl (canonical_unique ts us)
  where
    go :
        (a b : Bool) →
        ltb t.set u.set ≡ a →
        ltb u.set t.set ≡ b →
        (Canonical ts → Canonical us → ((s : ℕ) → coeff_of s ts ≡ coeff_of s us) → ts ≡ us) →
        ◌≡◌ {A = List Term} (t ∷ ts) (u ∷ us)
    go true b k l later = absurd (not_above t ts (u ∷ us) e (ltb-true _ _ k, f.1, f.2, f.3) (h t.set))
    go false true k l later = absurd (not_above u us (t ∷ ts) f (ltb-true _ _ l, e.1, e.2, e.3) (sym (h u.set)))
    go false false k l later =
        let q : t.set ≡ u.set = omega (arith, ltb-false t.set u.set k, ltb-false u.set t.set l) in
        let c : t.coeff ≡ u.coeff = sym (coeff_of_first t ts) ∙ (h t.set ∙ rw q (coeff_of_first u us)) in
        let low : Canonical ts = above_lower 0 t.set ts zero-le e.3 in
        let low' : Canonical us = above_lower 0 u.set us zero-le f.3 in
        ap₂ {B = List Term} ◌∷◌ (ap₂ term q c) (later low low' (tails_agree t u ts us e f q h))
