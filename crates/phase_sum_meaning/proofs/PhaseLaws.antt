-- Laws of the phase polynomial: what merging, adding and rebuilding mean at an assignment, read mod 8; which sets occur in the
-- terms; how many terms there are.
-- Assumes nothing.
use mathlib.Core.Path.{◌≡◌, refl, ◌∙◌, ap}
use mathlib.Core.Bool.{Bool, true, false, not, cond}
use mathlib.Core.List.{List, [], ◌∷◌}
use Prim.Native.Nat.{ℕ, suc, ◌+◌, ◌*◌, ◌%◌, ◌<◌, ◌≤◌}
use native.Mathlib.Nat.{add-mul, add_left_comm}
use native.Mathlib.Omega.{arith}
use lib.Dec.{eqb, ltb}
use lib.ListN.{length}
use borrow.Author.Tests.{eqb-true, eqb-false, ltb-true, ltb-false}
use Rattle.amplitude.specs.Bits.{digit, bit, flip}
use Rattle.phase_sum_meaning.specs.Sets.{parity}
use Rattle.phase_sum_meaning.specs.Parity.{Parity, value}
use Rattle.phase_sum_meaning.specs.Phase.{Term, term, Phase, sum_at, phase_at, minus, keep, merge, add_term, add_constant, add_phase, rebuild}
use Rattle.amplitude.proofs.XorLaws.{xor_falseˡ, xor_falseʳ, xor_trueˡ, xor_comm}
use Rattle.phase_sum_meaning.proofs.SetLaws.{parity_empty, parity-flip}

-- congruent numbers stay congruent when a number is added
mod-add : (c a b : ℕ) → a % 8 ≡ b % 8 → (c + a) % 8 ≡ (c + b) % 8
mod-add c a b e = omega arith

-- a digit's multiple, mod 8
mod-digit : (c : ℕ) (b : Bool) (m : ℕ) → (c % 8 * digit b + m) % 8 ≡ (c * digit b + m) % 8
mod-digit c true m = omega arith
mod-digit c false m = omega arith

-- what holds of the terms with and without the new one holds of a term kept
pub keep_cases :
    (Q : List Term → Type 0) (s c : ℕ) (ts : List Term) →
    (c % 8 ≡ 0 → Q ts) →
    ((c % 8 ≡ 0 → ⊥) → Q (term s (c % 8) ∷ ts)) →
    Q (keep s c ts)
unfolding keep
keep_cases Q s c ts gone kept = go (eqb (c % 8) 0) refl
  where
    go : (b : Bool) → eqb (c % 8) 0 ≡ b → Q (keep s c ts)
    go true e = rw e (gone (eqb-true (c % 8) 0 e))
    go false e = rw e (kept (eqb-false (c % 8) 0 e))

-- the three places of a term to be merged: before the first term, with it, or behind it
pub merge_cases :
    (Q : List Term → Type 0) (s c : ℕ) (t : Term) (ts : List Term) →
    (s < t.set → Q (keep s c (t ∷ ts))) →
    (s ≡ t.set → Q (keep s (c + t.coeff) ts)) →
    (t.set < s → Q (t ∷ merge s c ts)) →
    Q (merge s c (t ∷ ts))
unfolding merge
merge_cases Q s c t ts before same behind = go (ltb s t.set) (eqb s t.set) refl refl
  where
    go : (a b : Bool) → ltb s t.set ≡ a → eqb s t.set ≡ b → Q (merge s c (t ∷ ts))
    go true b e f = rw e (before (ltb-true s t.set e))
    go false true e f = rw (e, f) (same (eqb-true s t.set f))
    go false false e f = rw (e, f) (behind (omega (arith, ltb-false s t.set e, eqb-false s t.set f)))

-- a term kept in front of others
sum_at_keep : (s c : ℕ) (ts : List Term) (x : ℕ) → sum_at (keep s c ts) x % 8 ≡ (c * digit (parity s x) + sum_at ts x) % 8
unfolding sum_at
sum_at_keep s c ts x =
    keep_cases
    (λ us. sum_at us x % 8 ≡ (c * digit (parity s x) + sum_at ts x) % 8)
    s
    c
    ts
    (λ e. omega (arith, rw e at (mod-digit c (parity s x) (sum_at ts x))))
    (λ ne. mod-digit c (parity s x) (sum_at ts x))

-- a term merged adds its coefficient times the parity of its set
pub sum_at_merge :
    (s c : ℕ) (ts : List Term) (x : ℕ) → sum_at (merge s c ts) x % 8 ≡ (c * digit (parity s x) + sum_at ts x) % 8
unfolding merge sum_at
sum_at_merge s c [] x = sum_at_keep s c [] x
sum_at_merge s c (t ∷ ts) x =
    merge_cases
    (λ us. sum_at us x % 8 ≡ (c * digit (parity s x) + sum_at (t ∷ ts) x) % 8)
    s
    c
    t
    ts
    (λ l. sum_at_keep s c (t ∷ ts) x)
    (λ e. sum_at_keep s (c + t.coeff) ts x ∙ rw (← e) (omega (arith, add-mul c t.coeff (digit (parity s x)))))
    (λ l. mod-add _ _ _ (sum_at_merge s c ts x) ∙ ap (λ (n : ℕ). n % 8) (add_left_comm _ _ _))

-- a term added
pub phase_at-add_term : (s c : ℕ) (φ : Phase) (x : ℕ) → phase_at (add_term s c φ) x % 8 ≡ (c * digit (parity s x) + phase_at φ x) % 8
unfolding add_term phase_at
phase_at-add_term s c φ x = go (eqb s 0) refl
  where
    go : (b : Bool) → eqb s 0 ≡ b → phase_at (add_term s c φ) x % 8 ≡ (c * digit (parity s x) + phase_at φ x) % 8
    go true e = rw (e, eqb-true s 0 e, parity_empty) (omega arith)
    go false e =
        rw e (mod-add _ _ _ (sum_at_merge s c φ.terms x) ∙ ap (λ (n : ℕ). n % 8) (add_left_comm _ _ _))

-- a constant added
pub phase_at-add_constant : (k : ℕ) (φ : Phase) (x : ℕ) → phase_at (add_constant k φ) x % 8 ≡ (k + phase_at φ x) % 8
unfolding add_constant phase_at
phase_at-add_constant k φ x = omega arith

-- c on a parity's complement is c and minus c on the parity
minus-digit : (c : ℕ) (b : Bool) (m : ℕ) → (minus c * digit b + (c + m)) % 8 ≡ (c * digit (not b) + m) % 8
minus-digit c true m = omega arith
minus-digit c false m = omega arith

-- a phase added on a parity
pub phase_at-add_phase :
    (c : ℕ) (p : Parity) (φ : Phase) (x : ℕ) → phase_at (add_phase c p φ) x % 8 ≡ (c * digit (value p x) + phase_at φ x) % 8
unfolding add_phase value
phase_at-add_phase c p φ x = go p.flipped refl
  where
    go : (b : Bool) → p.flipped ≡ b → phase_at (add_phase c p φ) x % 8 ≡ (c * digit (value p x) + phase_at φ x) % 8
    go true e =
        rw (e, xor_comm, xor_trueˡ)
        (phase_at-add_term p.vars (minus c) (add_constant c φ) x
        ∙ (mod-add _ _ _ (phase_at-add_constant c φ x) ∙ minus-digit c (parity p.vars x) (phase_at φ x)))
    go false e = rw (e, xor_falseʳ) (phase_at-add_term p.vars c φ x)

-- what terms add when each set is sent to a parity
unfoldable pub sum_by : (ℕ → Parity) → List Term → ℕ → ℕ
sum_by f [] x = 0
sum_by f (t ∷ ts) x = t.coeff * digit (value (f t.set) x) + sum_by f ts x

-- the phase of a rebuilt list
pub phase_at-rebuild :
    (f : ℕ → Parity) (k : ℕ) (ts : List Term) (x : ℕ) → phase_at (rebuild f k ts) x % 8 ≡ (k + sum_by f ts x) % 8
unfolding rebuild sum_by
phase_at-rebuild f k [] x = unfold phase_at sum_at in omega arith
phase_at-rebuild f k (t ∷ ts) x =
    phase_at-add_phase t.coeff (f t.set) (rebuild f k ts) x
    ∙ (mod-add _ _ _ (phase_at-rebuild f k ts x) ∙ ap (λ (n : ℕ). n % 8) (add_left_comm _ _ _))

-- something holds of every term
abbrev pub Every : (Term → Type 0) → List Term → Type 0
Every P [] = Unit {0}
Every P (t ∷ ts) = P t × Every P ts

-- what holds of all terms holds of every term of a list
pub every_all : (P : Term → Type 0) (ts : List Term) → ((t : Term) → P t) → Every P ts
every_all P [] h = tt
every_all P (t ∷ ts) h = (h t, every_all P ts h)

-- what follows from what holds of every term holds of every term
pub every_map : (P Q : Term → Type 0) (ts : List Term) → ((t : Term) → P t → Q t) → Every P ts → Every Q ts
every_map P Q [] h e = tt
every_map P Q (t ∷ ts) h e = (h t e.0, every_map P Q ts h e.1)

-- a term kept brings no other set
every_keep : (P : Term → Type 0) (s c : ℕ) (ts : List Term) → ((c' : ℕ) → P (term s c')) → Every P ts → Every P (keep s c ts)
every_keep P s c ts h e = keep_cases (Every P) s c ts (λ z. e) (λ z. (h (c % 8), e))

-- nor does a term merged
pub every_merge : (P : Term → Type 0) (s c : ℕ) (ts : List Term) → ((c' : ℕ) → P (term s c')) → Every P ts → Every P (merge s c ts)
unfolding merge
every_merge P s c [] h e = every_keep P s c [] h tt
every_merge P s c (t ∷ ts) h e =
    merge_cases
    (Every P)
    s
    c
    t
    ts
    (λ l. every_keep P s c (t ∷ ts) h e)
    (λ q. every_keep P s (c + t.coeff) ts h e.1)
    (λ l. (e.0, every_merge P s c ts h e.1))

-- nor a term added
pub every_add_term :
    (P : Term → Type 0) (s c : ℕ) (φ : Phase) → ((c' : ℕ) → P (term s c')) → Every P φ.terms → Every P (add_term s c φ).terms
unfolding add_term
every_add_term P s c φ h e = go (eqb s 0)
  where
    go : (b : Bool) → Every P (cond b φ.terms (merge s c φ.terms))
    go true = e
    go false = every_merge P s c φ.terms h e

-- a phase added on a parity brings no set but the parity's
pub every_add_phase :
    (P : Term → Type 0) (c : ℕ) (p : Parity) (φ : Phase) →
    ((c' : ℕ) → P (term p.vars c')) →
    Every P φ.terms →
    Every P (add_phase c p φ).terms
unfolding add_phase add_constant
every_add_phase P c p φ h e = go p.flipped
  where
    go : (b : Bool) → Every P (cond b (add_term p.vars (minus c) (add_constant c φ)) (add_term p.vars c φ)).terms
    go true = every_add_term P p.vars (minus c) (add_constant c φ) h e
    go false = every_add_term P p.vars c φ h e

-- a rebuilt list has no sets but those that the old ones are sent to
pub every_rebuild :
    (P : ℕ → Type 0) (f : ℕ → Parity) (k : ℕ) (ts : List Term) →
    Every (λ t. P (f t.set).vars) ts →
    Every (λ t. P t.set) (rebuild f k ts).terms
unfolding rebuild
every_rebuild P f k [] e = tt
every_rebuild P f k (t ∷ ts) e =
    every_add_phase (λ u. P u.set) t.coeff (f t.set) (rebuild f k ts) (λ c'. e.0) (every_rebuild P f k ts e.1)

-- no term's set holds v
abbrev pub Free : ℕ → List Term → Type 0
Free v ts = Every (λ t. bit v t.set ≡ false) ts

-- flipping a variable that no term holds changes nothing
pub sum_at_free : (v : ℕ) (ts : List Term) (x : ℕ) → Free v ts → sum_at ts (flip v x) ≡ sum_at ts x
unfolding sum_at
sum_at_free v [] x e = refl
sum_at_free v (t ∷ ts) x e = rw (parity-flip, e.0, xor_falseˡ, sum_at_free v ts x e.1)

-- a variable that no set is sent to is in no rebuilt term
pub free_rebuild :
    (v : ℕ) (f : ℕ → Parity) (k : ℕ) (ts : List Term) →
    ((s : ℕ) → bit v (f s).vars ≡ false) →
    Free v (rebuild f k ts).terms
free_rebuild v f k ts h = every_rebuild (λ s. bit v s ≡ false) f k ts (every_all _ ts (λ t. h t.set))

-- a term kept is at most one more
length-keep : (s c : ℕ) (ts : List Term) → length (keep s c ts) ≤ suc (length ts)
length-keep s c ts = keep_cases (λ us. length us ≤ suc (length ts)) s c ts (λ e. omega arith) (λ e. omega arith)

-- so is a term merged
pub length-merge : (s c : ℕ) (ts : List Term) → length (merge s c ts) ≤ suc (length ts)
unfolding merge
length-merge s c [] = length-keep s c []
length-merge s c (t ∷ ts) =
    merge_cases
    (λ us. length us ≤ suc (length (t ∷ ts)))
    s
    c
    t
    ts
    (λ l. length-keep s c (t ∷ ts))
    (λ e. omega (arith, length-keep s (c + t.coeff) ts))
    (λ l. omega (arith, length-merge s c ts))

-- so is a term added
pub length-add_term : (s c : ℕ) (φ : Phase) → length (add_term s c φ).terms ≤ suc (length φ.terms)
unfolding add_term
length-add_term s c φ = go (eqb s 0)
  where
    go : (b : Bool) → length (cond b φ.terms (merge s c φ.terms)) ≤ suc (length φ.terms)
    go true = omega arith
    go false = length-merge s c φ.terms

-- so is a phase added on a parity
pub length-add_phase : (c : ℕ) (p : Parity) (φ : Phase) → length (add_phase c p φ).terms ≤ suc (length φ.terms)
unfolding add_phase add_constant
length-add_phase c p φ = go p.flipped
  where
    go :
        (b : Bool) →
        length (cond b (add_term p.vars (minus c) (add_constant c φ)) (add_term p.vars c φ)).terms ≤ suc (length φ.terms)
    go true = length-add_term p.vars (minus c) (add_constant c φ)
    go false = length-add_term p.vars c φ

-- a rebuilt list is no longer than the old one
pub length-rebuild : (f : ℕ → Parity) (k : ℕ) (ts : List Term) → length (rebuild f k ts).terms ≤ length ts
unfolding rebuild
length-rebuild f k [] = omega arith
length-rebuild f k (t ∷ ts) =
    omega (arith, length-add_phase t.coeff (f t.set) (rebuild f k ts), length-rebuild f k ts)

-- a constant added stays below 8
pub constant_below-add_constant : (k : ℕ) (φ : Phase) → (add_constant k φ).constant < 8
unfolding add_constant
constant_below-add_constant k φ = omega arith

-- a phase added on a parity keeps the constant below 8
pub constant_below-add_phase : (c : ℕ) (p : Parity) (φ : Phase) → φ.constant < 8 → (add_phase c p φ).constant < 8
unfolding add_phase add_term
constant_below-add_phase c p φ l = go p.flipped
  where
    go : (b : Bool) → (cond b (add_term p.vars (minus c) (add_constant c φ)) (add_term p.vars c φ)).constant < 8
    go true = constant_below-add_constant c φ
    go false = l

-- a rebuilt constant is below 8
pub constant_below-rebuild : (f : ℕ → Parity) (k : ℕ) (ts : List Term) → (rebuild f k ts).constant < 8
unfolding rebuild
constant_below-rebuild f k [] = omega arith
constant_below-rebuild f k (t ∷ ts) =
    constant_below-add_phase t.coeff (f t.set) (rebuild f k ts) (constant_below-rebuild f k ts)
