-- The phase polynomial: a constant mod 8 and terms, each a set with a coefficient mod 8, which adds the coefficient times the
-- parity of the set. Terms stand in one canonical form: sets strictly rising, none empty, no coefficient 0.
-- Assumes nothing.
use Rattle.std.specs.Prelude.{ℕ, ◌+◌, ◌-◌, ◌*◌, ◌%◌, ◌<◌, Bool, false, cond, ◌||◌, List, [], ◌∷◌, eqb, ltb}
use Rattle.amplitude.specs.Bits.{digit, bit}
use Rattle.phase_sum_meaning.specs.Sets.{parity}
use Rattle.phase_sum_meaning.specs.Parity.{Parity}

-- a set and its coefficient
pub record Term : Type 0 where
  pub set : ℕ
  pub coeff : ℕ

-- a term by its parts
abbrev pub term : ℕ → ℕ → Term
term s c = record { set = s; coeff = c }

-- a constant and terms
pub record Phase : Type 0 where
  pub constant : ℕ
  pub terms : List Term

-- what the terms add at an assignment
unfoldable pub sum_at : List Term → ℕ → ℕ
sum_at [] x = 0
sum_at (t ∷ ts) x = t.coeff * digit (parity t.set x) + sum_at ts x

-- the phase at an assignment, as a number to be read mod 8
unfoldable pub phase_at : Phase → ℕ → ℕ
phase_at φ x = φ.constant + sum_at φ.terms x

-- sets strictly rising, the first above b, and coefficients from 1 to 7
abbrev pub CanonicalAbove : ℕ → List Term → Type 0
CanonicalAbove b [] = Unit {0}
CanonicalAbove b (t ∷ ts) = (b < t.set) × (0 < t.coeff) × (t.coeff < 8) × CanonicalAbove t.set ts

-- the canonical form: sets strictly rising, none empty, and coefficients from 1 to 7
abbrev pub Canonical : List Term → Type 0
Canonical ts = CanonicalAbove 0 ts

-- minus a coefficient, mod 8
abbrev pub minus : ℕ → ℕ
minus c = (8 - c % 8) % 8

-- a term in front of terms whose sets are larger, unless its coefficient is 0
unfoldable pub keep : ℕ → ℕ → List Term → List Term
keep s c ts = cond (eqb (c % 8) 0) ts (term s (c % 8) ∷ ts)

-- a term merged into terms in canonical form
unfoldable pub merge : ℕ → ℕ → List Term → List Term
merge s c [] = keep s c []
merge s c (t ∷ ts) =
    cond (ltb s t.set) (keep s c (t ∷ ts)) (cond (eqb s t.set) (keep s (c + t.coeff) ts) (t ∷ merge s c ts))

-- the empty set is dropped: its parity is 0
unfoldable pub add_term : ℕ → ℕ → Phase → Phase
add_term s c φ = record { constant = φ.constant; terms = cond (eqb s 0) φ.terms (merge s c φ.terms) }

-- k added to the constant
unfoldable pub add_constant : ℕ → Phase → Phase
add_constant k φ = record { constant = (φ.constant + k) % 8; terms = φ.terms }

-- a phase c on a parity: a term; on a complemented parity, the constant c and the term −c
unfoldable pub add_phase : ℕ → Parity → Phase → Phase
add_phase c p φ =
    cond p.flipped (add_term p.vars (minus c) (add_constant c φ)) (add_term p.vars c φ)

-- the phase with each term's set sent to a parity, merged anew
unfoldable pub rebuild : (ℕ → Parity) → ℕ → List Term → Phase
rebuild f k [] = record { constant = k % 8; terms = [] }
rebuild f k (t ∷ ts) = add_phase t.coeff (f t.set) (rebuild f k ts)

-- variable v is in a term of odd coefficient
unfoldable pub in_odd : ℕ → List Term → Bool
in_odd v [] = false
in_odd v (t ∷ ts) = cond (bit v t.set) (eqb (t.coeff % 2) 1) false || in_odd v ts
