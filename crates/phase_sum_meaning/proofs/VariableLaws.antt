-- Laws of lists of variables: the first that passes a test, a list without one of them, rising lists, and the numbers from a on.
-- Assumes nothing.
use mathlib.Core.Path.{◌≡◌, refl, ap, sym, ◌∙◌}
use mathlib.Core.Bool.{Bool, true, false, true≢false}
use mathlib.Core.List.{List, [], ◌∷◌, ◌++◌}
use mathlib.Core.Option.{none, some, some-injective, none-ne-some, some-ne-none}
use Prim.Native.Nat.{ℕ, zero, suc, ◌+◌, ◌<◌, ◌≤◌}
use native.Mathlib.Nat.{add-zero, add-suc, suc-add}
use native.Mathlib.Omega.{arith}
use lib.Dec.{eqb}
use lib.ListN.{length}
use borrow.Author.Tests.{eqb-true, eqb-false, eq-eqb, ne_eqb}
use Rattle.phase_sum_meaning.specs.Sets.{without, from, Among, here, there, first_such}

-- each variable is smaller than those behind it
abbrev pub Rising : List ℕ → Type 0
Rising [] = Unit {0}
Rising (u ∷ us) = ((v : ℕ) → Among v us → u < v) × Rising us

-- a variable of a list is the first or one behind it
pub among_cases : {P : Type 0} {v u : ℕ} {us : List ℕ} → Among v (u ∷ us) → (v ≡ u → P) → (Among v us → P) → P
among_cases here first later = first refl
among_cases (there a) first later = later a

-- the number found is in the list and passes the test
pub first_such_some : (test : ℕ → Bool) (vs : List ℕ) (z : ℕ) → first_such test vs ≡ some z → Among z vs × (test z ≡ true)
unfolding first_such
first_such_some test [] z e = absurd (none-ne-some z e)
first_such_some test (v ∷ vs) z e = go (test v) refl (first_such_some test vs z)
  where
    go :
        (b : Bool) → test v ≡ b →
        (first_such test vs ≡ some z → Among z vs × (test z ≡ true)) →
        Among z (v ∷ vs) × (test z ≡ true)
    go true h later = rw (← some-injective v z (rw h at e)) (here, h)
    go false h later = let found = later (rw h at e) in (there found.0, found.1)

-- where none is found, none of the list passes
pub first_such_none : (test : ℕ → Bool) (vs : List ℕ) → first_such test vs ≡ none → (v : ℕ) → Among v vs → test v ≡ false
unfolding first_such
first_such_none test [] e v a = elim a [ ]
first_such_none test (u ∷ vs) e v a = go (test u) refl (first_such_none test vs)
  where
    go : (b : Bool) → test u ≡ b → (first_such test vs ≡ none → (v : ℕ) → Among v vs → test v ≡ false) → test v ≡ false
    go true h later = absurd (some-ne-none u (rw h at e))
    go false h later = among_cases a (λ same. rw same h) (later (rw h at e) v)

-- in a rising list the number found is the lowest that passes
pub first_such_lowest :
    (test : ℕ → Bool) (vs : List ℕ) (z : ℕ) →
    Rising vs →
    first_such test vs ≡ some z →
    (v : ℕ) →
    Among v vs →
    test v ≡ true →
    z ≤ v
unfolding first_such
first_such_lowest test [] z r e v a h = absurd (none-ne-some z e)
first_such_lowest test (u ∷ vs) z r e v a h = go (test u) refl (first_such_lowest test vs z r.1)
  where
    go : (b : Bool) → test u ≡ b → (first_such test vs ≡ some z → (w : ℕ) → Among w vs → test w ≡ true → z ≤ w) → z ≤ v
    go true k later =
        let same : u ≡ z = some-injective u z (rw k at e) in
        among_cases a (λ i. omega arith) (λ b. omega (arith, r.0 v b))
    go false k later =
        among_cases a (λ i. absurd (true≢false (sym h ∙ rw i k))) (λ b. later (rw k at e) v b h)

-- what is in a list without v is in the list, and is not v
pub without-among : (v : ℕ) (us : List ℕ) {u : ℕ} → Among u (without v us) → Among u us × (u ≡ v → ⊥)
unfolding without
without-among v [] a = elim a [ ]
without-among v (w ∷ us) {u} a = go (eqb w v) refl (without-among v us)
  where
    go : (b : Bool) → eqb w v ≡ b → (Among u (without v us) → Among u us × (u ≡ v → ⊥)) → Among u (w ∷ us) × (u ≡ v → ⊥)
    go true h later = let r = later (rw h at a) in (there r.0, r.1)
    go false h later =
        among_cases (rw h at a) (λ same. rw same (here, eqb-false w v h)) (λ b. let r = later b in (there r.0, r.1))

-- what is in a list and is not v is in the list without v
pub among-without : (v : ℕ) {u : ℕ} {us : List ℕ} → Among u us → (u ≡ v → ⊥) → Among u (without v us)
unfolding without
among-without v {u} here ne = rw (ne_eqb u v ne) here
among-without v {u} (there {u = w} {us = us} a) ne = go (eqb w v) refl (among-without v a ne)
  where
    go : (b : Bool) → eqb w v ≡ b → Among u (without v us) → Among u (without v (w ∷ us))
    go true h a = rw h a
    go false h a = rw h (there a)

-- a rising list without v is rising
pub rising_without : (v : ℕ) (us : List ℕ) → Rising us → Rising (without v us)
unfolding without
rising_without v [] r = tt
rising_without v (u ∷ us) r = go (eqb u v) refl (rising_without v us r.1)
  where
    go : (b : Bool) → eqb u v ≡ b → Rising (without v us) → Rising (without v (u ∷ us))
    go true h later = rw h later
    go false h later = rw h (λ w a. r.0 w (without-among v us a).0, later)

-- a list without what is not in it
pub without_absent : (v : ℕ) (us : List ℕ) → (Among v us → ⊥) → without v us ≡ us
unfolding without
without_absent v [] h = refl
without_absent v (u ∷ us) h =
    rw (ne_eqb u v (λ e. h (rw e here))) (ap (λ (ws : List ℕ). u ∷ ws) (without_absent v us (λ a. h (there a))))

-- a rising list without one of its variables is shorter by one
pub length_without : {v : ℕ} {us : List ℕ} → Rising us → Among v us → suc (length (without v us)) ≡ length us
unfolding without
length_without {v} r (here {us}) =
    rw (eq-eqb v v refl, without_absent v us (λ a. absurd (omega (arith, r.0 v a))))
length_without {v} r (there {u} {us} a) =
    rw (ne_eqb u v (λ e. absurd (omega (arith, r.0 v a)))) (ap suc (length_without r.1 a))

-- the m numbers from a on are those from a to below a + m
pub from-among : (a m : ℕ) {v : ℕ} → Among v (from a m) → (a ≤ v) × (v < a + m)
unfolding from
from-among a zero h = elim h [ ]
from-among a (suc m) h =
    among_cases h (λ same. omega arith) (λ b. let r = from-among (suc a) m b in omega arith)

-- and the other way round
pub among-from : (a m v : ℕ) → a ≤ v → v < a + m → Among v (from a m)
unfolding from
among-from a zero v l h = absurd (omega arith)
among-from a (suc m) v l h = go (eqb v a) refl (among-from (suc a) m v)
  where
    go : (b : Bool) → eqb v a ≡ b → (suc a ≤ v → v < suc a + m → Among v (from (suc a) m)) → Among v (a ∷ from (suc a) m)
    go true e later = rw (eqb-true v a e) here
    go false e later = there (later (omega (arith, eqb-false v a e)) (omega arith))

-- they rise
pub from_rising : (a m : ℕ) → Rising (from a m)
unfolding from
from_rising a zero = tt
from_rising a (suc m) = (λ v h. (from-among (suc a) m h).0, from_rising (suc a) m)

-- they are m
pub from-length : (a m : ℕ) → length (from a m) ≡ m
unfolding from
from-length a zero = refl
from-length a (suc m) = ap suc (from-length (suc a) m)

-- one more comes last
pub from_snoc : (a m : ℕ) → from a (suc m) ≡ from a m ++ (a + m) ∷ []
unfolding from
from_snoc a zero = rw add-zero
from_snoc a (suc m) = ap (λ (us : List ℕ). a ∷ us) (rw (add-suc a m, ← suc-add a m) (from_snoc (suc a) m))
