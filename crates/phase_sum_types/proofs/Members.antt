-- The members of a set of no more variables than a pair may have, in rising order: which is the lowest, how many there are, and one taken out.
-- Assumes nothing.
use mathlib.Core.Path.{◌≡◌, refl, sym, ◌∙◌, ap}
use Prim.Native.Nat.{ℕ, zero, suc, ◌/◌, ◌%◌, ◌^◌, ◌<◌, ◌≤◌}
use native.Mathlib.Nat.{pow-succ'}
use native.Mathlib.Omega.{arith}
use mathlib.Core.Bool.{Bool, true, false, cond, ◌&&◌}
use mathlib.Core.Option.{none, some}
use mathlib.Core.List.{List, [], ◌∷◌}
use lib.Arith.{lt-one}
use lib.Dec.{eqb, ltb}
use lib.ListN.{length}
use lib.Count.{ones, ones_in, ones_step}
use borrow.Author.Tests.{eqb-true, eqb-false, ltb-true, ltb-false}
use Rattle.amplitude.specs.Bits.{digit, bit}
use Rattle.amplitude.proofs.BitLaws.{digit-eqb, rest_below, bit_zero, bit_above, bits_ext}
use Rattle.phase_sum_meaning.specs.Sets.{first_such, from, without, Among, here, there}
use Rattle.phase_sum_meaning.specs.Stepping.{out_of}
use Rattle.phase_sum_meaning.specs.Room.{most_variables}
use Rattle.phase_sum_meaning.proofs.TakingOut.{out_of_free, out_of_other}
use Rattle.phase_sum_meaning.proofs.VariableLaws.{among_cases, among-from, from-among, from-length}
use Rattle.phase_sum_types.specs.Workspace.{among, members}

-- the first number that passes a test among those in a set
pub first_among : (test : ℕ → Bool) (s : ℕ) (vs : List ℕ) → first_such test (among s vs) ≡ first_such (λ v. bit v s && test v) vs
unfolding first_such among
first_among test s [] = refl
first_among test s (v ∷ vs) = go (bit v s) (first_among test s vs)
  where
    go :
        (b : Bool) →
        first_such test (among s vs) ≡ first_such (λ v. bit v s && test v) vs →
        first_such test (cond b (v ∷ among s vs) (among s vs))
        ≡ cond (b && test v) (some v) (first_such (λ v. bit v s && test v) vs)
    go true later = rw later
    go false later = later

-- what a list has of a set is in both
among-held : (s : ℕ) (vs : List ℕ) {v : ℕ} → Among v (among s vs) → Among v vs × (bit v s ≡ true)
unfolding among
among-held s [] a = elim a [ ]
among-held s (u ∷ vs) {v} a = go (bit u s) refl (among-held s vs)
  where
    go : (b : Bool) → bit u s ≡ b → (Among v (among s vs) → Among v vs × (bit v s ≡ true)) → Among v (u ∷ vs) × (bit v s ≡ true)
    go true h later = among_cases (rw h at a) (λ same. rw same (here, h)) (λ b. let r = later b in (there r.0, r.1))
    go false h later = let r = later (rw h at a) in (there r.0, r.1)

-- what is in both a list has of the set
held-among : (s : ℕ) {v : ℕ} {vs : List ℕ} → Among v vs → bit v s ≡ true → Among v (among s vs)
unfolding among
held-among s here e = rw e here
held-among s {v} (there {u = u} {us = us} a) e = go (bit u s) (held-among s a e)
  where
    go : (b : Bool) → Among v (among s us) → Among v (cond b (u ∷ among s us) (among s us))
    go true later = there later
    go false later = later

-- a variable of the set is among its members
pub members_hold : (s v : ℕ) → bit v s ≡ true → v < most_variables → Among v (members s)
members_hold s v e l = held-among s (among-from 0 most_variables v (omega arith) l) e

-- a member is a variable of the set
pub member_held : (s v : ℕ) → Among v (members s) → (bit v s ≡ true) × (v < most_variables)
member_held s v a = let r = among-held s (from 0 most_variables) a in (r.1, (from-among 0 most_variables r.0).1)

-- a variable taken out of the set is taken out of what a list has of it
among-without : (s v : ℕ) (us : List ℕ) → among (out_of v s) us ≡ without v (among s us)
unfolding among without
among-without s v [] = refl
among-without s v (u ∷ us) = go (eqb u v) (bit u s) refl refl (among-without s v us)
  where
    go :
        (e b : Bool) → eqb u v ≡ e → bit u s ≡ b →
        among (out_of v s) us ≡ without v (among s us) →
        among (out_of v s) (u ∷ us) ≡ without v (among s (u ∷ us))
    go true true e h later = rw (h, e, eqb-true u v e, out_of_free v s) later
    go true false e h later = rw (h, eqb-true u v e, out_of_free v s) later
    go false true e h later = rw (out_of_other u v s (eqb-false u v e), h, e, later)
    go false false e h later = rw (out_of_other u v s (eqb-false u v e), h) later

-- a variable taken out of the set is taken out of its members
pub members-without : (s v : ℕ) → members (out_of v s) ≡ without v (members s)
members-without s v = among-without s v (from 0 most_variables)

-- the half of a set has as many members, each one place lower
length_half : (s a k : ℕ) → length (among s (from (suc a) k)) ≡ length (among (s / 2) (from a k))
unfolding among from bit
length_half s a zero = refl
length_half s a (suc k) = go (bit a (s / 2)) (length_half s (suc a) k)
  where
    go :
        (b : Bool) →
        length (among s (from (suc (suc a)) k)) ≡ length (among (s / 2) (from (suc a) k)) →
        length (cond b (suc a ∷ among s (from (suc (suc a)) k)) (among s (from (suc (suc a)) k)))
        ≡ length (cond b (a ∷ among (s / 2) (from (suc a) k)) (among (s / 2) (from (suc a) k)))
    go true later = ap suc later
    go false later = later

-- the lowest digit of a set by its lowest bit
low_digit : (s : ℕ) → digit (bit 0 s) ≡ s % 2
unfolding bit
low_digit s = digit-eqb (s % 2) (rest_below s)

-- as many members as ones, of a set of k variables
length_first : (k s : ℕ) → s < 2 ^ k → length (among s (from 0 k)) ≡ ones s
unfolding among from
length_first zero s l = rw (lt-one l) (unfold ones ones_in in refl)
length_first (suc k) s l =
    go (bit 0 s) (low_digit s) (length_half s 0 k ∙ length_first k (s / 2) (omega (arith, pow-succ' 2 k)))
  where
    go :
        (b : Bool) →
        digit b ≡ s % 2 →
        length (among s (from 1 k)) ≡ ones (s / 2) →
        length (cond b (0 ∷ among s (from 1 k)) (among s (from 1 k))) ≡ ones s
    go true e later = omega (arith, ones_step s)
    go false e later = omega (arith, ones_step s)

-- a list has no more of a set than it has
among_le : (s : ℕ) (vs : List ℕ) → length (among s vs) ≤ length vs
unfolding among
among_le s [] = omega arith
among_le s (v ∷ vs) = go (bit v s) (among_le s vs)
  where
    go : (b : Bool) → length (among s vs) ≤ length vs → length (cond b (v ∷ among s vs) (among s vs)) ≤ suc (length vs)
    go true later = omega arith
    go false later = omega arith

-- no more members than a pair may have variables
pub members_few : (s : ℕ) → length (members s) ≤ most_variables
members_few s = omega (arith, among_le s (from 0 most_variables), from-length 0 most_variables)

-- as many members as ones
pub length-members : (s : ℕ) → s < 2 ^ most_variables → length (members s) ≡ ones s
length-members s l = length_first most_variables s l

-- a list that has something is not empty
pub some_length : {v : ℕ} {vs : List ℕ} → Among v vs → 0 < length vs
some_length here = omega arith
some_length (there a) = omega arith

-- no members: the empty set
pub members_none : (s : ℕ) → s < 2 ^ most_variables → members s ≡ [] → s ≡ 0
members_none s l e = bits_ext s 0 (λ q. go q (ltb q most_variables) (bit q s) refl refl ∙ sym (bit_zero q))
  where
    go : (q : ℕ) (a b : Bool) → ltb q most_variables ≡ a → bit q s ≡ b → bit q s ≡ false
    go q true true small h = absurd (omega (arith, some_length (members_hold s q h (ltb-true q most_variables small)), ap length e))
    go q false true small h = bit_above most_variables q s l (ltb-false q most_variables small)
    go q a false small h = h

-- the empty set holds nothing of a list
nothing_in : (vs : List ℕ) → first_such (λ v. bit v 0) vs ≡ none
unfolding first_such
nothing_in [] = refl
nothing_in (v ∷ vs) = rw (bit_zero v) (nothing_in vs)

-- the empty set has none
pub lowest_none : first_such (λ v. bit v 0) (from 0 most_variables) ≡ none
lowest_none = nothing_in (from 0 most_variables)
