-- How a comparison ends: what reducing makes of a pinned sum, and why the verdict falls as it does. Each is a case split, made once
-- here, so that the theorems only go through the cases.
-- Assumes nothing.
use mathlib.Core.Path.{◌≡◌, refl, sym, ◌∙◌}
use mathlib.Core.Bool.{Bool, true, false}
use mathlib.Core.List.{List, [], ◌∷◌, cons≢nil}
use mathlib.Core.Option.{Option, none, some, some-ne-none}
use Prim.Native.Nat.{ℕ, zero, suc, ◌<◌}
use native.Mathlib.Omega.{arith}
use lib.Dec.{eqb}
use lib.ListN.{length}
use borrow.Author.Tests.{eqb-true, eqb-false, ne_eqb}
use Rattle.phase_sum_meaning.specs.Sets.{Among}
use Rattle.phase_sum_meaning.specs.Parity.{Parity}
use Rattle.phase_sum_meaning.specs.Phase.{in_odd}
use Rattle.phase_sum_meaning.proofs.Wellformed.{Good}
use Rattle.phase_sum_meaning.proofs.Evenness.{OddIn, InputsOnly}
use Rattle.comparison_meaning.specs.Reduction.{End, reduce_from, reduce_end}
use Rattle.comparison_meaning.specs.Steps.{Steps, Blocked}
use Rattle.comparison_meaning.specs.Course.{Continues, further, halted, Done, Judged, blocked, unready, unsized, found, same, rotated, Shown, shows}
use Rattle.comparison_meaning.specs.Verdict.{candidates, first_differing, Verdict, equal, undecided, turned, Result, left, result, agreement, power, searched, judge}
use Rattle.comparison_meaning.proofs.Reducing.{reduces_from, reduce_steps, reduce_stops, even_decides, reduce_blocks}

-- reducing what pinning left is document 01's course
pub continues : (n : ℕ) (p : End) → Good n p.sum → Continues n p (reduce_end p)
unfolding reduce_end
continues n p good = go p.blocked_by refl
  where
    go :
        (b : Option Parity)
        → p.blocked_by ≡ b
        → Continues n p (elim b [ none ↦ reduce_from (length p.sum.live) p.sum p.counts | some q ↦ p ])
    go none h = further h (reduces_from n (length p.sum.live) p.sum p.counts good (omega arith))
    go (some q) h = halted h

-- its end is reached by steps
pub reduced_steps : {n : ℕ} {p e : End} → Continues n p e → Steps p.sum p.counts e.sum e.counts
reduced_steps (further h r) = reduce_steps r
reduced_steps (halted h) = Steps.none

-- an end that is not blocked comes of pinning that went through
pub reduced_through : {n : ℕ} {p e : End} → Continues n p e → e.blocked_by ≡ none → p.blocked_by ≡ none
reduced_through (further h r) free = h
reduced_through (halted h) free = free

-- at an end that is not blocked no live variable is ready
pub reduced-stops : {n : ℕ} {p e : End} → Continues n p e → e.blocked_by ≡ none → (y : ℕ) → Among y e.sum.live → in_odd y e.sum.phase.terms ≡ true
reduced-stops (further h r) free = reduce_stops r free
reduced-stops (halted {q} h) free = absurd (some-ne-none q (sym h ∙ free))

-- at an end that a step blocks, a ready variable's step cannot be taken
pub reduced_blocked : {n : ℕ} {p e : End} {q : Parity} → Continues n p e → p.blocked_by ≡ none → e.blocked_by ≡ some q → Blocked e.sum q
reduced_blocked (further h r) through b = reduce_blocks r b
reduced_blocked (halted {q} h) through b = absurd (some-ne-none q (sym h ∙ through))

-- at an end that is not blocked none is left, where every odd coefficient of the pinned sum is on inputs alone
pub reduced_even :
    {n : ℕ} {p e : End} → Continues n p e → Good n p.sum → OddIn (InputsOnly n) p.sum.phase.terms → e.blocked_by ≡ none → e.sum.live ≡ []
reduced_even {n} {p} {e} (further h r) good even free = even_decides n p.sum p.counts e good r even free
reduced_even (halted {q} h) good even free = absurd (some-ne-none q (sym h ∙ free))

-- a power of ω that is not 1 is a turn
pub agreement_other : (j : ℕ) → 0 < j → agreement j ≡ turned
agreement_other zero other = absurd (omega arith)
agreement_other (suc j) other = refl

-- the verdict on an end has one of these reasons
pub judges : (scratch n : ℕ) (e : End) → Shown scratch n e (judge scratch n e)
unfolding judge searched
judges scratch n e = go e.blocked_by refl e.sum.live refl
  where
    by : {v : Verdict} {a b : ℕ} → judge scratch n e ≡ result v a b e → Judged scratch n e v a b → Shown scratch n e (judge scratch n e)
    by is j = rw is (shows j)

    looks :
        Done e
        → eqb (left e) 0 ≡ true
        → (t : Bool)
        → eqb e.counts.pins e.counts.sums ≡ t
        → (f : Option ℕ)
        → first_differing e.sum.phase (candidates scratch n) ≡ f
        → Shown scratch n e (judge scratch n e)
    looks done z false m f d =
        by (rw (done.0, judge, z, searched, m)) (unsized done (eqb-false e.counts.pins e.counts.sums m))
    looks done z true m none d = agree (power e) refl
      where
        is : judge scratch n e ≡ result (agreement (power e)) (power e) 0 e
        is = rw (done.0, judge, z, searched, m, d)

        sized : e.counts.pins ≡ e.counts.sums
        sized = eqb-true e.counts.pins e.counts.sums m

        agree : (j : ℕ) → power e ≡ j → Shown scratch n e (judge scratch n e)
        agree zero p = by (is ∙ rw p) (same done sized d p)
        agree (suc j) p = by (is ∙ rw p) (rotated done sized d (omega arith))
    looks done z true m (some v) d =
        by (rw (done.0, judge, z, searched, m, d)) (found done (eqb-true e.counts.pins e.counts.sums m) d)

    go : (b : Option Parity) → e.blocked_by ≡ b → (ys : List ℕ) → e.sum.live ≡ ys → Shown scratch n e (judge scratch n e)
    go (some q) h ys k = by (rw (h, judge)) (blocked h)
    go none h [] k =
        looks (h, k) (rw k) (eqb e.counts.pins e.counts.sums) refl (first_differing e.sum.phase (candidates scratch n)) refl
    go none h (y ∷ ys) k =
        let z : eqb (left e) 0 ≡ false = rw k (ne_eqb (length (y ∷ ys)) 0 (λ zero. omega arith)) in
        by (rw (h, judge, z)) (unready h (λ empty. cons≢nil (sym k ∙ empty)))

-- the verdict and the inputs of a shown result have their reason
pub reason : {scratch n : ℕ} {e : End} {r : Result} → Shown scratch n e r → Judged scratch n e r.verdict r.first r.second
reason (shows j) = j

-- an end with path variables left, not blocked, is undecided
pub judged_undecided :
    {scratch n : ℕ} {e : End} {v : Verdict} {a b : ℕ}
    → Judged scratch n e v a b
    → e.blocked_by ≡ none
    → (e.sum.live ≡ [] → ⊥)
    → v ≡ undecided
judged_undecided (blocked {q} h) free some_left = absurd (some-ne-none q (sym h ∙ free))
judged_undecided (unready h left) free some_left = refl
judged_undecided (unsized done unequal) free some_left = absurd (some_left done.1)
judged_undecided (found done sized differs) free some_left = absurd (some_left done.1)
judged_undecided (same done sized None-found one) free some_left = absurd (some_left done.1)
judged_undecided (rotated done sized None-found other) free some_left = absurd (some_left done.1)

-- an end with none left, unless blocked, is not undecided
pub judged_decided :
    {scratch n : ℕ} {e : End} {a b : ℕ} → Judged scratch n e undecided a b → (e.blocked_by ≡ none → e.sum.live ≡ []) → ⊥
judged_decided (unready h some_left) none_left = some_left (none_left h)

-- the inputs are 0 and 0 where the verdict is equal
pub judged_equal : {scratch n : ℕ} {e : End} {a b : ℕ} → Judged scratch n e equal a b → (a ≡ 0) × (b ≡ 0)
judged_equal (same done sized None-found one) = (refl, refl)

-- or undecided
pub judged_unready : {scratch n : ℕ} {e : End} {a b : ℕ} → Judged scratch n e undecided a b → (a ≡ 0) × (b ≡ 0)
judged_unready (unready h some_left) = (refl, refl)

-- and where it is turned the second is
pub judged_turned : {scratch n : ℕ} {e : End} {a b : ℕ} → Judged scratch n e turned a b → b ≡ 0
judged_turned (rotated done sized None-found other) = refl
