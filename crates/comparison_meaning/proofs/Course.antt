-- The course of a comparison gives every pair exactly one result, that of the comparison: each of its relations leads to one end.
-- Assumes nothing.
use mathlib.Core.Path.{◌≡◌, refl, sym, ◌∙◌, ap}
use mathlib.Core.Logic.{◌↔◌}
use mathlib.Core.Bool.{true, false, true≢false}
use mathlib.Core.List.{List, [], ◌∷◌}
use mathlib.Core.Option.{some-ne-none}
use Prim.Native.Nat.{ℕ}
use native.Mathlib.Omega.{arith}
use lib.Dec.{eqb}
use lib.ListN.{length}
use borrow.Author.Tests.{eq-eqb, ne_eqb}
use Rattle.record_format.specs.Gate.{Gate, AllWithin}
use Rattle.phase_sum_meaning.specs.Parity.{Parity}
use Rattle.phase_sum_meaning.specs.Building.{PathSum}
use Rattle.phase_sum_meaning.specs.Stepping.{take_out, turned, Kind, sum, turn, constraint, kind_of}
use Rattle.comparison_meaning.specs.Reduction.{Counts, End, stops, blocks}
use Rattle.comparison_meaning.specs.Steps.{Ready, c_of, l_of, Step, sums, turns, joins, Blocked}
use Rattle.comparison_meaning.specs.Verdict.{Verdict, undecided, Result, result, left, power, judge, searched, miter, pinned_of, reduced_of, compare}
use Rattle.comparison_meaning.specs.Course.{Lowest, PathVariable, Pins, every_qubit, pins, agrees, unpinnable, TakesLowest, Reduces, none_ready, obstructed, steps_on, Continues, further, halted, Stuck, Judged, blocked, unready, unsized, found, same, rotated, Shown, shows, Course}
use Rattle.comparison_meaning.proofs.Pinning.{pins_course}
use Rattle.comparison_meaning.proofs.Outcomes.{continues, reduced-stops, judges, agreement_other, reason, judged_undecided}
use Rattle.comparison_meaning.proofs.Reached.{within_miter, pin_end}

-- the comparison's result is reached by the course
pub course_of :
    (scratch n : ℕ) (first second : List Gate) → AllWithin n first → AllWithin n second → Course scratch n first second (compare scratch n first second)
unfolding compare
course_of scratch n first second l r =
    record {
      pinning = pinned_of scratch n first second;
      end = reduced_of scratch n first second;
      pins = pins_course scratch n (miter first second) (within_miter scratch n first second l r);
      steps = continues n (pinned_of scratch n first second) (pin_end scratch n first second l r).good;
      shown = judges scratch n (reduced_of scratch n first second);
    }

-- a result is undecided exactly where its course ends stuck
pub undecided_if_stuck :
    {scratch n : ℕ} {first second : List Gate} {r : Result} (c : Course scratch n first second r) → (r.verdict ≡ undecided) ↔ Stuck c.end
undecided_if_stuck {scratch} {n} c =
    (λ h. stops (rw h at (reason c.shown)), λ h. judged_undecided (reason c.shown) h.0 h.1)
  where
    stops : {a b : ℕ} → Judged scratch n c.end undecided a b → Stuck c.end
    stops (unready free some_left) = (free, some_left, λ y ready. true≢false (sym (reduced-stops c.steps free y ready.0) ∙ ready.1))

-- a list of length 0 is empty
length_zero : (vs : List ℕ) → length vs ≡ 0 → vs ≡ []
length_zero [] e = refl
length_zero (v ∷ vs) e = absurd (omega arith)

-- a kind has one lowest number
one_lowest : {P : ℕ → Type 0} {y z : ℕ} → Lowest P y → Lowest P z → y ≡ z
one_lowest {y} {z} a b = omega (arith, a.least z b.is, b.least y a.is)

-- pinning from the last qubit on stops at once
pins_none : {scratch n q : ℕ} {s : PathSum} {c : Counts} {e : End} → Pins scratch n q s c e → q ≡ n → stops s c ≡ e
pins_none every_qubit last = refl
pins_none (pins z l low more) last = absurd (omega arith)
pins_none (agrees l empty zer more) last = absurd (omega arith)
pins_none (unpinnable l empty nonzero) last = absurd (omega arith)

-- pinning leads to one end
one_pinning : {scratch n q : ℕ} {s : PathSum} {c : Counts} {e f : End} → Pins scratch n q s c e → Pins scratch n q s c f → e ≡ f
one_pinning every_qubit more = pins_none more refl
one_pinning (pins z l low more) every_qubit = absurd (omega arith)
one_pinning {scratch} {n} {q} {s} {c} {f} (pins z l low more) (pins y m low' more') =
    one_pinning more
    (rw (one_lowest low' low) at more')
one_pinning (pins z l low more) (agrees m empty zer more') = absurd (empty z low.is)
one_pinning (pins z l low more) (unpinnable m empty nonzero) = absurd (empty z low.is)
one_pinning (agrees l empty zer more) every_qubit = absurd (omega arith)
one_pinning (agrees l empty zer more) (pins z m low more') = absurd (empty z low.is)
one_pinning (agrees l empty zer more) (agrees m empty' zer' more') = one_pinning more more'
one_pinning (agrees l empty zer more) (unpinnable m empty' nonzero) = absurd (true≢false (sym zer ∙ nonzero))
one_pinning (unpinnable l empty nonzero) every_qubit = absurd (omega arith)
one_pinning (unpinnable l empty nonzero) (pins z m low more') = absurd (empty z low.is)
one_pinning (unpinnable l empty nonzero) (agrees m empty' zer more') = absurd (true≢false (sym zer ∙ nonzero))
one_pinning (unpinnable l empty nonzero) (unpinnable m empty' nonzero') = refl

-- one variable's C and L show one kind of step
one_kind : (s : PathSum) {x y : ℕ} {a b : Kind} → x ≡ y → kind_of (c_of x s) (l_of x s) ≡ a → kind_of (c_of y s) (l_of y s) ≡ b → a ≡ b
one_kind s e f g = sym f ∙ rw e g

-- the kinds differ
sum≢turn : sum ≡ turn → ⊥
sum≢turn e = let z : ◌≡◌ {A = ℕ} 0 1 = cc in omega arith

sum≢constraint : sum ≡ constraint → ⊥
sum≢constraint e = let z : ◌≡◌ {A = ℕ} 0 1 = cc in omega arith

turn≢constraint : turn ≡ constraint → ⊥
turn≢constraint e = let z : ◌≡◌ {A = ℕ} 0 1 = cc in omega arith

-- two sums with their counts are the same
abbrev Same : PathSum → Counts → PathSum → Counts → Type 0
Same t d u e = (t ≡ u) × (d ≡ e)

-- steps at the lowest ready variable, a join at the lowest path variable of L, lead to one sum and its counts
one_step :
    (n : ℕ) {s t u : PathSum} {c d e : Counts} (a : Step s c t d) (b : Step s c u e) → TakesLowest n a → TakesLowest n b → Same t d u e
one_step n {s} (sums y r k) (sums x r' k') low low' = (ap (λ v. take_out v s) (one_lowest low low'), refl)
one_step n {s} (sums y r k) (turns x r' k') low low' = absurd (sum≢turn (one_kind s (one_lowest low low') k k'))
one_step n {s} (sums y r k) (joins x z r' k' a h) low low' = absurd (sum≢constraint (one_kind s (one_lowest low low'.0) k k'))
one_step n {s} (turns y r k) (sums x r' k') low low' = absurd (sum≢turn (one_kind s (one_lowest low' low) k' k))
one_step n {s} (turns y r k) (turns x r' k') low low' = (ap (λ v. turned (c_of v s) (l_of v s) (take_out v s)) (one_lowest low low'), refl)
one_step n {s} (turns y r k) (joins x z r' k' a h) low low' = absurd (turn≢constraint (one_kind s (one_lowest low low'.0) k k'))
one_step n {s} (joins y w r k a h) (sums x r' k') low low' = absurd (sum≢constraint (one_kind s (one_lowest low' low.0) k' k))
one_step n {s} (joins y w r k a h) (turns x r' k') low low' = absurd (turn≢constraint (one_kind s (one_lowest low' low.0) k' k))
one_step n {s} (joins y w r k a h) (joins x z r' k' a' h') low low' =
    let same-y : y ≡ x = one_lowest low.0 low'.0 in
    let lowest : Lowest (PathVariable n (l_of x s)) w = rw same-y at low.1 in
    let same-z : w ≡ z = one_lowest lowest low'.1 in
    (rw (same-y, same-z), refl)

-- a parity that blocks the lowest ready variable leaves no step at it
no_step_blocked : (n : ℕ) {s t : PathSum} {c d : Counts} {q : Parity} (b : Blocked s q) → Lowest (λ v. Ready v s) b.y → (a : Step s c t d) → TakesLowest n a → ⊥
no_step_blocked n {s} b low (sums y r k) low' = sum≢constraint (one_kind s (one_lowest low' low) k b.kind)
no_step_blocked n {s} b low (turns y r k) low' = turn≢constraint (one_kind s (one_lowest low' low) k b.kind)
no_step_blocked n {s} b low (joins y z r k a h) low' =
    let same-y : y ≡ b.y = one_lowest low'.0 low in
    true≢false (sym h ∙ rw same-y (b.free z (rw same-y at a)))

-- a step's variable is ready
step_ready : {s t : PathSum} {c d : Counts} → Step s c t d → (y : ℕ) × Ready y s
step_ready (sums y r k) = (y, r)
step_ready (turns y r k) = (y, r)
step_ready (joins y z r k a h) = (y, r)

-- the reduction leads to one end
one_reduction : {n : ℕ} {s : PathSum} {c : Counts} {e f : End} → Reduces n s c e → Reduces n s c f → e ≡ f
one_reduction (none_ready idle) (none_ready idle') = refl
one_reduction (none_ready idle) (obstructed b low empty) = absurd (idle b.y b.ready)
one_reduction (none_ready idle) (steps_on a low more) = absurd (idle (step_ready a).0 (step_ready a).1)
one_reduction (obstructed b low empty) (none_ready idle) = absurd (idle b.y b.ready)
one_reduction {s} {c} (obstructed b low empty) (obstructed b' low' empty') =
    ap (λ q. blocks q s c) (b.same ∙ rw (one_lowest low low') (sym b'.same))
one_reduction {n} (obstructed b low empty) (steps_on a low' more) = absurd (no_step_blocked n b low a low')
one_reduction (steps_on a low more) (none_ready idle) = absurd (idle (step_ready a).0 (step_ready a).1)
one_reduction {n} (steps_on a low more) (obstructed b low' empty) = absurd (no_step_blocked n b low' a low)
one_reduction {n} (steps_on a low more) (steps_on b low' more') =
    let same = one_step n a b low low' in
    one_reduction more (rw (← same.0, ← same.1) at more')

-- so does what follows pinning
one_continuation : {n : ℕ} {p e f : End} → Continues n p e → Continues n p f → e ≡ f
one_continuation (further h more) (further h' more') = one_reduction more more'
one_continuation (further h more) (halted {q} h') = absurd (some-ne-none q (sym h' ∙ h))
one_continuation (halted {q} h) (further h' more) = absurd (some-ne-none q (sym h ∙ h'))
one_continuation (halted h) (halted h') = refl

-- no path variable is left
none_left : (e : End) → e.sum.live ≡ [] → eqb (left e) 0 ≡ true
none_left e empty = rw empty

-- and an end shows one result, its verdict's
judged_is : {scratch n : ℕ} {e : End} {v : Verdict} {a b : ℕ} → Judged scratch n e v a b → result v a b e ≡ judge scratch n e
unfolding judge searched
judged_is (blocked h) = rw h
judged_is {e} (unready h some_left) =
    let z : eqb (left e) 0 ≡ false = ne_eqb (left e) 0 (λ none_left. some_left (length_zero e.sum.live none_left)) in
    rw (h, judge, z)
judged_is {e} (unsized done unequal) =
    rw (done.0, judge, none_left e done.1, searched, ne_eqb e.counts.pins e.counts.sums unequal)
judged_is {e} (found done sized differs) =
    rw (done.0, judge, none_left e done.1, searched, eq-eqb e.counts.pins e.counts.sums sized, differs)
judged_is {e} (same done sized None-found one) =
    rw (done.0, judge, none_left e done.1, searched, eq-eqb e.counts.pins e.counts.sums sized, None-found, one)
judged_is {e} (rotated done sized None-found other) =
    rw (done.0, judge, none_left e done.1, searched, eq-eqb e.counts.pins e.counts.sums sized, None-found, agreement_other (power e) other)

-- so a result is document 01's course for a pair only if it is the comparison's
pub only_course :
    (scratch n : ℕ) (first second : List Gate) (r : Result) →
    AllWithin n first →
    AllWithin n second →
    Course scratch n first second r →
    r ≡ compare scratch n first second
only_course scratch n first second r l l' course = is course.shown ∙ (ap (judge scratch n) end ∙ sym (is whole.shown))
  where
    is : {e : End} {o : Result} → Shown scratch n e o → o ≡ judge scratch n e
    is (shows j) = judged_is j

    whole : Course scratch n first second (compare scratch n first second)
    whole = course_of scratch n first second l l'

    pinning : course.pinning ≡ whole.pinning
    pinning = one_pinning course.pins whole.pins

    end : course.end ≡ whole.end
    end = one_continuation (rw pinning at course.steps) whole.steps
