-- The steps of the reduction: a ready variable y, summed over both its values, leaves what the sum, the turn and the join say.
-- With C and L as document 01 has them, the two values of y add up to 1 + i^C (−1)^L times what is left without y.
-- Assumes nothing.
use mathlib.Core.Path.{◌≡◌, refl, sym, ◌∙◌, ap, fun_ext}
use mathlib.Core.Bool.{Bool, true, false, not, cond, xor}
use Prim.Native.Nat.{ℕ, zero, suc, ◌+◌, ◌*◌, ◌/◌, ◌%◌, ◌<◌}
use native.Mathlib.Omega.{arith}
use lib.Dec.{eqb}
use borrow.Author.Tests.{eqb-true, eqb-false}
use Rattle.amplitude.specs.Number.{Zω, 0ω, 1ω, ◌+ω◌, ω^, mul√2, √2^}
use Rattle.amplitude.specs.Bits.{digit, bit, flip}
use Rattle.amplitude.proofs.NumberLaws.{+ω_comm, +ω_invr, ω^-add, ω^_cong, ω^_four, ω^_eight, neg-neg, mul√2_twice}
use Rattle.amplitude.proofs.BitLaws.{bit-flip_same}
use Rattle.amplitude.proofs.Linear.{ω^_zero}
use Rattle.phase_sum_meaning.specs.Sets.{parity}
use Rattle.phase_sum_meaning.specs.Parity.{value, rest}
use Rattle.phase_sum_meaning.specs.Phase.{phase_at, in_odd, add_constant}
use Rattle.phase_sum_meaning.specs.Building.{PathSum}
use Rattle.phase_sum_meaning.specs.Stepping.{replace, half_sum, odd_halves, take_out, turned, Kind, sum, turn, constraint, kind_of, constrained}
use Rattle.phase_sum_meaning.specs.Meaning.{both, phasor}
use Rattle.amplitude.proofs.XorLaws.{xor_falseˡ, xor_trueˡ}
use Rattle.phase_sum_meaning.proofs.SetLaws.{parity_empty, parity-flip}
use Rattle.phase_sum_meaning.proofs.ParityLaws.{value-flip, rest_free}
use Rattle.phase_sum_meaning.proofs.PhaseLaws.{phase_at-add_term, phase_at-add_constant}
use Rattle.phase_sum_meaning.proofs.Summing.{both_pinned}
use Rattle.phase_sum_meaning.proofs.Replacing.{phasor_cong, phasor-replace, phasor-replace_free, rest_value}
use Rattle.phase_sum_meaning.proofs.TakingOut.{coeffs_even, odd_halves_free, take_out_free, phase_take_out}

-- 1 + 1 = √2√2
pub plus_one : (z : Zω) → z +ω z ≡ √2^ 2 z
unfolding √2^
plus_one z = sym (mul√2_twice z)

-- 1 + i = √2 ω
pub plus_i : (z : Zω) → z +ω ω^ 2 z ≡ √2^ 1 (ω^ 1 z)
unfolding √2^ mul√2
plus_i z = simp (← ω^-add, ω^_four, neg-neg) (+ω_comm z (ω^ 2 z))

-- 1 − 1 = 0
pub minus_one : (z : Zω) → z +ω ω^ 4 z ≡ 0ω
minus_one z = rw ω^_four (+ω_invr z)

-- 1 − i = √2 ω⁷
pub minus_i : (z : Zω) → z +ω ω^ 6 z ≡ √2^ 1 (ω^ 7 z)
unfolding √2^ mul√2
minus_i z = simp (← ω^-add, ω^_eight) (rw (ω^-add 4 6 z, ω^_four, neg-neg))

-- the power of ω that y adds where it is 1: 2C, and 4 where L is 1
abbrev pub turns : ℕ → PathSum → ℕ → ℕ
turns y s x = 2 * half_sum y s.phase.terms + 4 * digit (parity (odd_halves y s.phase.terms) x)

-- the same at both values of y, since L does not hold y
pub turns_free : (y : ℕ) (s : PathSum) (x : ℕ) → turns y s (flip y x) ≡ turns y s x
turns_free y s x = rw (parity-flip, odd_halves_free y s.phase.terms, xor_falseˡ)

-- what is left is the same at both values of y too
pub phasor-take_out_free : (y : ℕ) (s : PathSum) (x : ℕ) → phasor (take_out y s).phase (flip y x) ≡ phasor (take_out y s).phase x
unfolding phasor
phasor-take_out_free y s x = rw (take_out_free y s x)

-- where y is 0, what is left is all
pub phasor_zero :
    (y : ℕ) (s : PathSum) (x : ℕ) →
    in_odd y s.phase.terms ≡ false →
    bit y x ≡ false →
    phasor s.phase x ≡ phasor (take_out y s).phase x
phasor_zero y s x ready e =
    phasor_cong s.phase (take_out y s).phase x (phase_take_out y s x ready ∙ rw e (omega arith))

-- where y is 1, what is left is turned: the sum of the coefficients is even, so twice C is that sum modulo 8
pub phasor_one :
    (y : ℕ) (s : PathSum) (x : ℕ) →
    in_odd y s.phase.terms ≡ false →
    bit y x ≡ true →
    phasor s.phase x ≡ ω^ (turns y s x) (phasor (take_out y s).phase x)
unfolding phasor
phasor_one y s x ready e =
    ω^_cong (phase_at s.phase x) (turns y s x + phase_at (take_out y s).phase x) 1ω
    (phase_take_out y s x ready ∙ rw e (omega (arith, coeffs_even y s.phase.terms ready)))
    ∙ ω^-add (turns y s x) (phase_at (take_out y s).phase x) 1ω

-- both values of y together: 1 + i^C (−1)^L times what is left
pub both_ready :
    (y : ℕ) (s : PathSum) (x : ℕ) →
    in_odd y s.phase.terms ≡ false →
    both y (phasor s.phase) x ≡ phasor (take_out y s).phase x +ω ω^ (turns y s x) (phasor (take_out y s).phase x)
unfolding both
both_ready y s x ready = go (bit y x) refl
  where
    go :
        (b : Bool) →
        bit y x ≡ b →
        both y (phasor s.phase) x ≡ phasor (take_out y s).phase x +ω ω^ (turns y s x) (phasor (take_out y s).phase x)
    go true e =
        rw (phasor_one y s x ready e, phasor_zero y s (flip y x) ready (bit-flip_same y x ∙ ap not e), phasor-take_out_free y s x)
        (+ω_comm _ _)
    go false e =
        rw (
          phasor_zero y s x ready e,
          phasor_one y s (flip y x) ready (bit-flip_same y x ∙ ap not e),
          phasor-take_out_free y s x,
          turns_free y s x,
        )

-- the three kinds: a turn has C odd, a sum has C = 0 and L empty, a constraint has C even
pub kind_cases :
    (P : Kind → Type 0) (c l : ℕ) →
    (c % 2 ≡ 1 → P turn) →
    (c ≡ 0 → l ≡ 0 → P sum) →
    (c % 2 ≡ 0 → P constraint) →
    P (kind_of c l)
unfolding kind_of
kind_cases P c l turns sums constrains = go (eqb (c % 2) 1) (eqb c 0) (eqb l 0) refl refl refl
  where
    go :
        (o a b : Bool) →
        eqb (c % 2) 1 ≡ o →
        eqb c 0 ≡ a →
        eqb l 0 ≡ b →
        P (cond o turn (cond a (cond b sum constraint) constraint))
    go true a b e f g = turns (eqb-true (c % 2) 1 e)
    go false true true e f g = sums (eqb-true c 0 f) (eqb-true l 0 g)
    go false true false e f g = constrains (omega (arith, eqb-false (c % 2) 1 e))
    go false false b e f g = constrains (omega (arith, eqb-false (c % 2) 1 e))

-- so a sum has C = 0 and L empty
pub sum_kind : (c l : ℕ) → kind_of c l ≡ sum → (c ≡ 0) × (l ≡ 0)
sum_kind c l =
    kind_cases
    (λ k. k ≡ sum → (c ≡ 0) × (l ≡ 0))
    c
    l
    (λ o e. absurd (let n : ◌≡◌ {A = ℕ} 0 1 = cc in omega arith))
    (λ a b e. (a, b))
    (λ o e. absurd (let n : ◌≡◌ {A = ℕ} 0 1 = cc in omega arith))

-- a turn has C odd
pub turn_kind : (c l : ℕ) → kind_of c l ≡ turn → c % 2 ≡ 1
turn_kind c l =
    kind_cases
    (λ k. k ≡ turn → c % 2 ≡ 1)
    c
    l
    (λ o e. o)
    (λ a b e. absurd (let n : ◌≡◌ {A = ℕ} 0 1 = cc in omega arith))
    (λ o e. absurd (let n : ◌≡◌ {A = ℕ} 0 1 = cc in omega arith))

-- and a constraint has C even
pub constraint_kind : (c l : ℕ) → kind_of c l ≡ constraint → c % 2 ≡ 0
constraint_kind c l =
    kind_cases
    (λ k. k ≡ constraint → c % 2 ≡ 0)
    c
    l
    (λ o e. absurd (let n : ◌≡◌ {A = ℕ} 0 1 = cc in omega arith))
    (λ a b e. omega arith)
    (λ o e. o)

-- 1 + i^C (−1)^l for C odd
pub turn_number :
    (c : ℕ) (l : Bool) (z : Zω) →
    c < 4 →
    c % 2 ≡ 1 →
    z +ω ω^ (2 * c + 4 * digit l) z ≡ √2^ 1 (ω^ (cond (eqb c 1) 6 2 * digit l + cond (eqb c 1) 1 7) z)
turn_number zero l z m o = absurd (omega arith)
turn_number (suc zero) true z m o = minus_i z
turn_number (suc zero) false z m o = plus_i z
turn_number (suc (suc zero)) l z m o = absurd (omega arith)
turn_number (suc (suc (suc zero))) true z m o = rw (ω^_cong 10 2 z refl, ω^_cong 9 1 z refl) (plus_i z)
turn_number (suc (suc (suc zero))) false z m o = minus_i z
turn_number (suc (suc (suc (suc c)))) l z m o = absurd (omega arith)

-- 1 + i^C (−1)^l for C even
pub constraint_number :
    (c : ℕ) (l : Bool) (z : Zω) →
    c < 4 →
    c % 2 ≡ 0 →
    z +ω ω^ (2 * c + 4 * digit l) z ≡ cond (xor l (eqb (c / 2 % 2) 1)) 0ω (√2^ 2 z)
unfolding xor
constraint_number zero true z m o = minus_one z
constraint_number zero false z m o = rw ω^_zero (plus_one z)
constraint_number (suc zero) l z m o = absurd (omega arith)
constraint_number (suc (suc zero)) true z m o = rw ω^_eight (plus_one z)
constraint_number (suc (suc zero)) false z m o = minus_one z
constraint_number (suc (suc (suc zero))) l z m o = absurd (omega arith)
constraint_number (suc (suc (suc (suc c)))) l z m o = absurd (omega arith)

-- the power of ω of a turn
pub phasor-turned :
    (k l : ℕ) (s : PathSum) (x : ℕ) →
    phasor (turned k l s).phase x ≡ ω^ (cond (eqb k 1) 6 2 * digit (parity l x) + cond (eqb k 1) 1 7) (phasor s.phase x)
unfolding phasor turned
phasor-turned k l s x =
    let c : ℕ = cond (eqb k 1) 6 2 in
    let a : ℕ = cond (eqb k 1) 1 7 in
    ω^_cong _ (c * digit (parity l x) + a + phase_at s.phase x) 1ω
    (omega (arith, phase_at-add_term l c (add_constant a s.phase) x, phase_at-add_constant a s.phase x))
    ∙ ω^-add (c * digit (parity l x) + a) (phase_at s.phase x) 1ω

-- a sum: y gives 2
pub sum_law :
    (y : ℕ) (s : PathSum) →
    in_odd y s.phase.terms ≡ false →
    kind_of (half_sum y s.phase.terms) (odd_halves y s.phase.terms) ≡ sum →
    both y (phasor s.phase) ≡ (λ x. √2^ 2 (phasor (take_out y s).phase x))
sum_law y s ready kind =
    let none = sum_kind _ _ kind in
    fun_ext (λ x. both_ready y s x ready ∙ rw (none.0, none.1, parity_empty, ω^_zero) (plus_one _))

-- a turn: y gives √2 and a turn by L
pub turn_law :
    (y : ℕ) (s : PathSum) →
    in_odd y s.phase.terms ≡ false →
    kind_of (half_sum y s.phase.terms) (odd_halves y s.phase.terms) ≡ turn →
    both y (phasor s.phase)
    ≡ (λ x. √2^ 1 (phasor (turned (half_sum y s.phase.terms) (odd_halves y s.phase.terms) (take_out y s)).phase x))
turn_law y s ready kind =
    fun_ext (λ x.
    both_ready y s x ready
    ∙ turn_number (half_sum y s.phase.terms) (parity (odd_halves y s.phase.terms) x) _ (omega arith) (turn_kind _ _ kind)
    ∙ ap (√2^ 1) (sym (phasor-turned _ _ (take_out y s) x)))

-- a constraint: y gives 2 where L has the value that C asks for, and nothing elsewhere
pub constraint_law :
    (y : ℕ) (s : PathSum) →
    in_odd y s.phase.terms ≡ false →
    kind_of (half_sum y s.phase.terms) (odd_halves y s.phase.terms) ≡ constraint →
    both y (phasor s.phase)
    ≡ (λ x.
    cond (value (constrained (half_sum y s.phase.terms) (odd_halves y s.phase.terms)) x) 0ω (√2^ 2 (phasor (take_out y s).phase x)))
unfolding value
constraint_law y s ready kind =
    fun_ext (λ x. both_ready y s x ready ∙ constraint_number (half_sum y s.phase.terms) _ _ (omega arith) (constraint_kind _ _ kind))

-- a join: y and z give 2, and z is replaced by what the constraint makes of it
pub join_law :
    (y z : ℕ) (s : PathSum) →
    in_odd y s.phase.terms ≡ false →
    kind_of (half_sum y s.phase.terms) (odd_halves y s.phase.terms) ≡ constraint →
    bit z (odd_halves y s.phase.terms) ≡ true →
    both z (both y (phasor s.phase))
    ≡ (λ x.
    √2^ 2
    (phasor
    (replace z (rest z (constrained (half_sum y s.phase.terms) (odd_halves y s.phase.terms))) (take_out y s)).phase
    x))
join_law y z s ready kind held =
    let Q = constrained (half_sum y s.phase.terms) (odd_halves y s.phase.terms) in
    rw (constraint_law y s ready kind)
    (both_pinned
    z
    (value Q)
    _
    _
    (λ x. rw (value-flip z Q x, held) (xor_trueˡ (value Q x)))
    (λ x. ap (√2^ 2) (phasor-replace_free z (rest z Q) (take_out y s) x (rest_free z Q held)))
    (λ x e. rw (e, phasor-replace z (rest z Q) (take_out y s) x (rest_value z Q x e)))
    (λ x e. rw e))
