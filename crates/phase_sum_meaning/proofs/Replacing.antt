-- Replacing a variable z by a parity: where z has the parity's value, the phase and the wires keep theirs; and what comes out
-- does not depend on z. So a pin keeps the diagonal.
-- Assumes nothing.
use mathlib.Core.Path.{◌≡◌, refl, sym, ◌∙◌, ap}
use mathlib.Core.Bool.{Bool, true, false, cond, xor, and-false, true≢false}
use mathlib.Core.List.{List, [], ◌∷◌, map}
use Prim.Native.Nat.{ℕ, zero, suc, ◌+◌, ◌%◌, ◌<◌, ◌≤◌}
use native.Mathlib.Omega.{arith}
use lib.Dec.{eqb}
use lib.ListN.{get_or, get_or-map}
use borrow.Author.Tests.{eqb-true, eqb-false}
use Rattle.amplitude.specs.Number.{1ω}
use Rattle.amplitude.specs.Bits.{bit, flip}
use Rattle.amplitude.proofs.NumberLaws.{ω^_cong}
use Rattle.amplitude.proofs.BitLaws.{bit_zero, bit-power_other}
use Rattle.phase_sum_meaning.specs.Sets.{◌△◌, single, parity}
use Rattle.phase_sum_meaning.specs.Parity.{Parity, value, of, ◌⊕◌, rest, replace_in}
use Rattle.phase_sum_meaning.specs.Phase.{Term, Phase, sum_at, phase_at}
use Rattle.phase_sum_meaning.specs.Building.{PathSum, wire, input}
use Rattle.phase_sum_meaning.specs.Stepping.{replace}
use Rattle.phase_sum_meaning.specs.Meaning.{both, phasor, closes, on_diagonal}
use Rattle.amplitude.proofs.XorLaws.{xor_cancel, xor_trueˡ, xor_falseˡ, xor_falseʳ}
use Rattle.phase_sum_meaning.proofs.SetLaws.{bit-△, △_comm, △_assoc, △_cancel}
use Rattle.phase_sum_meaning.proofs.ParityLaws.{value-⊕, value_of, value-flip, rest_free, value_rest, value-replace_in, replace_in_free, replace_in_absent}
use Rattle.phase_sum_meaning.proofs.PhaseLaws.{sum_by, phase_at-rebuild, sum_at_free, free_rebuild}
use Rattle.phase_sum_meaning.proofs.Summing.{both_pinned}

-- sets sent to parities of the same values: the terms add the same
pub sum_by_same : (f : ℕ → Parity) (ts : List Term) (x : ℕ) → ((u : ℕ) → value (f u) x ≡ parity u x) → sum_by f ts x ≡ sum_at ts x
unfolding sum_by sum_at
sum_by_same f [] x h = refl
sum_by_same f (t ∷ ts) x h = rw (h t.set, sum_by_same f ts x h)

-- where z has p's value, replacing z by p keeps the phase
pub phase_replace :
    (z : ℕ) (p : Parity) (s : PathSum) (x : ℕ) →
    bit z x ≡ value p x →
    phase_at (replace z p s).phase x % 8 ≡ phase_at s.phase x % 8
unfolding replace phase_at
phase_replace z p s x h =
    phase_at-rebuild (λ u. replace_in z p (of u)) s.phase.constant s.phase.terms x
    ∙ ap (λ (n : ℕ). (s.phase.constant + n) % 8)
    (sum_by_same _ s.phase.terms x (λ u. value-replace_in z p (of u) x h ∙ value_of u x))

-- the phase after it does not depend on z, where p does not
pub phase_replace_free :
    (z : ℕ) (p : Parity) (s : PathSum) (x : ℕ) →
    bit z p.vars ≡ false →
    phase_at (replace z p s).phase (flip z x) ≡ phase_at (replace z p s).phase x
unfolding replace phase_at
phase_replace_free z p s x h =
    ap (λ (n : ℕ). (replace z p s).phase.constant + n)
    (sum_at_free z _ x (free_rebuild z (λ u. replace_in z p (of u)) _ _ (λ u. replace_in_free z p (of u) h)))

-- replacing z, which w holds and p does not, by the rest of w ⊕ p turns w into p
pub replace_in_rest :
    (z : ℕ) (w p : Parity) →
    bit z p.vars ≡ false →
    bit z (◌⊕◌ w p).vars ≡ true →
    replace_in z (rest z (◌⊕◌ w p)) w ≡ p
unfolding replace_in ◌⊕◌ rest
replace_in_rest z w p f h =
    let held : bit z w.vars ≡ true = sym (xor_falseʳ (bit z w.vars)) ∙ rw (← f, ← bit-△ z w.vars p.vars) h in
    rw held (λ i. record { vars = vars i; flipped = xor_cancel w.flipped p.flipped i })
  where
    vars : (w.vars △ single z) △ ((w.vars △ p.vars) △ single z) ≡ p.vars
    vars =
        rw (△_comm w.vars p.vars, △_assoc p.vars w.vars (single z), △_comm (w.vars △ single z))
        (△_cancel p.vars (w.vars △ single z))

-- replacing z in a path sum replaces it in each wire
pub wire-replace : (z : ℕ) (p : Parity) (q : ℕ) (s : PathSum) → wire q (replace z p s) ≡ replace_in z p (wire q s)
unfolding replace
wire-replace z p q s =
    ap (get_or (map (replace_in z p) s.wires) q) (sym (replace_in_absent z p (of 0) (bit_zero z)))
    ∙ get_or-map (replace_in z p) s.wires q (of 0)

-- a wire that does not hold z is kept
pub kept_wire : (z : ℕ) (p : Parity) (q : ℕ) (s : PathSum) → bit z (wire q s).vars ≡ false → wire q (replace z p s) ≡ wire q s
kept_wire z p q s h = wire-replace z p q s ∙ replace_in_absent z p (wire q s) h

-- phases that agree modulo 8 give one power of ω
pub phasor_cong : (φ ψ : Phase) (x : ℕ) → phase_at φ x % 8 ≡ phase_at ψ x % 8 → phasor φ x ≡ phasor ψ x
unfolding phasor
phasor_cong φ ψ x h = ω^_cong (phase_at φ x) (phase_at ψ x) 1ω h

-- an input holds no variable above its qubit
pub input_free : (scratch q z : ℕ) → q < z → bit z (input scratch q).vars ≡ false
unfolding input
input_free scratch q z l = go (bit q scratch)
  where
    go : (b : Bool) → bit z (cond b (of 0) (of (single q))).vars ≡ false
    go true = bit_zero z
    go false = bit-power_other z q (λ e. absurd (omega arith))

-- what closes at one assignment closes at another, of another sum, where each wire differs from its input alike
pub closes_same :
    (scratch n : ℕ) (s t : PathSum) (x y : ℕ) →
    ((q : ℕ) → q < n → value (◌⊕◌ (wire q s) (input scratch q)) x ≡ value (◌⊕◌ (wire q t) (input scratch q)) y) →
    closes scratch n s x ≡ closes scratch n t y
unfolding closes
closes_same scratch zero s t x y h = refl
closes_same scratch (suc n) s t x y h =
    rw (closes_same scratch n s t x y (λ q l. h q (omega arith)), h n (omega arith))

-- a wire that differs from its input closes nothing
pub closes_open :
    (scratch n q : ℕ) (s : PathSum) (x : ℕ) →
    q < n →
    value (◌⊕◌ (wire q s) (input scratch q)) x ≡ true →
    closes scratch n s x ≡ false
unfolding closes
closes_open scratch zero q s x l h = absurd (omega arith)
closes_open scratch (suc n) q s x l h = go (eqb q n) refl (closes_open scratch n q s x)
  where
    go :
        (b : Bool) → eqb q n ≡ b →
        (q < n → value (◌⊕◌ (wire q s) (input scratch q)) x ≡ true → closes scratch n s x ≡ false) →
        closes scratch (suc n) s x ≡ false
    go true e below = rw (← eqb-true q n e, h) (and-false (closes scratch q s x))
    go false e below = rw (below (omega (arith, eqb-false q n e)) h)

-- where z has p's value, replacing z by p keeps the power of ω
pub phasor-replace :
    (z : ℕ) (p : Parity) (s : PathSum) (x : ℕ) → bit z x ≡ value p x → phasor (replace z p s).phase x ≡ phasor s.phase x
phasor-replace z p s x h = phasor_cong (replace z p s).phase s.phase x (phase_replace z p s x h)

-- that power does not depend on z, where p does not
pub phasor-replace_free :
    (z : ℕ) (p : Parity) (s : PathSum) (x : ℕ) →
    bit z p.vars ≡ false →
    phasor (replace z p s).phase (flip z x) ≡ phasor (replace z p s).phase x
unfolding phasor
phasor-replace_free z p s x h = rw (phase_replace_free z p s x h)

-- where z has p's value, replacing z by p keeps what the assignment adds to the diagonal
pub on_diagonal-replace :
    (scratch n z : ℕ) (p : Parity) (s : PathSum) (x : ℕ) →
    bit z x ≡ value p x →
    on_diagonal scratch n (replace z p s) x ≡ on_diagonal scratch n s x
unfolding on_diagonal
on_diagonal-replace scratch n z p s x h =
    rw (closes_same scratch n (replace z p s) s x x (λ q l. same q), phasor-replace z p s x h)
  where
    same : (q : ℕ) → value (◌⊕◌ (wire q (replace z p s)) (input scratch q)) x ≡ value (◌⊕◌ (wire q s) (input scratch q)) x
    same q = simp (wire-replace, value-⊕, value-replace_in z p (wire q s) x h)

-- what it adds after that does not depend on the path variable z, where p does not
pub on_diagonal-replace_free :
    (scratch n z : ℕ) (p : Parity) (s : PathSum) (x : ℕ) →
    n ≤ z →
    bit z p.vars ≡ false →
    on_diagonal scratch n (replace z p s) (flip z x) ≡ on_diagonal scratch n (replace z p s) x
unfolding on_diagonal
on_diagonal-replace_free scratch n z p s x m h =
    rw (closes_same scratch n (replace z p s) (replace z p s) (flip z x) x free, phasor-replace_free z p s x h)
  where
    free :
        (q : ℕ) →
        q < n →
        value (◌⊕◌ (wire q (replace z p s)) (input scratch q)) (flip z x)
        ≡ value (◌⊕◌ (wire q (replace z p s)) (input scratch q)) x
    free q l =
        simp (value-⊕, value-flip, wire-replace, replace_in_free z p (wire q s) h, input_free scratch q z (omega arith), xor_falseˡ)

-- where a parity is 0, z has the value of the rest
pub rest_value : (z : ℕ) (q : Parity) (x : ℕ) → value q x ≡ false → bit z x ≡ value (rest z q) x
rest_value z q x h = go (bit z x) (value (rest z q) x) (sym (value_rest z q x) ∙ h)
  where
    go : (a b : Bool) → xor a b ≡ false → a ≡ b
    go true true e = refl
    go true false e = absurd (true≢false (unfold xor in e))
    go false true e = absurd (true≢false (unfold xor in e))
    go false false e = refl

-- a pin keeps the diagonal: where wire q differs from its input nothing closes, and elsewhere z is the rest of their difference
pub pin_law :
    (scratch n q z : ℕ) (s : PathSum) →
    q < n →
    n ≤ z →
    bit z (◌⊕◌ (wire q s) (input scratch q)).vars ≡ true →
    both z (on_diagonal scratch n s) ≡ on_diagonal scratch n (replace z (rest z (◌⊕◌ (wire q s) (input scratch q))) s)
pin_law scratch n q z s l m h =
    let Q = ◌⊕◌ (wire q s) (input scratch q) in
    both_pinned
    z
    (value Q)
    (on_diagonal scratch n s)
    (on_diagonal scratch n (replace z (rest z Q) s))
    (λ x. rw (value-flip z Q x, h) (xor_trueˡ (value Q x)))
    (λ x. on_diagonal-replace_free scratch n z (rest z Q) s x m (rest_free z Q h))
    (λ x e. sym (on_diagonal-replace scratch n z (rest z Q) s x (rest_value z Q x e)))
    (λ x e. unfold on_diagonal in rw (closes_open scratch n q s x l e))

-- after the pin the wire is its input
pub pinned-wire :
    (scratch q z : ℕ) (s : PathSum) →
    q < z →
    bit z (◌⊕◌ (wire q s) (input scratch q)).vars ≡ true →
    wire q (replace z (rest z (◌⊕◌ (wire q s) (input scratch q))) s) ≡ input scratch q
pinned-wire scratch q z s l h =
    wire-replace z (rest z (◌⊕◌ (wire q s) (input scratch q))) q s
    ∙ replace_in_rest z (wire q s) (input scratch q) (input_free scratch q z l) h
