-- Merging terms in any order gives one canonical form: the coefficients at each set, added up mod 8. So the terms of a gate list
-- may be put one behind the other and merged once, and merging before the sets are sent to parities changes nothing.
-- Assumes nothing.
use mathlib.Core.Path.{◌≡◌, refl, sym, ◌∙◌, ap, ap₂}
use Prim.Native.Nat.{ℕ, ◌+◌, ◌*◌, ◌/◌, ◌%◌, ◌≤◌}
use native.Mathlib.Nat.{zero-add, add-mul, mul_right_comm, div-add-mod'}
use native.Mathlib.Omega.{arith}
use mathlib.Core.Bool.{Bool, true, false, cond}
use mathlib.Core.List.{List, [], ◌∷◌, ◌++◌, map}
use lib.Dec.{eqb}
use borrow.Author.Tests.{eqb-true, eqb-false, ne_eqb}
use Rattle.record_format.specs.Gate.{Gate, one, two, X, Y, Z, S, S†, T, T†, H, CX, CZ, SWAP}
use Rattle.amplitude.specs.Bits.{digit}
use Rattle.phase_sum_meaning.specs.Parity.{Parity, of, complement}
use Rattle.phase_sum_meaning.specs.Phase.{Term, Phase, minus, keep, merge, rebuild, add_term, add_constant, add_phase}
use Rattle.phase_sum_meaning.specs.Phase.{Canonical}
use Rattle.phase_sum_meaning.specs.Building.{PathSum, wire, set_wire, with_phase, hadamard_by, initial, gate_by, gate, gates_from, build}
use Rattle.phase_sum_types.specs.Workspace.{sets_of, coeffs_of, merged}
use Rattle.phase_sum_types.specs.Unmerged.{phase_term, put_behind, append_gate, append_gates}
use Rattle.phase_sum_types.specs.Inner.{total, sent_to}
use Rattle.phase_sum_meaning.proofs.PhaseLaws.{keep_cases, merge_cases}
use Rattle.phase_sum_meaning.proofs.CanonicalLaws.{canonical_rebuild, coeff_of, coeff_of_above, coeff_of_merge, canonical_unique}

-- merged terms are in canonical form
pub canonical_merged : (ts : List Term) → Canonical (merged ts)
canonical_merged ts = canonical_rebuild of 0 ts

-- the coefficient at a set after merging
pub coeff_of_merged : (u : ℕ) (ts : List Term) → (u ≡ 0 → ⊥) → coeff_of u (merged ts) ≡ total u (sets_of ts) (coeffs_of ts) % 8
unfolding rebuild add_phase add_term coeff_of total
coeff_of_merged u [] ne = refl
coeff_of_merged u (t ∷ ts) ne = go (eqb t.set 0) (eqb u t.set) refl refl (coeff_of_merged u ts ne)
  where
    go :
        (a b : Bool) →
        eqb t.set 0 ≡ a →
        eqb u t.set ≡ b →
        coeff_of u (merged ts) ≡ total u (sets_of ts) (coeffs_of ts) % 8 →
        coeff_of u (cond (eqb t.set 0) (merged ts) (merge t.set t.coeff (merged ts)))
        ≡ (cond (eqb u t.set) t.coeff 0 + total u (sets_of ts) (coeffs_of ts)) % 8
    go true b p q e = rw (p, ne_eqb u t.set (omega (arith, eqb-true t.set 0 p)), zero-add) e
    go false true p q e =
        rw (p, coeff_of_merge u t.set t.coeff (merged ts) (canonical_merged ts), q, ← eqb-true u t.set q, e) (omega arith)
    go false false p q e = rw (p, coeff_of_merge u t.set t.coeff (merged ts) (canonical_merged ts), q, zero-add) e

-- a canonical list with the coefficients of some terms is these terms merged
pub merged_unique :
    (ts us : List Term) →
    Canonical us →
    ((u : ℕ) → (u ≡ 0 → ⊥) → coeff_of u us ≡ total u (sets_of ts) (coeffs_of ts) % 8) →
    merged ts ≡ us
merged_unique ts us e h = canonical_unique (merged ts) us (canonical_merged ts) e (λ u. go u (eqb u 0) refl)
  where
    go : (u : ℕ) (b : Bool) → eqb u 0 ≡ b → coeff_of u (merged ts) ≡ coeff_of u us
    go u true q =
        let l : u ≤ 0 = omega (arith, eqb-true u 0 q) in
        coeff_of_above u 0 (merged ts) l (canonical_merged ts) ∙ sym (coeff_of_above u 0 us l e)
    go u false q = coeff_of_merged u ts (eqb-false u 0 q) ∙ sym (h u (eqb-false u 0 q))

-- terms with the same coefficients at every set mod 8, the empty set apart, merge to the same
pub merged_same :
    (ts us : List Term) →
    ((u : ℕ) → (u ≡ 0 → ⊥) → total u (sets_of ts) (coeffs_of ts) % 8 ≡ total u (sets_of us) (coeffs_of us) % 8) →
    merged ts ≡ merged us
merged_same ts us h = merged_unique ts (merged us) (canonical_merged us) (λ u ne. coeff_of_merged u us ne ∙ sym (h u ne))

-- the terms with one more merged in, the empty set dropped
unfoldable pub added : Term → List Term → List Term
added t ts = cond (eqb t.set 0) ts (merge t.set t.coeff ts)

-- a phase c on a parity, by its parts: the constant changes and the term is merged in
abbrev phased : ℕ → Parity → Phase → Phase
phased c p φ = record { constant = (put_behind c p φ).constant; terms = added (phase_term c p) φ.terms }

-- adding a phase on a parity is that
add_phase_parts : (c : ℕ) (p : Parity) (φ : Phase) → add_phase c p φ ≡ phased c p φ
unfolding add_phase add_term add_constant phase_term put_behind added
add_phase_parts c p φ = go p.flipped refl
  where
    go : (b : Bool) → p.flipped ≡ b → add_phase c p φ ≡ phased c p φ
    go true e = rw e
    go false e = rw e

-- merging with one more term in front merges it in
merged_cons : (t : Term) (ts : List Term) → merged (t ∷ ts) ≡ added t (merged ts)
unfolding rebuild add_phase add_term added
merged_cons t ts = refl

-- rebuilding is sending each term and merging
pub rebuild-merged : (f : ℕ → Parity) (k : ℕ) (ts : List Term) → (rebuild f k ts).terms ≡ merged (map (sent_to f) ts)
unfolding rebuild
rebuild-merged f k [] = refl
rebuild-merged f k (t ∷ ts) =
    ap (λ (φ : Phase). φ.terms) (add_phase_parts t.coeff (f t.set) (rebuild f k ts))
    ∙ (ap (added (sent_to f t)) (rebuild-merged f k ts) ∙ sym (merged_cons (sent_to f t) (map (sent_to f) ts)))

-- phases on parities change the constant in either order
constant_swap :
    (a b : Bool) (c d k : ℕ) →
    cond a ((cond b ((k + d) % 8) k + c) % 8) (cond b ((k + d) % 8) k)
    ≡ cond b ((cond a ((k + c) % 8) k + d) % 8) (cond a ((k + c) % 8) k)
constant_swap true true c d k = omega arith
constant_swap true false c d k = refl
constant_swap false b c d k = refl

-- the constant of a rebuilt phase, one term more at the end
pub rebuild_constant :
    (f : ℕ → Parity) (k : ℕ) (ts : List Term) (t : Term) →
    (rebuild f k (ts ++ t ∷ [])).constant
    ≡ cond (f t.set).flipped (((rebuild f k ts).constant + t.coeff) % 8) (rebuild f k ts).constant
unfolding rebuild put_behind
rebuild_constant f k [] t = rw add_phase_parts
rebuild_constant f k (u ∷ ts) t =
    simp (add_phase_parts, rebuild_constant f k ts t)
    (constant_swap (f u.set).flipped (f t.set).flipped u.coeff t.coeff (rebuild f k ts).constant)

-- a multiple of a remainder mod 8 is that of the number, mod 8
mod_times : (c w n : ℕ) → (c % 8 * w + n) % 8 ≡ (c * w + n) % 8
mod_times c w n =
    let e : c * w ≡ (c / 8 * 8 + c % 8) * w = ap (λ (a : ℕ). a * w) (sym (div-add-mod' c 8)) in
    let f : c / 8 * 8 * w ≡ c / 8 * w * 8 = mul_right_comm (c / 8) 8 w in
    omega (arith, add-mul (c / 8 * 8) (c % 8) w)

-- the coefficients of terms, each times a weight of its set, added up
unfoldable weighed : (ℕ → ℕ) → List Term → ℕ
weighed w [] = 0
weighed w (t ∷ ts) = t.coeff * w t.set + weighed w ts

-- that, with a term kept in front
weighed_keep : (w : ℕ → ℕ) (s c : ℕ) (ts : List Term) → weighed w (keep s c ts) % 8 ≡ (c * w s + weighed w ts) % 8
unfolding weighed
weighed_keep w s c ts =
    keep_cases
    (λ us. weighed w us % 8 ≡ (c * w s + weighed w ts) % 8)
    s
    c
    ts
    (λ e. omega (arith, rw e at (mod_times c (w s) (weighed w ts))))
    (λ ne. mod_times c (w s) (weighed w ts))

-- that, with a term merged in
weighed_merge : (w : ℕ → ℕ) (s c : ℕ) (ts : List Term) → weighed w (merge s c ts) % 8 ≡ (c * w s + weighed w ts) % 8
unfolding merge weighed
weighed_merge w s c [] = weighed_keep w s c []
weighed_merge w s c (t ∷ ts) =
    merge_cases
    (λ us. weighed w us % 8 ≡ (c * w s + weighed w (t ∷ ts)) % 8)
    s
    c
    t
    ts
    (λ l. weighed_keep w s c (t ∷ ts))
    (λ e. weighed_keep w s (c + t.coeff) ts ∙ rw (← e) (omega (arith, add-mul c t.coeff (w s))))
    (λ l. omega (arith, weighed_merge w s c ts))

-- merging changes nothing of it mod 8 where the empty set has the weight 0
weighed_merged : (w : ℕ → ℕ) (ts : List Term) → w 0 ≡ 0 → weighed w (merged ts) % 8 ≡ weighed w ts % 8
unfolding weighed added rebuild
weighed_merged w [] z = refl
weighed_merged w (t ∷ ts) z = rw (merged_cons t ts) (go (eqb t.set 0) refl (weighed_merged w ts z))
  where
    go :
        (b : Bool) →
        eqb t.set 0 ≡ b →
        weighed w (merged ts) % 8 ≡ weighed w ts % 8 →
        weighed w (added t (merged ts)) % 8 ≡ (t.coeff * w t.set + weighed w ts) % 8
    go true e h = rw (e, eqb-true t.set 0 e, z) (omega arith)
    go false e h = rw e (omega (arith, weighed_merge w t.set t.coeff (merged ts)))

-- what a set's term adds at the set u once the set is sent by f: its coefficient, or minus that
abbrev weight_at : (ℕ → Parity) → ℕ → ℕ → ℕ
weight_at f u s = cond (eqb u (f s).vars) (cond (f s).flipped 7 1) 0

-- the coefficients at a set after sending
total_sent :
    (f : ℕ → Parity) (u : ℕ) (ts : List Term) →
    total u (sets_of (map (sent_to f) ts)) (coeffs_of (map (sent_to f) ts)) % 8 ≡ weighed (weight_at f u) ts % 8
unfolding total phase_term weighed
total_sent f u [] = refl
total_sent f u (t ∷ ts) = go (eqb u (f t.set).vars) (f t.set).flipped _ _ (total_sent f u ts)
  where
    go :
        (a b : Bool) (n m : ℕ) →
        n % 8 ≡ m % 8 →
        (cond a (cond b (minus t.coeff) t.coeff) 0 + n) % 8 ≡ (t.coeff * cond a (cond b 7 1) 0 + m) % 8
    go true true n m h = omega arith
    go true false n m h = omega arith
    go false b n m h = omega arith

-- the constant of a rebuilt phase: the coefficients of the sets that are sent to complemented parities, added up
constant_sent :
    (f : ℕ → Parity) (k : ℕ) (ts : List Term) →
    (rebuild f k ts).constant ≡ (k + weighed (λ s. digit (f s).flipped) ts) % 8
unfolding rebuild weighed put_behind
constant_sent f k [] = omega arith
constant_sent f k (t ∷ ts) = rw add_phase_parts (go (f t.set).flipped _ _ (constant_sent f k ts))
  where
    go : (b : Bool) (n m : ℕ) → n ≡ (k + m) % 8 → cond b ((n + t.coeff) % 8) n ≡ (k + (t.coeff * digit b + m)) % 8
    go true n m h = omega arith
    go false n m h = omega arith

-- merging before sending changes nothing, where the empty set is sent to itself
pub rebuild_again : (f : ℕ → Parity) (k : ℕ) (ts : List Term) → f 0 ≡ of 0 → rebuild f (k % 8) (merged ts) ≡ rebuild f k ts
rebuild_again f k ts z = ap₂ {B = List Term} (λ c us. record { constant = c; terms = us }) constants terms
  where
    constants : (rebuild f (k % 8) (merged ts)).constant ≡ (rebuild f k ts).constant
    constants =
        let e = weighed_merged (λ s. digit (f s).flipped) ts (rw z) in
        omega (arith, constant_sent f (k % 8) (merged ts), constant_sent f k ts)

    same :
        (u : ℕ) →
        (u ≡ 0 → ⊥) →
        total u (sets_of (map (sent_to f) (merged ts))) (coeffs_of (map (sent_to f) (merged ts))) % 8
        ≡ total u (sets_of (map (sent_to f) ts)) (coeffs_of (map (sent_to f) ts)) % 8
    same u ne =
        total_sent f u (merged ts)
        ∙ (weighed_merged (weight_at f u) ts (rw (z, ne_eqb u 0 ne)) ∙ sym (total_sent f u ts))

    terms : (rebuild f (k % 8) (merged ts)).terms ≡ (rebuild f k ts).terms
    terms =
        rebuild-merged f (k % 8) (merged ts)
        ∙ (merged_same (map (sent_to f) (merged ts)) (map (sent_to f) ts) same ∙ sym (rebuild-merged f k ts))

-- the coefficients at a set of terms behind others
total-append :
    (u : ℕ) (ts us : List Term) →
    total u (sets_of (ts ++ us)) (coeffs_of (ts ++ us))
    ≡ total u (sets_of ts) (coeffs_of ts) + total u (sets_of us) (coeffs_of us)
unfolding total
total-append u [] us = omega arith
total-append u (t ∷ ts) us = omega (arith, total-append u ts us)

-- merging with one more term at the end merges it in
pub merged_last : (ts : List Term) (t : Term) → merged (ts ++ t ∷ []) ≡ added t (merged ts)
merged_last ts t = merged_same (ts ++ t ∷ []) (t ∷ ts) (λ u ne. go u) ∙ merged_cons t ts
  where
    go :
        (u : ℕ) →
        total u (sets_of (ts ++ t ∷ [])) (coeffs_of (ts ++ t ∷ [])) % 8 ≡ total u (sets_of (t ∷ ts)) (coeffs_of (t ∷ ts)) % 8
    go u = omega (arith, total-append u ts (t ∷ []), total-append u (t ∷ []) ts)

-- a phase with its terms merged
abbrev merged_phase : Phase → Phase
merged_phase φ = record { constant = φ.constant; terms = merged φ.terms }

-- a phase put behind the others, then merged, is that phase added to the merged ones
merged_put : (c : ℕ) (p : Parity) (φ : Phase) → merged_phase (put_behind c p φ) ≡ add_phase c p (merged_phase φ)
unfolding put_behind
merged_put c p φ = rw (add_phase_parts, merged_last)

-- a sum with its terms merged
abbrev pub merged_sum : PathSum → PathSum
merged_sum s = with_phase (merged_phase s.phase) s

-- a gate with its terms behind the others, then merged, is the gate on the merged sum
merged-gate : (n : ℕ) (g : Gate) (s : PathSum) → merged_sum (append_gate n g s) ≡ gate n g (merged_sum s)
unfolding gate_by with_phase set_wire hadamard_by add_constant
merged-gate n (one X q) s = refl
merged-gate n (one Y q) s =
    ap (λ (φ : Phase). set_wire q (complement (wire q s)) (with_phase (add_constant 2 φ) s)) (merged_put 4 (wire q s) s.phase)
merged-gate n (one Z q) s = simp merged_put
merged-gate n (one S q) s = simp merged_put
merged-gate n (one S† q) s = simp merged_put
merged-gate n (one T q) s = simp merged_put
merged-gate n (one T† q) s = simp merged_put
merged-gate n (one H q) s = simp merged_put
merged-gate n (two CX a b) s = refl
merged-gate n (two CZ a b) s = simp merged_put
merged-gate n (two SWAP a b) s = refl

-- gates with their terms one behind the other, merged at the end, are the gates merged one by one
pub merged_gates : (n : ℕ) (gs : List Gate) (s : PathSum) → merged_sum (append_gates n gs s) ≡ gates_from n gs (merged_sum s)
unfolding append_gates gates_from
merged_gates n [] s = refl
merged_gates n (g ∷ gs) s = merged_gates n gs (append_gate n g s) ∙ ap (gates_from n gs) (merged-gate n g s)

-- so is the sum of a list
pub merged-build : (scratch n : ℕ) (gs : List Gate) → merged_sum (append_gates n gs (initial scratch n)) ≡ build scratch n gs
unfolding build initial with_phase rebuild
merged-build scratch n gs = merged_gates n gs (initial scratch n)
