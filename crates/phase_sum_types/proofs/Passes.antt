-- One pass over the first places of a list or of two, changing what stands there: what it has done after i places, and what one
-- merging leaves behind such passes. And the values that a pass over terms adds up: the odd variables, C and L, with one term more
-- at the end.
-- Assumes nothing.
use mathlib.Core.Path.{◌≡◌, refl, sym, ap, ◌∙◌}
use mathlib.Core.Logic.{◌⊎◌, inl, inr, ⊎_map}
use mathlib.Core.Bool.{Bool, true, false, cond, ◌&&◌, ◌||◌, or_assoc, or-false, true≢false}
use mathlib.Core.List.{List, [], ◌∷◌, ◌++◌, map, map-map, map-append}
use Prim.Native.Nat.{ℕ, ◌+◌, ◌/◌, ◌%◌, ◌≤◌, ◌<◌}
use native.Mathlib.Nat.{le_refl}
use native.Mathlib.Numerals.{add-one}
use native.Mathlib.Omega.{arith}
use lib.ListN.{length, get_or, take, drop, set, length-set, length-map, length-append, take-append-drop}
use lib.Seq.{take-suc, take_all, drop-cons, drop-drop, drop-set-lt, take-suc-set}
use lib.Dec.{eqb}
use Rattle.amplitude.specs.Bits.{bit}
use Rattle.amplitude.proofs.BitLaws.{bit_zero}
use Rattle.phase_sum_meaning.specs.Sets.{◌△◌}
use Rattle.phase_sum_meaning.specs.Parity.{Parity, of, replace_in}
use Rattle.phase_sum_meaning.specs.Phase.{Term, term, add_term, add_constant, add_phase, rebuild, in_odd}
use Rattle.phase_sum_meaning.specs.Stepping.{replace, out_of, coeffs, odd_halves, take_out, turned}
use Rattle.phase_sum_types.specs.Workspace.{zip_terms, held, sets_of, coeffs_of, over, merged, phase_of, alone}
use Rattle.phase_sum_types.specs.Workspace.{Stored, Phased, Rebuilt}
use Rattle.phase_sum_types.specs.Unmerged.{phase_term}
use Rattle.phase_sum_types.specs.Inner.{sent_to, odd_both}
use Rattle.phase_sum_types.specs.declared.Phase as declared
use Rattle.phase_sum_meaning.proofs.SetLaws.{△_assoc, △_comm, △_idl}
use Rattle.phase_sum_meaning.proofs.ParityLaws.{replace_in_absent}
use Rattle.phase_sum_meaning.proofs.PhaseLaws.{length-rebuild}
use Rattle.phase_sum_types.proofs.Storing.{length-held, sets_of-held, coeffs_of-held, held_more}
use Rattle.phase_sum_types.proofs.Storing.{over_grown, stored-held, stored_grown, stored_again}
use Rattle.phase_sum_types.proofs.Merging.{added, rebuild-merged, rebuild_again, merged_last}

-- a list after a pass over its first i places: these values stand there, and behind all is as it was
pub record Front {A : Type 0} (i : ℕ) (xs old new : List A) : Type 0 where
  pub long : length new ≡ length old
  pub front : take i new ≡ xs
  pub behind : drop i new ≡ drop i old

module _ {A : Type 0} where
  -- no place yet
  pub front_none : (old : List A) → Front 0 [] old old
  front_none old = record { long = refl; front = refl; behind = refl }

  -- the next place is as it was
  pub front_next :
      {i : ℕ} {xs old new : List A} (d : A) → Front i xs old new → i < length old → get_or new i d ≡ get_or old i d
  front_next {i} {xs} {old} {new} d p l =
      let k : i < length new = omega arith in
      ap (λ (zs : List A). get_or zs 0 d) (sym (drop-cons new i d k) ∙ (p.behind ∙ drop-cons old i d l))

  -- one place more
  front_more :
      {i : ℕ} {xs old new : List A} (a : A) → Front i xs old new → i < length old → Front (i + 1) (xs ++ a ∷ []) old (set new i a)
  front_more {i} {xs} {old} {new} a p l =
      let k : i < length new = omega arith in
      record {
        long = length-set new i a ∙ p.long;
        front = rw (add-one, take-suc-set new i a, p.front);
        behind =
            drop-set-lt (i + 1) new i a (omega arith)
            ∙ (sym (drop-drop 1 i new) ∙ (ap (drop 1) p.behind ∙ drop-drop 1 i old));
      }

  -- the whole list
  pub front_all : {i : ℕ} {xs old new : List A} → Front i xs old new → new ≡ xs ++ drop i old
  front_all {i} {xs} {old} {new} p = rw (← p.front, ← p.behind) (sym (take-append-drop i new))

  -- one place more, of a pass that applies f at each
  pub front_mapped :
      {i : ℕ} {old new : List A} (f : A → A) (d : A) →
      Front i (map f (take i old)) old new →
      i < length old →
      Front (i + 1) (map f (take (i + 1) old)) old (set new i (f (get_or new i d)))
  front_mapped {i} {old} {new} f d p l =
      rw
      (add-one, take-suc old i d, map-append f (take i old) (get_or old i d ∷ []), ← front_next d p l, ← add-one)
      (front_more (f (get_or new i d)) p l)

  -- a pass over all places that applied f at each
  pub front_full :
      {old new : List A} (f : A → A) (n : ℕ) → Front n (map f (take n old)) old new → length old ≡ n → new ≡ map f old
  front_full {old} {new} f n p e = rw (sym (take_all n new (omega arith)), p.front, take_all n old (omega arith))

-- two lists after a pass over their first i places that changed each term by g
pub record Passed (g : Term → Term) (i : ℕ) (ss cs ss' cs' : List ℕ) : Type 0 where
  pub sets : Front i (sets_of (map g (held i ss cs))) ss ss'
  pub coeffs : Front i (coeffs_of (map g (held i ss cs))) cs cs'

-- no place yet
pub passed_none : (g : Term → Term) (ss cs : List ℕ) → Passed g 0 ss cs ss cs
unfolding zip_terms
passed_none g ss cs = record { sets = front_none ss; coeffs = front_none cs }

-- one place more
pub passed_more :
    {g : Term → Term} {i : ℕ} {ss cs ss' cs' : List ℕ} (s c : ℕ) →
    Passed g i ss cs ss' cs' →
    i < length ss →
    i < length cs →
    term s c ≡ g (term (get_or ss' i 0) (get_or cs' i 0)) →
    Passed g (i + 1) ss cs (set ss' i s) (set cs' i c)
passed_more {g} {i} {ss} {cs} {ss'} {cs'} s c p l k e =
    let more : map g (held (i + 1) ss cs) ≡ map g (held i ss cs) ++ term s c ∷ []
    = rw (held_more i ss cs, map-append g (held i ss cs) _, e, front_next 0 p.sets l, front_next 0 p.coeffs k) in
    record {
      sets = rw (more, map-append (λ t. t.set) (map g (held i ss cs)) (term s c ∷ [])) (front_more s p.sets l);
      coeffs = rw (more, map-append (λ t. t.coeff) (map g (held i ss cs)) (term s c ∷ [])) (front_more c p.coeffs k);
    }

-- as many terms as places in use, put into these places
stored_full :
    {m : ℕ} {ss cs ss' cs' : List ℕ} (ts : List Term) →
    length ts ≡ m →
    ss' ≡ sets_of ts ++ drop m ss →
    cs' ≡ coeffs_of ts ++ drop m cs →
    Stored m ts m ss cs ss' cs'
stored_full {m} {ss} {cs} ts n e f =
    let a : length (sets_of ts) ≡ m = length-map ts (λ t. t.set) ∙ n in
    let b : length (coeffs_of ts) ≡ m = length-map ts (λ t. t.coeff) ∙ n in
    record {
      counted = sym n;
      sets = rw (over_grown m (sets_of ts) ss (omega arith), a) e;
      coeffs = rw (over_grown m (coeffs_of ts) cs (omega arith), b) f;
    }

-- as many changed terms as places in use
length_changed : (g : Term → Term) (m : ℕ) (ss cs : List ℕ) → m ≤ length ss → m ≤ length cs → length (map g (held m ss cs)) ≡ m
length_changed g m ss cs l k = length-map (held m ss cs) g ∙ length-held m ss cs l k

-- all m places in use: the changed terms are stored
pub passed_all :
    {g : Term → Term} {m : ℕ} {ss cs ss' cs' : List ℕ} →
    Passed g m ss cs ss' cs' →
    m ≤ length ss →
    m ≤ length cs →
    Stored m (map g (held m ss cs)) m ss cs ss' cs'
passed_all {g} {m} {ss} {cs} p l k =
    stored_full (map g (held m ss cs)) (length_changed g m ss cs l k) (front_all p.sets) (front_all p.coeffs)

-- terms whose sets are sent to sets
sent_sets : (f : ℕ → ℕ) (ts : List Term) → sets_of (map (sent_to (λ u. of (f u))) ts) ≡ map f (sets_of ts)
unfolding phase_term
sent_sets f ts = map-map (λ t. t.set) (sent_to (λ u. of (f u))) ts ∙ sym (map-map f (λ t. t.set) ts)

-- they keep their coefficients
sent_coeffs : (f : ℕ → ℕ) (ts : List Term) → coeffs_of (map (sent_to (λ u. of (f u))) ts) ≡ coeffs_of ts
unfolding phase_term
sent_coeffs f ts = map-map (λ t. t.coeff) (sent_to (λ u. of (f u))) ts

-- and the constant
pub sent_constant : (f : ℕ → ℕ) (k : ℕ) (ts : List Term) → (rebuild (λ u. of (f u)) k ts).constant ≡ k % 8
unfolding rebuild add_phase add_term
sent_constant f k [] = refl
sent_constant f k (t ∷ ts) = sent_constant f k ts

-- the sets of the first m places sent to sets: the sent terms are stored
pub sent_stored :
    (f : ℕ → ℕ) (m : ℕ) (ss cs ss' : List ℕ) →
    m ≤ length ss →
    m ≤ length cs →
    ss' ≡ map f (take m ss) ++ drop m ss →
    Stored m (map (sent_to (λ u. of (f u))) (held m ss cs)) m ss cs ss' cs
sent_stored f m ss cs ss' l k e =
    let ts = held m ss cs in
    stored_full
    (map (sent_to (λ u. of (f u))) ts)
    (length_changed (sent_to (λ u. of (f u))) m ss cs l k)
    (rw (sent_sets f ts, sets_of-held m ss cs l k) e)
    (rw (sent_coeffs f ts, coeffs_of-held m ss cs l k) (sym (take-append-drop m cs)))

-- values over a front of at least as many places as were in use, whichever these are
over_either : (m n : ℕ) (xs old : List ℕ) → m ≤ length xs → n ≤ length xs → over m xs old ≡ over n xs old
over_either m n xs old l k = over_grown m xs old l ∙ sym (over_grown n xs old k)

-- terms stored in all the places in use or more, and then merged: all their places count as having been in use
stored-merged :
    {m r q : ℕ} {ts : List Term} {ss cs ss₁ cs₁ ss₂ cs₂ : List ℕ} (n : ℕ) →
    length ts ≡ n →
    m ≤ n →
    Stored m ts r ss cs ss₁ cs₁ →
    Stored r (merged (held r ss₁ cs₁)) q ss₁ cs₁ ss₂ cs₂ →
    Stored n (merged ts) q ss cs ss₂ cs₂
stored-merged {m} {ts = ts} {ss} {cs} n e l sent done =
    let a = length-map ts (λ t. t.set) in
    let b = length-map ts (λ t. t.coeff) in
    stored_again
    {ts = ts}
    (record {
      counted = sent.counted;
      sets = sent.sets ∙ over_either m n (sets_of ts) ss (omega arith) (omega arith);
      coeffs = sent.coeffs ∙ over_either m n (coeffs_of ts) cs (omega arith) (omega arith);
    })
    (rw (stored-held sent) at done)
    (omega arith)
    (length-rebuild of 0 ts)

-- terms sent by f and stored, and then merged
pub rebuilt :
    (f : ℕ → Parity) (p : declared.Phase) {r : declared.Phase} {ss cs ss₁ cs₁ ss₂ cs₂ : List ℕ} →
    p.count ≤ length ss →
    p.count ≤ length cs →
    r.constant ≡ (rebuild f p.constant (held p.count ss cs)).constant →
    Stored p.count (map (sent_to f) (held p.count ss cs)) p.count ss cs ss₁ cs₁ →
    Stored p.count (merged (held p.count ss₁ cs₁)) r.count ss₁ cs₁ ss₂ cs₂ →
    Rebuilt f p r ss cs ss₂ cs₂
rebuilt f p {ss = ss} {cs = cs} l k e sent done =
    record {
      constant = e;
      terms =
          rw (rebuild-merged f p.constant (held p.count ss cs))
          (stored-merged p.count (length_changed (sent_to f) p.count ss cs l k) (le_refl _) sent done);
    }

-- y taken out of the terms, the term of a turn put behind them, and then all merged
pub turned_out :
    (y c l : ℕ) (p : declared.Phase) {r : declared.Phase} {q : ℕ} {ss cs ss₁ ss₂ cs₂ ss₃ cs₃ : List ℕ} →
    p.count ≤ length ss →
    p.count ≤ length cs →
    r.constant ≡ (p.constant + cond (eqb c 1) 1 7) % 8 →
    ss₁ ≡ map (out_of y) (take p.count ss) ++ drop p.count ss →
    Stored p.count (held p.count ss₁ cs ++ term l (cond (eqb c 1) 6 2) ∷ []) q ss₁ cs ss₂ cs₂ →
    Stored q (merged (held q ss₂ cs₂)) r.count ss₂ cs₂ ss₃ cs₃ →
    Phased (turned c l (take_out y (alone (phase_of p ss cs)))).phase (p.count + 1) r ss cs ss₃ cs₃
unfolding turned take_out add_term add_constant added
turned_out y c l p {ss = ss} {cs = cs} {ss₁ = ss₁} a b e out more done =
    let f : ℕ → Parity = λ u. of (out_of y u) in
    let ts = held p.count ss cs in
    let us = map (sent_to f) ts in
    let t = term l (cond (eqb c 1) 6 2) in
    let sent = sent_stored (out_of y) p.count ss cs ss₁ a b out in
    let n = length_changed (sent_to f) p.count ss cs a b in
    let n' = length-append us (t ∷ []) in
    record {
      constant = rw (sent_constant (out_of y) p.constant ts) (omega arith);
      terms =
          rw (rebuild-merged f p.constant ts, ← merged_last us t)
          (stored-merged
          (p.count + 1)
          (omega arith)
          (omega arith)
          (stored_grown sent (rw (stored-held sent) at more) (omega arith))
          done);
    }

-- y taken out of the terms, z replaced by a parity in them, and then all merged
pub joined_out :
    (y z : ℕ) (w : Parity) (p : declared.Phase) {r : declared.Phase} {ss cs ss₁ ss₂ cs₂ : List ℕ} →
    p.count ≤ length ss →
    p.count ≤ length cs →
    ss₁ ≡ map (out_of y) (take p.count ss) ++ drop p.count ss →
    Rebuilt (λ u. replace_in z w (of u)) p r ss₁ cs ss₂ cs₂ →
    Phased (replace z w (take_out y (alone (phase_of p ss cs)))).phase p.count r ss cs ss₂ cs₂
unfolding replace take_out
joined_out y z w p {ss = ss} {cs = cs} {ss₁ = ss₁} a b out done =
    let k = p.constant in
    let f : ℕ → Parity = λ u. of (out_of y u) in
    let g : ℕ → Parity = λ u. replace_in z w (of u) in
    let ts = held p.count ss cs in
    let sent = sent_stored (out_of y) p.count ss cs ss₁ a b out in
    let n = length_changed (sent_to f) p.count ss cs a b in
    let same : rebuild g (rebuild f k ts).constant (rebuild f k ts).terms ≡ rebuild g k (held p.count ss₁ cs)
    = rw (sent_constant (out_of y) k ts, rebuild-merged f k ts, stored-held sent)
    (rebuild_again g k (map (sent_to f) ts) (replace_in_absent z w (of 0) (bit_zero z))) in
    rw same
    (record {
      constant = done.constant;
      terms =
          stored_again
          sent
          done.terms
          (omega arith)
          (omega (arith, length-rebuild g k (held p.count ss₁ cs), ap length (stored-held sent)));
    })

-- a variable is in what is a set where b holds, else the empty set
pub odd_bit : (v s : ℕ) (b : Bool) → cond (bit v s) b false ≡ bit v (cond b s 0)
odd_bit v s true = go (bit v s)
  where
    go : (a : Bool) → cond a true false ≡ a
    go true = refl
    go false = refl
odd_bit v s false = go (bit v s) ∙ sym (bit_zero v)
  where
    go : (a : Bool) → cond a false false ≡ false
    go true = refl
    go false = refl

-- the odd variables, one term more at the end
pub in_odd_more :
    (v : ℕ) (ts : List Term) (t : Term) → in_odd v (ts ++ t ∷ []) ≡ in_odd v ts || bit v (cond (eqb (t.coeff % 2) 1) t.set 0)
unfolding in_odd
in_odd_more v [] t = or-false _ ∙ odd_bit v t.set (eqb (t.coeff % 2) 1)
in_odd_more v (u ∷ us) t =
    rw (in_odd_more v us t) (sym (or_assoc (cond (bit v u.set) (eqb (u.coeff % 2) 1) false) (in_odd v us) _))

-- the coefficients with y, one term more at the end
pub coeffs_more :
    (y : ℕ) (ts : List Term) (t : Term) → coeffs y (ts ++ t ∷ []) ≡ coeffs y ts + cond (bit y t.set) t.coeff 0
unfolding coeffs
coeffs_more y [] t = omega arith
coeffs_more y (u ∷ us) t = let more = coeffs_more y us t in omega arith

-- L, one term more at the end
pub odd_halves_more :
    (y : ℕ) (ts : List Term) (t : Term) →
    odd_halves y (ts ++ t ∷ []) ≡ odd_halves y ts △ cond (bit y t.set) (cond (eqb (t.coeff / 2 % 2) 1) (out_of y t.set) 0) 0
unfolding odd_halves
odd_halves_more y [] t = △_comm _ _
odd_halves_more y (u ∷ us) t = rw (odd_halves_more y us t) (sym (△_assoc _ _ _))

-- what the odd terms that hold i and j have in common, one term more at the end
pub odd_both_more :
    (i j : ℕ) (ts : List Term) (t : Term) →
    odd_both i j (ts ++ t ∷ [])
    ≡ odd_both i j ts △ cond (bit i t.set && bit j t.set) (cond (eqb (t.coeff % 2) 1) t.set 0) 0
unfolding odd_both
odd_both_more i j [] t = △_comm _ _
odd_both_more i j (u ∷ us) t = rw (odd_both_more i j us t) (sym (△_assoc _ _ _))

-- where an or is false, both sides are
neither : (a b : Bool) → a || b ≡ false → (a ≡ false) × (b ≡ false)
neither true b h = absurd (true≢false h)
neither false b h = (refl, h)

-- where an and is false, one side is
one_false : (a b : Bool) → a && b ≡ false → (a ≡ false) ⊎ (b ≡ false)
one_false true b h = inr h
one_false false b h = inl refl

-- a term of odd coefficient does not hold both where one is not in such a term
term_out : (s : ℕ) (a b odd : Bool) → (cond a odd false ≡ false) ⊎ (cond b odd false ≡ false) → cond (a && b) (cond odd s 0) 0 ≡ 0
term_out s true true true (inl e) = absurd (true≢false e)
term_out s true true true (inr e) = absurd (true≢false e)
term_out s true true false h = refl
term_out s true false odd h = refl
term_out s false b odd h = refl

-- nor does any of some terms
terms_out : (i j : ℕ) (ts : List Term) → (in_odd i ts ≡ false) ⊎ (in_odd j ts ≡ false) → odd_both i j ts ≡ 0
unfolding in_odd odd_both
terms_out i j [] h = refl
terms_out i j (t ∷ ts) h =
    let odd : Bool = eqb (t.coeff % 2) 1 in
    let parts : (v : ℕ) → in_odd v (t ∷ ts) ≡ false → (cond (bit v t.set) odd false ≡ false) × (in_odd v ts ≡ false) =
    λ v. neither (cond (bit v t.set) odd false) (in_odd v ts) in
    rw (
      terms_out i j ts (⊎_map (λ e. (parts i e).1) (λ e. (parts j e).1) h),
      term_out t.set (bit i t.set) (bit j t.set) odd (⊎_map (λ e. (parts i e).0) (λ e. (parts j e).0) h),
    )
    (△_idl 0)

-- no term of odd coefficient holds both i and j where one of them is in none
pub odd_both_none : (i j : ℕ) (ts : List Term) → in_odd i ts && in_odd j ts ≡ false → odd_both i j ts ≡ 0
odd_both_none i j ts h = terms_out i j ts (one_false (in_odd i ts) (in_odd j ts) h)
