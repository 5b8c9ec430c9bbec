-- Terms in the first places of two lists: what they are after terms were stored, and what two calls leave together.
-- Assumes nothing.
use mathlib.Core.Path.{◌≡◌, refl, sym, ap, ◌∙◌}
use Prim.Native.Nat.{ℕ, zero, suc, ◌+◌, ◌-◌, ◌≤◌, ◌<◌}
use native.Mathlib.Nat.{zero-sub, sub-zero, suc-sub-suc}
use native.Mathlib.Omega.{arith}
use mathlib.Core.List.{List, [], ◌∷◌, ◌++◌, append_assoc, map}
use lib.ListN.{length, take, drop, replicate, length-append, length-replicate, length-map, take-append-drop, get_or}
use lib.ListN.{replicate-append-replicate}
use lib.Seq.{length-take-le, take-append_seam, drop-append-add, drop-drop, drop-nil, take-suc}
use Rattle.phase_sum_meaning.specs.Phase.{Term, term}
use Rattle.phase_sum_types.specs.Workspace.{zip_terms, held, sets_of, coeffs_of, over, Stored}
use native.Mathlib.Numerals.{add-one}

-- terms taken apart and put together again
pub zip_parts : (ts : List Term) → zip_terms (sets_of ts) (coeffs_of ts) ≡ ts
unfolding zip_terms
zip_parts [] = refl
zip_parts (t ∷ ts) = ap (λ (us : List Term). t ∷ us) (zip_parts ts)

-- the sets of terms put together
pub sets_of_zip : (ss cs : List ℕ) → length ss ≤ length cs → sets_of (zip_terms ss cs) ≡ ss
unfolding zip_terms
sets_of_zip [] cs l = refl
sets_of_zip (s ∷ ss) [] l = absurd (omega arith)
sets_of_zip (s ∷ ss) (c ∷ cs) l = ap (λ (us : List ℕ). s ∷ us) (sets_of_zip ss cs (omega arith))

-- their coefficients
pub coeffs_of_zip : (ss cs : List ℕ) → length cs ≤ length ss → coeffs_of (zip_terms ss cs) ≡ cs
unfolding zip_terms
coeffs_of_zip [] [] l = refl
coeffs_of_zip [] (c ∷ cs) l = absurd (omega arith)
coeffs_of_zip (s ∷ ss) [] l = refl
coeffs_of_zip (s ∷ ss) (c ∷ cs) l = ap (λ (us : List ℕ). c ∷ us) (coeffs_of_zip ss cs (omega arith))

-- as many terms as sets
pub length_zip : (ss cs : List ℕ) → length ss ≤ length cs → length (zip_terms ss cs) ≡ length ss
length_zip ss cs l = sym (length-map (zip_terms ss cs) (λ t. t.set)) ∙ ap length (sets_of_zip ss cs l)

-- terms in two stretches
pub zip_append :
    (ss cs ss' cs' : List ℕ) → length ss ≡ length cs → zip_terms (ss ++ ss') (cs ++ cs') ≡ zip_terms ss cs ++ zip_terms ss' cs'
unfolding zip_terms
zip_append [] [] ss' cs' e = refl
zip_append [] (c ∷ cs) ss' cs' e = absurd (omega arith)
zip_append (s ∷ ss) [] ss' cs' e = absurd (omega arith)
zip_append (s ∷ ss) (c ∷ cs) ss' cs' e = ap (λ (us : List Term). term s c ∷ us) (zip_append ss cs ss' cs' (omega arith))

-- the first m places of two lists that have them are as many
pub as_long : (m : ℕ) (ss cs : List ℕ) → m ≤ length ss → m ≤ length cs → length (take m ss) ≡ length (take m cs)
as_long m ss cs l k = length-take-le m ss l ∙ sym (length-take-le m cs k)

-- the sets of the first m places
pub sets_of-held : (m : ℕ) (ss cs : List ℕ) → m ≤ length ss → m ≤ length cs → sets_of (held m ss cs) ≡ take m ss
sets_of-held m ss cs l k = sets_of_zip (take m ss) (take m cs) (omega (arith, as_long m ss cs l k))

-- their coefficients
pub coeffs_of-held : (m : ℕ) (ss cs : List ℕ) → m ≤ length ss → m ≤ length cs → coeffs_of (held m ss cs) ≡ take m cs
coeffs_of-held m ss cs l k = coeffs_of_zip (take m ss) (take m cs) (omega (arith, as_long m ss cs l k))

-- as many terms as places in use
pub length-held : (m : ℕ) (ss cs : List ℕ) → m ≤ length ss → m ≤ length cs → length (held m ss cs) ≡ m
length-held m ss cs l k = length_zip (take m ss) (take m cs) (omega (arith, as_long m ss cs l k)) ∙ length-take-le m ss l

-- dropping from two stretches
drop_stretches : (j : ℕ) (xs ys : List ℕ) → drop j (xs ++ ys) ≡ drop j xs ++ drop (j - length xs) ys
drop_stretches j [] ys = rw (drop-nil, sub-zero)
drop_stretches zero (x ∷ xs) ys = rw zero-sub
drop_stretches (suc j) (x ∷ xs) ys = rw suc-sub-suc (drop_stretches j xs ys)

-- dropping from equal values
drop-replicate : (j n a : ℕ) → drop j (replicate n a) ≡ replicate (n - j) a
drop-replicate zero n a = rw sub-zero
drop-replicate (suc j) zero a = rw zero-sub
drop-replicate (suc j) (suc n) a = rw suc-sub-suc (drop-replicate j n a)

-- a workspace of which m places were in use, from place k on: zeros up to m, and behind all as it was
abbrev rest : ℕ → ℕ → List ℕ → List ℕ
rest m k old = replicate (m - k) 0 ++ drop (k + (m - k)) old

-- that, from a later place on
drop_rest : (m k j : ℕ) (old : List ℕ) → drop j (rest m k old) ≡ rest m (k + j) old
drop_rest m k j old =
    let e : m - k - j ≡ m - (k + j) = omega arith in
    let f : k + (m - k) + (j - (m - k)) ≡ k + j + (m - (k + j)) = omega arith in
    rw (drop_stretches, drop-replicate, length-replicate, drop-drop, e, f)

-- values over a front, and what stands behind them
over_rest : (m : ℕ) (xs old : List ℕ) → over m xs old ≡ xs ++ rest m (length xs) old
unfolding over
over_rest m xs old = rw (length-append, length-replicate, append_assoc)

-- what stands behind values over a front, from any place there on
drop-over : (m k : ℕ) (xs old : List ℕ) → length xs ≤ k → drop k (over m xs old) ≡ rest m k old
drop-over m k xs old l =
    let e : k ≡ length xs + (k - length xs) = omega arith in
    rw (over_rest, e, drop-append-add) (drop_rest m (length xs) (k - length xs) old)

-- from a place behind those in use on, all is as it was
rest_behind : (m k : ℕ) (old : List ℕ) → m ≤ k → rest m k old ≡ drop k old
rest_behind m k old l =
    let e : k + (m - k) ≡ k = omega arith in
    let f : m - k ≡ 0 = omega arith in
    rw (e, f)

-- one term more in the first places
pub held_more :
    (i : ℕ) (ss cs : List ℕ) →
    i < length ss →
    i < length cs →
    held (i + 1) ss cs ≡ held i ss cs ++ term (get_or ss i 0) (get_or cs i 0) ∷ []
unfolding zip_terms
held_more i ss cs l k =
    rw (add-one, take-suc ss i 0 l, take-suc cs i 0 k)
    (zip_append (take i ss) (take i cs) _ _ (as_long i ss cs (omega arith) (omega arith)))

-- values over a front of at least the m places that were in use
pub over_grown : (m : ℕ) (xs old : List ℕ) → m ≤ length xs → over m xs old ≡ xs ++ drop (length xs) old
over_grown m xs old l = rw (over_rest, rest_behind m (length xs) old l)

-- values over a front of m places in use, and no more
pub over_padded : (m : ℕ) (xs old : List ℕ) → length xs ≤ m → over m xs old ≡ xs ++ replicate (m - length xs) 0 ++ drop m old
over_padded m xs old l =
    let e : length xs + (m - length xs) ≡ m = omega arith in
    rw (over_rest, e, append_assoc)

-- values over a front, and then no fewer
over_more : (m r : ℕ) (xs ys old : List ℕ) → r ≤ length ys → length xs ≤ length ys → over r ys (over m xs old) ≡ over m ys old
over_more m r xs ys old k l = rw (over_grown r ys (over m xs old) k, over_rest m ys old, drop-over m (length ys) xs old l)

-- values over a front of no more than m places, and then others over these
over_fewer :
    (m r : ℕ) (xs ys old : List ℕ) → length xs ≤ r → r ≤ m → length ys ≤ r → over r ys (over m xs old) ≡ over m ys old
over_fewer m r xs ys old l k h =
    let e : length ys + (r - length ys) ≡ r = omega arith in
    let f : r - length ys + (m - r) ≡ m - length ys = omega arith in
    let g : r + (m - r) ≡ length ys + (m - length ys) = omega arith in
    rw (over_rest r ys, over_rest m ys, e, drop-over m r xs old l, ← append_assoc {A = ℕ} (replicate (r - length ys) 0))
    (rw (replicate-append-replicate, f, g))

-- the front that stands there already
over_same : (m : ℕ) (xs : List ℕ) → m ≤ length xs → xs ≡ over m (take m xs) xs
over_same m xs l =
    let e : length (take m xs) ≡ m = length-take-le m xs l in
    rw (over_grown m (take m xs) xs (omega arith), e) (sym (take-append-drop m xs))

-- nothing was done
pub stored_same : (m : ℕ) (ss cs : List ℕ) → m ≤ length ss → m ≤ length cs → Stored m (held m ss cs) m ss cs ss cs
stored_same m ss cs l k =
    record {
      counted = sym (length-held m ss cs l k);
      sets = rw (sets_of-held m ss cs l k) (over_same m ss l);
      coeffs = rw (coeffs_of-held m ss cs l k) (over_same m cs k);
    }

-- the values that stand in front
take-over : (m : ℕ) (ts : List Term) (old : List ℕ) (f : Term → ℕ) → take (length ts) (over m (map f ts) old) ≡ map f ts
take-over m ts old f = rw (over_rest, ← length-map ts f) (take-append_seam (map f ts) _)

-- the terms that were stored are those that stand there
pub stored-held : {m : ℕ} {ts : List Term} {r : ℕ} {ss cs ss' cs' : List ℕ} → Stored m ts r ss cs ss' cs' → held r ss' cs' ≡ ts
stored-held {m} {ts} {r} {ss} {cs} {ss'} {cs'} e =
    rw (e.counted, e.sets, e.coeffs)
    (rw (take-over m ts ss (λ t. t.set), take-over m ts cs (λ t. t.coeff)) (zip_parts ts))

-- terms stored, and then others that leave of both lists what they would have left alone
stored_twice :
    {m r q : ℕ} {ts us : List Term} {ss cs ss₁ cs₁ ss₂ cs₂ : List ℕ} →
    Stored m ts r ss cs ss₁ cs₁ →
    Stored r us q ss₁ cs₁ ss₂ cs₂ →
    ((f : Term → ℕ) (old : List ℕ) → over r (map f us) (over m (map f ts) old) ≡ over m (map f us) old) →
    Stored m us q ss cs ss₂ cs₂
stored_twice {ss = ss} {cs = cs} e e' h =
    record {
      counted = e'.counted;
      sets = rw (e'.sets, e.sets) (h (λ t. t.set) ss);
      coeffs = rw (e'.coeffs, e.coeffs) (h (λ t. t.coeff) cs);
    }

-- terms stored, and then no fewer
pub stored_grown :
    {m r q : ℕ} {ts us : List Term} {ss cs ss₁ cs₁ ss₂ cs₂ : List ℕ} →
    Stored m ts r ss cs ss₁ cs₁ →
    Stored r us q ss₁ cs₁ ss₂ cs₂ →
    length ts ≤ length us →
    Stored m us q ss cs ss₂ cs₂
stored_grown {m} {r} {q} {ts} {us} e e' l =
    stored_twice
    e
    e'
    (λ f old.
    let n = length-map ts f in
    let n' = length-map us f in
    over_more m r (map f ts) (map f us) old (omega arith) (omega arith))

-- terms stored in no more places than were in use, and then others in these
pub stored_again :
    {m r q : ℕ} {ts us : List Term} {ss cs ss₁ cs₁ ss₂ cs₂ : List ℕ} →
    Stored m ts r ss cs ss₁ cs₁ →
    Stored r us q ss₁ cs₁ ss₂ cs₂ →
    length ts ≤ m →
    length us ≤ length ts →
    Stored m us q ss cs ss₂ cs₂
stored_again {m} {r} {q} {ts} {us} e e' l k =
    stored_twice
    e
    e'
    (λ f old.
    let n = length-map ts f in
    let n' = length-map us f in
    over_fewer m r (map f ts) (map f us) old (omega arith) (omega arith) (omega arith))
