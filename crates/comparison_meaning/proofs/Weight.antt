-- The search of the comparison. Its lists hold the inputs of each weight, in rising order; those of weight up to 3 are enough to
-- tell whether the phase is the same at every input; and what the search finds is the first input at which it differs.
-- Assumes nothing.
use mathlib.Core.Path.{◌≡◌, refl, sym, ◌∙◌, ap}
use mathlib.Core.Logic.{◌↔◌, ◌⊎◌, inl, inr, ⊎_elim, ⊎_map}
use mathlib.Core.Bool.{Bool, true, false, cond, true≢false}
use mathlib.Core.List.{List, [], ◌∷◌, ◌++◌, map}
use mathlib.Core.Option.{Option, none, some}
use Prim.Native.Nat.{ℕ, zero, suc, ◌+◌, ◌*◌, ◌-◌, ◌%◌, ◌^◌, ◌<◌, ◌≤◌, ◌∣◌}
use native.Mathlib.Nat.{pow-succ', one-dvd, dvd-add, dvd-add_iff_left, dvd-add_iff_right, dvd_of_mul-dvd-mul_left, mul-dvd-mul_left, mod-eq-zero_of_dvd, dvd_of_mod-eq-zero}
use native.Mathlib.Omega.{arith}
use lib.Arith.{lt-one}
use lib.Dec.{eqb, ltb}
use lib.Pow.{pow_pos}
use borrow.Author.Tests.{eqb-true, eqb-false, ltb-true, ltb-false}
use Rattle.amplitude.specs.Bits.{digit, bit, flip}
use Rattle.amplitude.proofs.BitLaws.{bit_zero, bit_above, bit-flip_same, bit-flip_other}
use Rattle.phase_sum_meaning.specs.Sets.{parity, Among, here, there, Clear, first_such}
use Rattle.phase_sum_meaning.specs.Phase.{Term, Phase, sum_at, phase_at}
use Rattle.phase_sum_meaning.specs.Stepping.{coeffs}
use Rattle.amplitude.proofs.XorLaws.{xor_falseˡ, xor_trueˡ}
use Rattle.phase_sum_meaning.proofs.SetLaws.{parity_zero, parity-flip, power-flip}
use Rattle.phase_sum_meaning.proofs.VariableLaws.{Rising}
use Rattle.comparison_meaning.specs.Verdict.{weight, candidates, first_differing}

-- the number of 1 bits among the first n
unfoldable pub ones : ℕ → ℕ → ℕ
ones zero v = 0
ones (suc n) v = ones n v + digit (bit n v)

-- 0 has none
ones_zero : (n : ℕ) → ones n 0 ≡ 0
unfolding ones
ones_zero zero = refl
ones_zero (suc n) = rw (ones_zero n, bit_zero n)

-- a bit from n on is not counted
ones_flip : (m n v : ℕ) → m ≤ n → ones m (flip n v) ≡ ones m v
unfolding ones
ones_flip zero n v l = refl
ones_flip (suc m) n v l = rw (ones_flip m n v (omega arith), bit-flip_other m n v (λ e. omega arith))

-- an input below 2^n, alone and with qubit n added to it
module _ (n v : ℕ) (l : v < 2 ^ n) where
  -- qubit n counts nothing
  ones_low : ones (suc n) v ≡ ones n v
  unfolding ones
  ones_low = rw (bit_above n n v l (omega arith)) (omega arith)

  -- qubit n counts 1
  ones_high : ones (suc n) (2 ^ n + v) ≡ suc (ones n v)
  unfolding ones
  ones_high =
      rw (power-flip n v l, ones_flip n n v (omega arith), bit-flip_same n v, bit_above n n v l (omega arith)) (omega arith)

  -- below 2^(n+1)
  below_high : 2 ^ n + v < 2 ^ suc n
  below_high = omega (arith, pow-succ' 2 n)

  -- the lower bits stay
  bit_high_other : (q : ℕ) → (q ≡ n → ⊥) → bit q (2 ^ n + v) ≡ bit q v
  bit_high_other q ne = rw (power-flip n v l) (bit-flip_other q n v ne)

  -- qubit n is 1
  bit_high : bit n (2 ^ n + v) ≡ true
  bit_high = rw (power-flip n v l, bit-flip_same n v, bit_above n n v l (omega arith))

  -- clear of a set that does not hold n
  high_clear : (scratch : ℕ) → bit n scratch ≡ false → Clear scratch v → Clear scratch (2 ^ n + v)
  high_clear scratch free c q e = go (eqb q n) refl
    where
      go : (t : Bool) → eqb q n ≡ t → bit q (2 ^ n + v) ≡ false
      go true i = absurd (true≢false (sym e ∙ (ap (λ (p : ℕ). bit p scratch) (eqb-true q n i) ∙ free)))
      go false i = bit_high_other q (eqb-false q n i) ∙ c q e

  -- and the other way round
  clear_high : (scratch : ℕ) → Clear scratch (2 ^ n + v) → (bit n scratch ≡ false) × Clear scratch v
  clear_high scratch c = (go (bit n scratch) refl, λ q e. lower q e (eqb q n) refl)
    where
      go : (t : Bool) → bit n scratch ≡ t → bit n scratch ≡ false
      go true e = absurd (true≢false (sym bit_high ∙ c n e))
      go false e = e

      lower : (q : ℕ) → bit q scratch ≡ true → (t : Bool) → eqb q n ≡ t → bit q v ≡ false
      lower q e true i = rw (eqb-true q n i) (bit_above n n v l (omega arith))
      lower q e false i = sym (bit_high_other q (eqb-false q n i)) ∙ c q e

-- every input comes from 0 by adding qubits upwards, each 0 or, if it is no scratch qubit, 1
by_qubits :
    (scratch : ℕ) (P : ℕ → ℕ → Type 0)
    → P 0 0
    → ((n v : ℕ) → v < 2 ^ n → P n v → P (suc n) v)
    → ((n v : ℕ) → v < 2 ^ n → bit n scratch ≡ false → P n v → P (suc n) (2 ^ n + v))
    → (n v : ℕ)
    → v < 2 ^ n
    → Clear scratch v
    → P n v
by_qubits scratch P start low high zero v l c = rw (lt-one l) start
by_qubits scratch P start low high (suc n) v l c = go (by_qubits scratch P start low high n) (ltb v (2 ^ n)) refl
  where
    go : ((u : ℕ) → u < 2 ^ n → Clear scratch u → P n u) → (t : Bool) → ltb v (2 ^ n) ≡ t → P (suc n) v
    go ih true e = let h : v < 2 ^ n = ltb-true v (2 ^ n) e in low n v h (ih v h c)
    go ih false e =
        let u : ℕ = v - 2 ^ n in
        let h : u < 2 ^ n = omega (arith, ltb-false v (2 ^ n) e, pow-succ' 2 n) in
        let s : v ≡ 2 ^ n + u = omega (arith, ltb-false v (2 ^ n) e) in
        let d : (bit n scratch ≡ false) × Clear scratch u = clear_high n u h scratch (rw s at c) in
        rw s (high n u h d.0 (ih u h d.1))

-- the terms that hold n
unfoldable pub holding : ℕ → List Term → List Term
holding n [] = []
holding n (t ∷ ts) = cond (bit n t.set) (t ∷ holding n ts) (holding n ts)

-- terms add nothing at 0
pub sum_zero : (ts : List Term) → sum_at ts 0 ≡ 0
unfolding sum_at
sum_zero [] = refl
sum_zero (t ∷ ts) = rw (parity_zero t.set, sum_zero ts) (omega arith)

-- flipping bit n: a term that holds n adds its coefficient and takes away twice what it added
sum_flip : (n v : ℕ) (ts : List Term) → sum_at ts (flip n v) + 2 * sum_at (holding n ts) v ≡ sum_at ts v + coeffs n ts
unfolding sum_at holding coeffs
sum_flip n v [] = refl
sum_flip n v (t ∷ ts) = go (sum_flip n v ts) (bit n t.set) refl (parity t.set v) refl
  where
    go :
        sum_at ts (flip n v) + 2 * sum_at (holding n ts) v ≡ sum_at ts v + coeffs n ts
        → (b : Bool)
        → bit n t.set ≡ b
        → (p : Bool)
        → parity t.set v ≡ p
        → sum_at (t ∷ ts) (flip n v) + 2 * sum_at (holding n (t ∷ ts)) v ≡ sum_at (t ∷ ts) v + coeffs n (t ∷ ts)
    go ih true e true i = rw (parity-flip, e, xor_trueˡ, i) (omega arith)
    go ih true e false i = rw (parity-flip, e, xor_trueˡ, i) (omega arith)
    go ih false e p i = rw (parity-flip, e, xor_falseˡ) (omega arith)

-- qubit n added to an input that has lower ones
pub sum_with : (n v : ℕ) (ts : List Term) → v < 2 ^ n → sum_at ts (2 ^ n + v) + 2 * sum_at (holding n ts) v ≡ sum_at ts v + coeffs n ts
sum_with n v ts l = rw (power-flip n v l) (sum_flip n v ts)

-- qubit n alone adds the coefficients of the terms that hold n
pub sum_alone : (n : ℕ) (ts : List Term) → sum_at ts (2 ^ n + 0) ≡ coeffs n ts
sum_alone n ts = omega (arith, sum_with n 0 ts (pow_pos n), sum_zero ts, sum_zero (holding n ts))

-- the terms add a multiple of 2^m at every input of weight up to m
abbrev UpTo : ℕ → ℕ → ℕ → List Term → Type 0
UpTo scratch n m ts = (v : ℕ) → v < 2 ^ n → Clear scratch v → ones n v ≤ m → 2 ^ m ∣ sum_at ts v

-- one qubit more, n, which is no scratch qubit, and weights up to m + 1
module _ (scratch n m : ℕ) (ts : List Term) (free : bit n scratch ≡ false) (h : UpTo scratch (suc n) (suc m) ts) where
  -- the coefficients of the terms that hold n add up to a multiple
  coeffs_multiple : 2 ^ suc m ∣ coeffs n ts
  coeffs_multiple =
      let z : 0 < 2 ^ n = pow_pos n in
      let one_bit : ones (suc n) (2 ^ n + 0) ≤ suc m = rw (ones_high n 0 z, ones_zero n) (omega arith) in
      rw (← sum_alone n ts) (h (2 ^ n + 0) (below_high n 0 z) (high_clear n 0 z scratch free (λ q e. bit_zero q)) one_bit)

  -- so, where the terms add a multiple at v, twice what those that hold n add there makes up for qubit n
  with_holding : (v : ℕ) → v < 2 ^ n → 2 ^ suc m ∣ sum_at ts v → 2 ^ suc m ∣ sum_at ts (2 ^ n + v) + 2 * sum_at (holding n ts) v
  with_holding v l d = rw (sum_with n v ts l) (dvd-add (2 ^ suc m) d coeffs_multiple)

  -- and these add a multiple of 2^m up to weight m
  holding_up_to : UpTo scratch n m (holding n ts)
  holding_up_to v l c o =
      let low : 2 ^ suc m ∣ sum_at ts v = h v (omega (arith, pow-succ' 2 n)) c (rw (ones_low n v l) (omega arith)) in
      let fewer : ones (suc n) (2 ^ n + v) ≤ suc m = rw (ones_high n v l) (omega arith) in
      let high : 2 ^ suc m ∣ sum_at ts (2 ^ n + v) = h (2 ^ n + v) (below_high n v l) (high_clear n v l scratch free c) fewer in
      dvd_of_mul-dvd-mul_left {k = 2} (2 ^ m) (omega arith) (rw pow-succ' at ((dvd-add_iff_right (2 ^ suc m) high).1 (with_holding v l low)))

-- at v, weight m is enough for every m and all terms
abbrev Enough : ℕ → ℕ → ℕ → Type 0
Enough scratch n v = (m : ℕ) (ts : List Term) → UpTo scratch n m ts → 2 ^ m ∣ sum_at ts v

-- weight m is enough: a multiple of 2^m at every input of weight up to m is one at every input
pub weight_enough :
    (scratch n v : ℕ) → v < 2 ^ n → Clear scratch v → (m : ℕ) (ts : List Term) → UpTo scratch n m ts → 2 ^ m ∣ sum_at ts v
weight_enough scratch = by_qubits scratch (Enough scratch) start low high
  where
    start : Enough scratch 0 0
    start m ts h = h 0 (omega arith) (λ q e. bit_zero q) (rw (ones_zero 0) (omega arith))

    low : (n v : ℕ) → v < 2 ^ n → Enough scratch n v → Enough scratch (suc n) v
    low n v l ih m ts h = ih m ts (λ w k c o. h w (omega (arith, pow-succ' 2 n)) c (rw (ones_low n w k) o))

    high : (n v : ℕ) → v < 2 ^ n → bit n scratch ≡ false → Enough scratch n v → Enough scratch (suc n) (2 ^ n + v)
    high n v l free ih zero ts h = one-dvd (sum_at ts (2 ^ n + v))
    high n v l free ih (suc m) ts h =
        let half : 2 ^ m ∣ sum_at (holding n ts) v = ih m (holding n ts) (holding_up_to scratch n m ts free h) in
        let twice : 2 ^ suc m ∣ 2 * sum_at (holding n ts) v = rw pow-succ' (mul-dvd-mul_left (2 ^ m) 2 half) in
        (dvd-add_iff_left (2 ^ suc m) twice).1 (with_holding scratch n m ts free h v l (low n v l ih (suc m) ts h))

-- an element of two lists joined is in one of them
among-append : {v : ℕ} (us ws : List ℕ) → Among v (us ++ ws) → Among v us ⊎ Among v ws
among-append [] ws a = inr a
among-append (u ∷ us) ws here = inl here
among-append (u ∷ us) ws (there a) = ⊎_map there (λ w. w) (among-append us ws a)

-- and the other way round, for the first list
append_left : {v : ℕ} {us : List ℕ} (ws : List ℕ) → Among v us → Among v (us ++ ws)
append_left ws here = here
append_left ws (there a) = there (append_left ws a)

-- and for the second
append_right : {v : ℕ} (us : List ℕ) {ws : List ℕ} → Among v ws → Among v (us ++ ws)
append_right [] a = a
append_right (u ∷ us) a = there (append_right us a)

-- an element of a list's image is the image of an element
among-map : {v : ℕ} (f : ℕ → ℕ) (us : List ℕ) → Among v (map f us) → (u : ℕ) × Among u us × (v ≡ f u)
among-map f [] a = elim a [ ]
among-map f (u ∷ us) here = (u, here, refl)
among-map f (u ∷ us) (there a) = let r = among-map f us a in (r.0, there r.1, r.2)

-- and the other way round
map-among : {v : ℕ} (f : ℕ → ℕ) {us : List ℕ} → Among v us → Among (f v) (map f us)
map-among f here = here
map-among f (there a) = there (map-among f a)

-- v is an input of weight k
abbrev OfWeight : ℕ → ℕ → ℕ → ℕ → Type 0
OfWeight scratch k n v = (v < 2 ^ n) × Clear scratch v × (ones n v ≡ k)

-- the list of weight k holds inputs of weight k
weighed : (scratch k n v : ℕ) → Among v (weight scratch k n) → OfWeight scratch k n v
unfolding weight
weighed scratch zero n v here = (pow_pos n, (λ q e. bit_zero q), ones_zero n)
weighed scratch zero n v (there a) = elim a [ ]
weighed scratch (suc k) zero v a = elim a [ ]
weighed scratch (suc k) (suc n) v a =
    go (weighed scratch (suc k) n v) (weighed scratch k n) (bit n scratch) refl (among-append (weight scratch (suc k) n) _ a)
  where
    go :
        (Among v (weight scratch (suc k) n) → OfWeight scratch (suc k) n v)
        → ((u : ℕ) → Among u (weight scratch k n) → OfWeight scratch k n u)
        → (b : Bool)
        → bit n scratch ≡ b
        → Among v (weight scratch (suc k) n) ⊎ Among v (cond b [] (map (λ u. 2 ^ n + u) (weight scratch k n)))
        → OfWeight scratch (suc k) (suc n) v
    go lower upper b e (inl a) = let r = lower a in (omega (arith, pow-succ' 2 n), r.1, ones_low n v r.0 ∙ r.2)
    go lower upper true e (inr a) = elim a [ ]
    go lower upper false e (inr a) =
        let m = among-map (λ u. 2 ^ n + u) (weight scratch k n) a in
        let r = upper m.0 m.1 in
        rw m.2 (below_high n m.0 r.0, high_clear n m.0 r.0 scratch e r.1, ones_high n m.0 r.0 ∙ ap suc r.2)

-- an input is in the list of its weight
its_weight : (scratch n v : ℕ) → v < 2 ^ n → Clear scratch v → Among v (weight scratch (ones n v) n)
unfolding weight ones
its_weight scratch = by_qubits scratch (λ n v. Among v (weight scratch (ones n v) n)) here low high
  where
    longer : (k n v : ℕ) → Among v (weight scratch k n) → Among v (weight scratch k (suc n))
    longer zero n v a = a
    longer (suc k) n v a = append_left _ a

    low : (n v : ℕ) → v < 2 ^ n → Among v (weight scratch (ones n v) n) → Among v (weight scratch (ones (suc n) v) (suc n))
    low n v l a = rw (ones_low n v l) (longer (ones n v) n v a)

    high :
        (n v : ℕ)
        → v < 2 ^ n
        → bit n scratch ≡ false
        → Among v (weight scratch (ones n v) n)
        → Among (2 ^ n + v) (weight scratch (ones (suc n) (2 ^ n + v)) (suc n))
    high n v l free a =
        rw (ones_high n v l, free) (append_right (weight scratch (suc (ones n v)) n) (map-among (λ u. 2 ^ n + u) a))

-- the inputs of weight k, exactly
pub weight_counts :
    (scratch k n v : ℕ) → Among v (weight scratch k n) ↔ ((v < 2 ^ n) × Clear scratch v × (ones n v ≡ k))
weight_counts scratch k n v = (weighed scratch k n v, λ r. rw r.2 at (its_weight scratch n v r.0 r.1))

-- two rising lists make one if all of the first are below all of the second
append_rising : (us ws : List ℕ) → Rising us → Rising ws → ((u w : ℕ) → Among u us → Among w ws → u < w) → Rising (us ++ ws)
append_rising [] ws i j h = j
append_rising (u ∷ us) ws i j h =
    (λ w a. ⊎_elim (i.0 w) (h u w here) (among-append us ws a), append_rising us ws i.1 j (λ x w a b. h x w (there a) b))

-- a rising list stays so with a number added to each element
map_rising : (m : ℕ) (us : List ℕ) → Rising us → Rising (map (λ v. m + v) us)
map_rising m [] i = tt
map_rising m (u ∷ us) i =
    (λ w a. let r = among-map (λ v. m + v) us a in omega (arith, i.0 r.0 r.1), map_rising m us i.1)

-- the inputs of one weight come in rising order
pub weight_rising : (scratch k n : ℕ) → Rising (weight scratch k n)
unfolding weight
weight_rising scratch zero n = ((λ u a. elim a [ ]), tt)
weight_rising scratch (suc k) zero = tt
weight_rising scratch (suc k) (suc n) =
    append_rising (weight scratch (suc k) n) _ (weight_rising scratch (suc k) n) (upper (weight_rising scratch k n) (bit n scratch))
    (λ u w a. above u w (weighed scratch (suc k) n u a).0 (bit n scratch))
  where
    upper : Rising (weight scratch k n) → (b : Bool) → Rising (cond b [] (map (λ v. 2 ^ n + v) (weight scratch k n)))
    upper i true = tt
    upper i false = map_rising (2 ^ n) (weight scratch k n) i

    above : (u w : ℕ) → u < 2 ^ n → (b : Bool) → Among w (cond b [] (map (λ v. 2 ^ n + v) (weight scratch k n))) → u < w
    above u w l true a = elim a [ ]
    above u w l false a = let m = among-map (λ v. 2 ^ n + v) (weight scratch k n) a in omega arith

-- the phase is the same as at input 0
abbrev Same : Phase → ℕ → Type 0
Same φ v = phase_at φ v % 8 ≡ phase_at φ 0 % 8

-- a search of a list, with its answer: it passes inputs that are the same, and stops at one that differs
data Search (φ : Phase) : List ℕ → Option ℕ → Type 0 where
  end : Search φ [] none
  pass : {u : ℕ} {us : List ℕ} {o : Option ℕ} → Same φ u → Search φ us o → Search φ (u ∷ us) o
  stop : {u : ℕ} {us : List ℕ} → (Same φ u → ⊥) → Search φ (u ∷ us) (some u)

-- the first that differs is the answer of such a search
run_search : (φ : Phase) (us : List ℕ) (o : Option ℕ) → first_differing φ us ≡ o → Search φ us o
unfolding first_such
run_search φ [] o e = rw (← e) end
run_search φ (u ∷ us) o e = go (run_search φ us o) (eqb (phase_at φ u % 8) (phase_at φ 0 % 8)) refl
  where
    go : (first_differing φ us ≡ o → Search φ us o) → (b : Bool) → eqb (phase_at φ u % 8) (phase_at φ 0 % 8) ≡ b → Search φ (u ∷ us) o
    go ih true i = pass (eqb-true (phase_at φ u % 8) (phase_at φ 0 % 8) i) (ih (rw i at e))
    go ih false i =
        let f : some u ≡ o = rw i at e in
        rw (← f) (stop (eqb-false (phase_at φ u % 8) (phase_at φ 0 % 8) i))

-- what a search says of its list
module _ {φ : Phase} where
  -- what is found is in the list
  found_among : {us : List ℕ} {v : ℕ} → Search φ us (some v) → Among v us
  found_among (pass s r) = there (found_among r)
  found_among (stop d) = here

  -- and differs
  found_differs : {us : List ℕ} {v : ℕ} → Search φ us (some v) → Same φ v → ⊥
  found_differs (pass s r) = found_differs r
  found_differs (stop d) = d

  -- in a rising list, all below it are the same
  found_first : {us : List ℕ} {v u : ℕ} → Rising us → Search φ us (some v) → Among u us → u < v → Same φ u
  found_first i (pass s r) here l = s
  found_first i (pass s r) (there a) l = found_first i.1 r a l
  found_first i (stop d) here l = absurd (omega arith)
  found_first {u = u} i (stop d) (there a) l = absurd (omega (arith, i.0 u a))

  -- where none is found, all are the same
  none_found : {us : List ℕ} {u : ℕ} → Search φ us none → Among u us → Same φ u
  none_found {u = u} end a = elim a [ ]
  none_found (pass s r) here = s
  none_found (pass s r) (there a) = none_found r a

  -- what is found in two lists joined is found in the first, or in the second and none in the first
  found-append :
      (us : List ℕ) {ws : List ℕ} {v : ℕ}
      → Search φ (us ++ ws) (some v)
      → Search φ us (some v) ⊎ (Search φ us none × Search φ ws (some v))
  found-append [] r = inr (end, r)
  found-append (u ∷ us) (pass s r) = ⊎_map (pass s) (λ p. (pass s p.0, p.1)) (found-append us r)
  found-append (u ∷ us) (stop d) = inl (stop d)

  -- where none is found in two lists joined, none is in either
  none_append : (us : List ℕ) {ws : List ℕ} → Search φ (us ++ ws) none → Search φ us none × Search φ ws none
  none_append [] r = (end, r)
  none_append (u ∷ us) (pass s r) = let p = none_append us r in (pass s p.0, p.1)

-- the phase is the same as at input 0 exactly where the terms add a multiple of 8
same_multiple : (φ : Phase) (v : ℕ) → Same φ v ↔ (8 ∣ sum_at φ.terms v)
unfolding phase_at
same_multiple φ v = (
  λ s. dvd_of_mod-eq-zero 8 (omega (arith, s, sum_zero φ.terms)),
  λ d. omega (arith, mod-eq-zero_of_dvd 8 d, sum_zero φ.terms),
)

-- the phase is the same at every input of weight below k
abbrev SameBelow : ℕ → ℕ → Phase → ℕ → Type 0
SameBelow scratch n φ k = (v : ℕ) → v < 2 ^ n → Clear scratch v → ones n v < k → Same φ v

-- the three weights, one after another
module _ (scratch n : ℕ) (φ : Phase) where
  -- where none is found of weight k, it is the same below weight k + 1 too
  same_next : (k : ℕ) → SameBelow scratch n φ k → Search φ (weight scratch k n) none → SameBelow scratch n φ (suc k)
  same_next k b r v l c o = go (eqb (ones n v) k) refl
    where
      go : (t : Bool) → eqb (ones n v) k ≡ t → Same φ v
      go true e = none_found r (rw (eqb-true (ones n v) k e) at (its_weight scratch n v l c))
      go false e = b v l c (omega (arith, eqb-false (ones n v) k e))

  -- input 0 is the only one of weight 0
  same_below_one : SameBelow scratch n φ 1
  unfolding weight
  same_below_one = same_next 0 (λ v l c o. absurd (omega arith)) (pass refl end)

  -- what the search finds is found at one weight, and none at those below it
  found-weight :
      {v : ℕ} → Search φ (candidates scratch n) (some v) → (k : ℕ) × SameBelow scratch n φ k × Search φ (weight scratch k n) (some v)
  found-weight r =
      ⊎_elim (λ a. ⊎_elim (λ b. (1, same_below_one, b)) (λ p. (2, same_next 1 same_below_one p.0, p.1)) (found-append (weight scratch 1 n) a))
      (λ p. let q = none_append (weight scratch 1 n) p.0 in (3, same_next 2 (same_next 1 same_below_one q.0) q.1, p.1))
      (found-append (weight scratch 1 n ++ weight scratch 2 n) r)

  -- where the search finds none, the phase is the same at every input
  pub search_none :
      first_differing φ (candidates scratch n) ≡ none → (v : ℕ) → v < 2 ^ n → Clear scratch v → phase_at φ v % 8 ≡ phase_at φ 0 % 8
  search_none e v l c =
      let p = none_append (weight scratch 1 n ++ weight scratch 2 n) (run_search φ (candidates scratch n) none e) in
      let q = none_append (weight scratch 1 n) p.0 in
      let below : SameBelow scratch n φ 4 = same_next 3 (same_next 2 (same_next 1 same_below_one q.0) q.1) p.1 in
      (same_multiple φ v).1
      (weight_enough scratch n v l c 3 φ.terms (λ w k d o. (same_multiple φ w).0 (below w k d (omega arith))))

-- what the search finds is an input at which the phase differs
pub search_some :
    (scratch n v : ℕ) (φ : Phase)
    → first_differing φ (candidates scratch n) ≡ some v
    → (v < 2 ^ n) × Clear scratch v × (phase_at φ v % 8 ≡ phase_at φ 0 % 8 → ⊥)
search_some scratch n v φ e =
    let f = found-weight scratch n φ (run_search φ (candidates scratch n) (some v) e) in
    let w = weighed scratch f.0 n v (found_among f.2) in
    (w.0, w.1, found_differs f.2)

-- and the first one: at inputs of lower weight, and at lower inputs of its weight, the phase is the same
pub search_first :
    (scratch n v : ℕ) (φ : Phase)
    → first_differing φ (candidates scratch n) ≡ some v
    → (u : ℕ)
    → u < 2 ^ n
    → Clear scratch u
    → (ones n u < ones n v) ⊎ ((ones n u ≡ ones n v) × (u < v))
    → phase_at φ u % 8 ≡ phase_at φ 0 % 8
search_first scratch n v φ e u l c before =
    let f = found-weight scratch n φ (run_search φ (candidates scratch n) (some v) e) in
    let k : ones n v ≡ f.0 = (weighed scratch f.0 n v (found_among f.2)).2 in
    ⊎_elim (λ o. f.1 u l c (rw k at o))
    (λ o. found_first (weight_rising scratch f.0 n) f.2 (rw (o.0 ∙ k) at (its_weight scratch n u l c)) o.1)
    before
