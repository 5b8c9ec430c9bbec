-- The searches of specs/Columns.antt: a test that passes somewhere in a list, and the first number below a bound that passes one.
-- Assumes nothing.
use mathlib.Core.Path.{◌≡◌, refl, sym, ◌∙◌}
use mathlib.Core.Logic.{◌↔◌, ◌⊎◌, inl, inr}
use mathlib.Core.Bool.{Bool, true, false, cond, ◌||◌, false≢true}
use mathlib.Core.List.{List, [], ◌∷◌}
use mathlib.Core.Option.{Option, none, some, none-ne-some}
use Prim.Native.Nat.{ℕ, zero, suc, ◌<◌}
use native.Mathlib.Decide.{dec_lt}
use native.Mathlib.Omega.{arith}
use borrow.Author.Count.{below_more}
use Rattle.dense_meaning.specs.Columns.{powers, some_of, or_else, first_below}

-- a number is in a list
In : ℕ → List ℕ → Type 0
In k [] = ⊥
In k (m ∷ ms) = (k ≡ m) ⊎ In k ms

-- every number below 8 is among the powers
power_in : (j : ℕ) → j < 8 → In j powers
unfolding In
power_in zero l = inl refl
power_in (suc zero) l = inr (inl refl)
power_in (suc (suc zero)) l = inr (inr (inl refl))
power_in (suc (suc (suc zero))) l = inr (inr (inr (inl refl)))
power_in (suc (suc (suc (suc zero)))) l = inr (inr (inr (inr (inl refl))))
power_in (suc (suc (suc (suc (suc zero))))) l = inr (inr (inr (inr (inr (inl refl)))))
power_in (suc (suc (suc (suc (suc (suc zero)))))) l = inr (inr (inr (inr (inr (inr (inl refl))))))
power_in (suc (suc (suc (suc (suc (suc (suc zero))))))) l = inr (inr (inr (inr (inr (inr (inr (inl refl)))))))
power_in (suc (suc (suc (suc (suc (suc (suc (suc j)))))))) l = absurd (omega arith)

-- a test that passes at a number of a list passes somewhere in it
some_in : (test : ℕ → Bool) (k : ℕ) (ks : List ℕ) → In k ks → test k ≡ true → some_of test ks ≡ true
unfolding In some_of
some_in test k [] i h = absurd i
some_in test k (m ∷ ms) (inl e) h = rw (← e, h)
some_in test k (m ∷ ms) (inr i) h = go (test m) (some_in test k ms i h)
  where
    go : (b : Bool) → some_of test ms ≡ true → b || some_of test ms ≡ true
    go true r = refl
    go false r = r

-- and one that passes somewhere passes at one of its numbers
some_found : (test : ℕ → Bool) (P : ℕ → Type 0) (ks : List ℕ) → ((k : ℕ) → In k ks → P k) → some_of test ks ≡ true →
    (k : ℕ) × P k × (test k ≡ true)
unfolding In some_of
some_found test P [] all h = absurd (false≢true h)
some_found test P (m ∷ ms) all h = go (test m) refl (some_found test P ms (λ k i. all k (inr i))) h
  where
    go : (b : Bool) → test m ≡ b → (some_of test ms ≡ true → (k : ℕ) × P k × (test k ≡ true)) → b || some_of test ms ≡ true →
        (k : ℕ) × P k × (test k ≡ true)
    go true e rest r = (m, all m (inl refl), e)
    go false e rest r = rest r

-- the powers are below 8
power_below : (k : ℕ) → In k powers → k < 8
unfolding In
power_below k (inl e) = omega arith
power_below k (inr (inl e)) = omega arith
power_below k (inr (inr (inl e))) = omega arith
power_below k (inr (inr (inr (inl e)))) = omega arith
power_below k (inr (inr (inr (inr (inl e))))) = omega arith
power_below k (inr (inr (inr (inr (inr (inl e)))))) = omega arith
power_below k (inr (inr (inr (inr (inr (inr (inl e))))))) = omega arith
power_below k (inr (inr (inr (inr (inr (inr (inr (inl e)))))))) = omega arith
power_below k (inr (inr (inr (inr (inr (inr (inr (inr i)))))))) = absurd i

-- a test passes at some power exactly where it passes at a number below 8
pub some_power : (test : ℕ → Bool) → (some_of test powers ≡ true) ↔ ((j : ℕ) × (j < 8) × (test j ≡ true))
some_power test = (some_found test (λ k. k < 8) powers power_below, λ h. some_in test h.0 powers (power_in h.0 h.1) h.2)

-- nothing is found below m exactly where the test fails at every number there
pub none_below : (test : ℕ → Bool) (m : ℕ) → first_below test m ≡ none → (v : ℕ) → v < m → test v ≡ false
unfolding first_below
none_below test zero h = λ v l. absurd (omega arith)
none_below test (suc m) h = go (first_below test m) refl (none_below test m) h
  where
    last : (b : Bool) → test m ≡ b → cond b (some m) none ≡ none → test m ≡ false
    last true e r = absurd (none-ne-some m (sym r))
    last false e r = e

    go : (o : Option ℕ) → first_below test m ≡ o → (first_below test m ≡ none → (v : ℕ) → v < m → test v ≡ false) →
        or_else o (cond (test m) (some m) none) ≡ none → (v : ℕ) → v < suc m → test v ≡ false
    go none e rest r = λ v l. below_more (λ u. test u ≡ false) m (rest e) (last (test m) refl r) v (omega arith)
    go (some u) e rest r = absurd (none-ne-some u (sym r))

pub below_none : (test : ℕ → Bool) (m : ℕ) → ((v : ℕ) → v < m → test v ≡ false) → first_below test m ≡ none
unfolding first_below
below_none test zero h = refl
below_none test (suc m) h = rw (below_none test m (λ v l. h v (omega arith)), h m (omega arith))

-- the number found is below m, passes the test, and none before it does
pub record First (test : ℕ → Bool) (m v : ℕ) : Type 0 where
  pub inside : v < m
  pub passes : test v ≡ true
  pub before : (u : ℕ) → u < v → test u ≡ false

pub some_below : (test : ℕ → Bool) (m v : ℕ) → first_below test m ≡ some v → First test m v
unfolding first_below
some_below test zero v h = absurd (none-ne-some v h)
some_below test (suc m) v h = go (first_below test m) refl (some_below test m v) h
  where
    last : (b : Bool) → test m ≡ b → first_below test m ≡ none → cond b (some m) none ≡ some v → First test (suc m) v
    last true e f r =
        let here : m ≡ v = cc in
        record { inside = omega arith; passes = rw here at e; before = λ u l. none_below test m f u (omega arith) }
    last false e f r = absurd (none-ne-some v r)

    go : (o : Option ℕ) → first_below test m ≡ o → (first_below test m ≡ some v → First test m v) →
        or_else o (cond (test m) (some m) none) ≡ some v → First test (suc m) v
    go none e rest r = last (test m) refl e r
    go (some u) e rest r =
        let f = rest (e ∙ r) in
        record { inside = omega (arith, f.inside); passes = f.passes; before = f.before }

-- and a number that is so is found
pub below_some : (test : ℕ → Bool) (m v : ℕ) → First test m v → first_below test m ≡ some v
unfolding first_below
below_some test zero v f = absurd (omega (arith, f.inside))
below_some test (suc m) v f = go (dec_lt v m) (below_some test m v)
  where
    go : Dec (v < m) → (First test m v → first_below test m ≡ some v) → or_else (first_below test m) (cond (test m) (some m) none) ≡ some v
    go (yes l) rest = rw (rest (record { inside = l; passes = f.passes; before = f.before }))
    go (no l) rest =
        let here : v ≡ m = omega (arith, f.inside) in
        rw (below_none test m (λ u k. f.before u (omega arith)), ← here, f.passes)

-- tests that agree below m find the same number there
pub same_below : (test other : ℕ → Bool) (m : ℕ) → ((v : ℕ) → v < m → test v ≡ other v) → first_below test m ≡ first_below other m
unfolding first_below
same_below test other zero same = refl
same_below test other (suc m) same = rw (same_below test other m (λ v l. same v (omega arith)), same m (omega arith))
