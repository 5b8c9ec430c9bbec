-- Places that differ in bit q alone: it is 0 in the lower of the pair and 1 in the upper, which is 2^q further on.
-- Assumes nothing.
use mathlib.Core.Path.{◌≡◌, refl, sym, ◌∙◌, ap}
use mathlib.Core.Logic.{◌⊎◌, inl, inr}
use mathlib.Core.List.{List}
use mathlib.Core.Bool.{Bool, true, false, false≢true}
use Prim.Native.Nat.{ℕ, zero, suc, ◌+◌, ◌*◌, ◌/◌, ◌%◌, ◌^◌, ◌<◌, ◌≤◌}
use native.Mathlib.Nat.{div-div-eq-div-mul, pow-succ', div-one}
use native.Mathlib.Omega.{arith}
use lib.Dec.{eqb}
use lib.ListN.{length}
use lib.IntN.{ℤ}
use Rattle.amplitude.specs.Number.{Zω}
use Rattle.amplitude.specs.Bits.{bit, put}
use Rattle.amplitude.specs.Circuit.{State}
use Rattle.amplitude.proofs.BitLaws.{bit_put_same, put_put_same, put_bit, put_below}
use Rattle.dense_columns.specs.Columns.{amplitude_at, stored, Room, Turned}
use Rattle.dense_columns.proofs.Places.{length-stored, stored_same, stored_other}

-- bit q by a shift and a remainder
pub bit_shift : (q w : ℕ) → bit q w ≡ eqb (w / 2 ^ q % 2) 1
unfolding bit
bit_shift zero w = ap (λ x. eqb (x % 2) 1) (sym (div-one w))
bit_shift (suc q) w =
    bit_shift q (w / 2) ∙ ap (λ x. eqb (x % 2) 1) (div-div-eq-div-mul w 2 (2 ^ q) ∙ ap (λ m. w / m) (sym (pow-succ' 2 q)))

-- putting the bit that is there changes nothing
pub put_own : (q : ℕ) (b : Bool) (w : ℕ) → bit q w ≡ b → put q b w ≡ w
put_own q b w e = ap (λ c. put q c w) (sym e) ∙ put_bit q w

-- the upper place is 2^q further on
pub upper : (q w : ℕ) → bit q w ≡ false → put q true w ≡ w + 2 ^ q
unfolding bit put
upper zero w e =
    let h : 2 * (w / 2) + 0 ≡ w = put_own zero false w e in
    omega arith
upper (suc q) w e = rw (upper q (w / 2) e) (omega (arith, pow-succ' 2 q))

-- a place whose bit q is 1 is the lower of no pair
pub not_lower : (q u w : ℕ) → bit q w ≡ true → put q false u ≡ w → ⊥
not_lower q u w e h = false≢true (sym (bit_put_same q false u) ∙ ap (bit q) h ∙ e)

-- a place is the lower or the upper of its pair
pub of_pair : (q u w : ℕ) → put q false u ≡ w → (u ≡ w) ⊎ (u ≡ put q true w)
of_pair q u w h = go (bit q u) refl
  where
    go : (b : Bool) → bit q u ≡ b → (u ≡ w) ⊎ (u ≡ put q true w)
    go false e = inl (sym (put_own q false u e) ∙ h)
    go true e = inr (sym (put_own q true u e) ∙ sym (put_put_same q true false u) ∙ ap (put q true) h)

-- a pair along q among the places of n qubits: w is the lower and high the upper
pub record Pair (n q w high : ℕ) : Type 0 where
  pub low : bit q w ≡ false
  pub is : high ≡ put q true w
  pub below : w < 2 ^ n
  pub top : high < 2 ^ n
  pub own : put q false w ≡ w
  pub joined : put q false high ≡ w

-- as the code finds it
pub pair_at : {n q w p : ℕ} → q < n → w < 2 ^ n → false ≡ bit q w → p ≡ 2 ^ q → Pair n q w (w + p)
pair_at {n} {q} {w} {p} qn wn low e =
    record {
      low = sym low;
      is = is;
      below = wn;
      top = rw is (put_below n q true w qn wn);
      own = put_own q false w (sym low);
      joined = rw is (put_put_same q false true w ∙ put_own q false w (sym low));
    }
  where
    is : w + p ≡ put q true w
    is = rw e (sym (upper q w (sym low)))

-- both places of a pair are there, as the code finds it, and what holds of the amplitudes at the places of the key w holds at both
pub both_places : {n q w p : ℕ} (Takes : Zω → Type 0) (xs : List (List ℤ)) → q < n → w < 2 ^ n → false ≡ bit q w → p ≡ 2 ^ q → Room n xs →
    ((u : ℕ) → u < 2 ^ n → put q false u ≡ w → Takes (amplitude_at xs u)) →
    (w < length xs) × (w + p < length xs) × Takes (amplitude_at xs w) × Takes (amplitude_at xs (w + p))
both_places {n} {q} {w} {p} Takes xs qn wn low e room takes =
    let pair = pair_at qn wn low e in
    (omega (arith, room.places), omega (arith, pair.top, room.places), takes w pair.below pair.own, takes (w + p) pair.top pair.joined)

-- one turn of a pass along q: what F makes of the column stands at both places of a pair, and the others stay
pub pair_made : {n q w high : ℕ} (F : State → State) (xs ys : List (List ℤ)) → Pair n q w high →
    amplitude_at ys w ≡ F (amplitude_at xs) w → amplitude_at ys high ≡ F (amplitude_at xs) high →
    ((u : ℕ) → (u ≡ w → ⊥) → (u ≡ high → ⊥) → amplitude_at ys u ≡ amplitude_at xs u) → Turned n (put q false) F w xs ys
pair_made {n} {q} {w} {high} F xs ys pair low top others =
    record {
      here = λ u b e. place u (of_pair q u w e);
      others = λ u b ne. others u (λ e. ne (ap (put q false) e ∙ pair.own)) (λ e. ne (ap (put q false) e ∙ pair.joined));
    }
  where
    place : (u : ℕ) → (u ≡ w) ⊎ (u ≡ put q true w) → amplitude_at ys u ≡ F (amplitude_at xs) u
    place u (inl e) = rw e low
    place u (inr e) = rw (e ∙ sym pair.is) top

-- as two stores do it
pub pair_turned : {n q w high : ℕ} (F : State → State) (x y : Zω) (xs : List (List ℤ)) → Pair n q w high → 2 ^ n ≤ length xs →
    x ≡ F (amplitude_at xs) w → y ≡ F (amplitude_at xs) high → Turned n (put q false) F w xs (stored (stored xs w x) high y)
pair_turned {n} {q} {w} {high} F x y xs pair room ex ey =
    pair_made F xs (stored (stored xs w x) high y) pair
    (stored_other (stored xs w x) high y w apart ∙ stored_same xs w x (omega (arith, pair.below)) ∙ ex)
    (stored_same (stored xs w x) high y (omega (arith, length-stored xs w x, pair.top)) ∙ ey)
    (λ u p q. stored_other (stored xs w x) high y u q ∙ stored_other xs w x u p)
  where
    apart : w ≡ high → ⊥
    apart e = not_lower q w w (ap (bit q) (e ∙ pair.is) ∙ bit_put_same q true w) pair.own

-- a turn at a place that is no lower one does nothing
pub none_turned : {n : ℕ} (q : ℕ) {w : ℕ} {F : State → State} {xs : List (List ℤ)} → true ≡ bit q w → Turned n (put q false) F w xs xs
none_turned q {w} e = record { here = λ u b h. absurd (not_lower q u w (sym e) h); others = λ u b ne. refl }
