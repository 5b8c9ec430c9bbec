-- One turn of each gate's pass over a column.
-- Assumes nothing.
use mathlib.Core.Path.{◌≡◌, refl, sym, ◌∙◌, ap}
use mathlib.Core.Logic.{◌≢◌}
use mathlib.Core.List.{List}
use mathlib.Core.Bool.{Bool, true, false, xor, false≢true}
use Prim.Native.Nat.{ℕ, ◌^◌, ◌<◌, ◌≤◌}
use lib.ListN.{length}
use lib.IntN.{ℤ}
use Rattle.record_format.specs.Gate.{two, CX, SWAP}
use Rattle.amplitude.specs.Number.{ω^}
use Rattle.amplitude.specs.Bits.{bit, put}
use Rattle.amplitude.specs.Circuit.{State, apply}
use Rattle.amplitude.proofs.BitLaws.{bit_put_same, bit_put_other, put_put_same, put_put_other}
use Rattle.dense_columns.specs.Columns.{amplitude_at, stored, Exchanged, Turned, itself}
use Rattle.dense_columns.proofs.Passes.{point_turned, point_kept}
use Rattle.dense_columns.proofs.Pairs.{put_own, Pair, pair_made, pair_turned}
use Rattle.dense_turning.specs.Turns.{turned_where, crossed, lowest}
use Rattle.dense_turning.specs.Local.{lowest_put}

-- a place where both bits are 1 is turned
pub both_turned : (n a b k w : ℕ) (xs : List (List ℤ)) → w < length xs → bit a w ≡ true → bit b w ≡ true →
    Turned n itself (turned_where a b k) w xs (stored xs w (ω^ k (amplitude_at xs w)))
both_turned n a b k w xs room p q = point_turned n w (turned_where a b k) (ω^ k (amplitude_at xs w)) xs room (unfold turned_where in rw (p, q))

-- a place where the first bit is 0 is left
pub first_kept : (n a b k w : ℕ) (xs : List (List ℤ)) → bit a w ≡ false → Turned n itself (turned_where a b k) w xs xs
first_kept n a b k w xs p = point_kept n w (turned_where a b k) xs (unfold turned_where in rw p)

-- and so is one where the first is 1 and the second 0
pub second_kept : (n a b k w : ℕ) (xs : List (List ℤ)) → bit a w ≡ true → bit b w ≡ false → Turned n itself (turned_where a b k) w xs xs
second_kept n a b k w xs p q = point_kept n w (turned_where a b k) xs (unfold turned_where in rw (p, q))

-- a pair is exchanged and turned
pub crossed_turned : {n q w high : ℕ} (b c : ℕ) (xs : List (List ℤ)) → Pair n q w high → 2 ^ n ≤ length xs →
    Turned n (put q false) (crossed q b c) w xs (stored (stored xs w (ω^ b (amplitude_at xs high))) high (ω^ c (amplitude_at xs w)))
crossed_turned {n} {q} {w} {high} b c xs pair room =
    pair_turned (crossed q b c) (ω^ b (amplitude_at xs high)) (ω^ c (amplitude_at xs w)) xs pair room at_low at_high
  where
    at_low : ω^ b (amplitude_at xs high) ≡ crossed q b c (amplitude_at xs) w
    at_low = unfold crossed in rw (pair.low, pair.is)

    at_high : ω^ c (amplitude_at xs w) ≡ crossed q b c (amplitude_at xs) high
    at_high = unfold crossed in rw (pair.joined, ap (bit q) pair.is ∙ bit_put_same q true w)

-- where the control is 0, CX leaves the pair as it is
pub cx_kept : (n a b w : ℕ) (xs : List (List ℤ)) → a ≢ b → bit a w ≡ false → Turned n (put b false) (apply (two CX a b)) w xs xs
cx_kept n a b w xs ne e = record { here = λ u l h. place u (bit b u) h refl; others = λ u l h. refl }
  where
    control : (u : ℕ) → put b false u ≡ w → bit a u ≡ false
    control u h = sym (bit_put_other a b false u ne) ∙ ap (bit a) h ∙ e

    place : (u : ℕ) (t : Bool) → put b false u ≡ w → bit b u ≡ t → amplitude_at xs u ≡ apply (two CX a b) (amplitude_at xs) u
    place u true h s = unfold apply xor in rw (control u h, s, put_own b true u s)
    place u false h s = unfold apply xor in rw (control u h, s, put_own b false u s)

-- where it is 1, CX exchanges the pair
pub cx_turned : {n b w high : ℕ} (a : ℕ) (xs ys : List (List ℤ)) → a ≢ b → Pair n b w high → bit a w ≡ true → Exchanged w high xs ys →
    Turned n (put b false) (apply (two CX a b)) w xs ys
cx_turned {n} {b} {w} {high} a xs ys ne pair on ex =
    pair_made (apply (two CX a b)) xs ys pair (ex.at_low ∙ at_low) (ex.at_high ∙ at_high) ex.others
  where
    at_low : amplitude_at xs high ≡ apply (two CX a b) (amplitude_at xs) w
    at_low = unfold apply xor in rw (on, pair.low) (ap (amplitude_at xs) pair.is)

    at_high : amplitude_at xs w ≡ apply (two CX a b) (amplitude_at xs) high
    at_high =
        unfold apply xor in
        rw (ap (bit a) pair.is ∙ bit_put_other a b true w ne ∙ on, ap (bit b) pair.is ∙ bit_put_same b true w)
        (ap (amplitude_at xs) (sym pair.joined))

-- both bits of the lowest are 0
lowest_bits : (a b w u : ℕ) → a ≢ b → lowest a b u ≡ w → (bit a w ≡ false) × (bit b w ≡ false)
lowest_bits a b w u ne e = (
  sym (ap (bit a) e) ∙ bit_put_same a false (put b false u),
  sym (ap (bit b) e) ∙ bit_put_other b a false (put b false u) (λ h. ne (sym h)) ∙ bit_put_same b false u,
)

-- so a turn at a place whose first bit is 1 does nothing
pub first_not_lowest : (n a b w : ℕ) (F : State → State) (xs : List (List ℤ)) → a ≢ b → bit a w ≡ true → Turned n (lowest a b) F w xs xs
first_not_lowest n a b w F xs ne e =
    record { here = λ u l h. absurd (false≢true (sym (lowest_bits a b w u ne h).0 ∙ e)); others = λ u l h. refl }

-- and neither does one where the second is 1
pub second_not_lowest : (n a b w : ℕ) (F : State → State) (xs : List (List ℤ)) → a ≢ b → bit b w ≡ true → Turned n (lowest a b) F w xs xs
second_not_lowest n a b w F xs ne e =
    record { here = λ u l h. absurd (false≢true (sym (lowest_bits a b w u ne h).1 ∙ e)); others = λ u l h. refl }

-- at the lowest of four places SWAP exchanges the two that have one of its bits
pub swap_turned : {n a b w p q : ℕ} (xs ys : List (List ℤ)) → Pair n a w p → Pair n b w q → a ≢ b → Exchanged p q xs ys →
    Turned n (lowest a b) (apply (two SWAP a b)) w xs ys
swap_turned {n} {a} {b} {w} {p} {q} xs ys first_pair second_pair ne ex =
    record { here = λ u l h. place u (bit a u) (bit b u) h refl refl; others = λ u l h. ex.others u (λ e. h (ap (lowest a b) e ∙ of_p)) (λ e. h (ap (lowest a b) e ∙ of_q)) }
  where
    en : b ≡ a → ⊥
    en e = ne (sym e)

    -- the bits of the two
    p_a : bit a p ≡ true
    p_a = ap (bit a) first_pair.is ∙ bit_put_same a true w

    p_b : bit b p ≡ false
    p_b = ap (bit b) first_pair.is ∙ bit_put_other b a true w en ∙ second_pair.low

    q_a : bit a q ≡ false
    q_a = ap (bit a) second_pair.is ∙ bit_put_other a b true w ne ∙ first_pair.low

    q_b : bit b q ≡ true
    q_b = ap (bit b) second_pair.is ∙ bit_put_same b true w

    -- the two by any of the four
    first : (u : ℕ) → lowest a b u ≡ w → put a true (put b false u) ≡ p
    first u h = sym (first_pair.is ∙ ap (put a true) (sym h) ∙ put_put_same a true false (put b false u))

    second : (u : ℕ) → lowest a b u ≡ w → put a false (put b true u) ≡ q
    second u h =
        sym (second_pair.is ∙ ap (put b true) (sym h) ∙ put_put_other b a true false (put b false u) en ∙ ap (put a false) (put_put_same b true false u))

    own : (u : ℕ) (x y : Bool) → bit a u ≡ x → bit b u ≡ y → put a x (put b y u) ≡ u
    own u x y ea eb = ap (put a x) (put_own b y u eb) ∙ put_own a x u ea

    self : lowest a b w ≡ w
    self = own w false false first_pair.low second_pair.low

    of_p : lowest a b p ≡ w
    of_p = ap (lowest a b) (sym (first w self)) ∙ lowest_put a b w true false ne ∙ self

    of_q : lowest a b q ≡ w
    of_q = ap (lowest a b) (sym (second w self)) ∙ lowest_put a b w false true ne ∙ self

    -- with equal bits the place stays
    equal : (u : ℕ) (t : Bool) → bit a u ≡ t → bit b u ≡ t → amplitude_at ys u ≡ apply (two SWAP a b) (amplitude_at xs) u
    equal u t ea eb =
        ex.others u (λ e. false≢true (sym p_b ∙ sym (ap (bit b) e) ∙ eb ∙ sym ea ∙ ap (bit a) e ∙ p_a))
        (λ e. false≢true (sym q_a ∙ sym (ap (bit a) e) ∙ ea ∙ sym eb ∙ ap (bit b) e ∙ q_b))
        ∙ (unfold apply in rw (ea, eb, own u t t ea eb))

    place : (u : ℕ) (x y : Bool) → lowest a b u ≡ w → bit a u ≡ x → bit b u ≡ y → amplitude_at ys u ≡ apply (two SWAP a b) (amplitude_at xs) u
    place u false false h ea eb = equal u false ea eb
    place u true true h ea eb = equal u true ea eb
    place u true false h ea eb =
        ap (amplitude_at ys) (sym (own u true false ea eb) ∙ first u h)
        ∙ ex.at_low
        ∙ (unfold apply in rw (ea, eb, second u h))
    place u false true h ea eb =
        ap (amplitude_at ys) (sym (own u false true ea eb) ∙ second u h)
        ∙ ex.at_high
        ∙ (unfold apply in rw (ea, eb, first u h))
