-- Lists of words that hold sets of k words, one behind the other, as lists of sets.
-- Assumes nothing.
use mathlib.Core.Path.{◌≡◌, refl, sym, ◌∙◌, ap}
use mathlib.Core.List.{List, [], ◌∷◌, ◌++◌, append_assoc}
use Prim.Native.Nat.{ℕ, zero, suc, ◌+◌, ◌*◌, ◌/◌, ◌%◌, ◌<◌, ◌≤◌}
use native.Mathlib.Nat.{mul-suc, mul-zero, mul-one, add_comm, zero-div, mul-div-le, mul-div_cancel_left, mul-add-div, mul-le-mul_left}
use native.Mathlib.Omega.{arith}
use lib.ListN.{length, get_or, take, drop, set, replicate, length-replicate, replicate-append-replicate, length-append, length-take, length-drop, length-set, take-append-drop}
use lib.Pow.{pow_pos, high, low}
use lib.Seq.{append_snoc, sets, sets-eq, drop-drop, take-append-le, drop-append-le, take_at, drop_at, take_all, take-set-le, take-set-lt, drop-set-add, drop-set-lt, set_split, length-take-le, get_or-take, get_or-drop}
use Rattle.amplitude.specs.Bits.{bit}
use Rattle.phase_sum_words.specs.Words.{word_bits, wide, AreWords, words_of, first_sets, sets_in, words_in}
use Rattle.phase_sum_words.proofs.Wide.{wide_bit}
use Rattle.phase_sum_words.proofs.WideOrder.{wide_zeros}

-- one set more, k words more
times-suc : (k m : ℕ) → k * suc m ≡ k + k * m
times-suc k m = mul-suc k m ∙ add_comm (k * m) k

-- no words, an empty list
no_words : (ws : List ℕ) → length ws ≡ 0 → ws ≡ []
no_words [] e = refl
no_words (w ∷ ws) e = absurd (omega arith)

-- the first of words are words
pub taken_words : (k : ℕ) (ws : List ℕ) → AreWords ws → AreWords (take k ws)
taken_words zero ws a i = pow_pos word_bits
taken_words (suc k) [] a i = pow_pos word_bits
taken_words (suc k) (w ∷ ws) a zero = a 0
taken_words (suc k) (w ∷ ws) a (suc i) = taken_words k ws (λ j. a (suc j)) i

-- and so are the others
pub dropped_words : (k : ℕ) (ws : List ℕ) → AreWords ws → AreWords (drop k ws)
dropped_words k ws a i = rw (get_or-drop k ws i 0) (a (k + i))

-- a word stored among the k words from place n on
set_parted :
    (k n : ℕ) (ws : List ℕ) (j w : ℕ) → j < k → set ws (n + j) w ≡ take n ws ++ set (take k (drop n ws)) j w ++ drop (n + k) ws
set_parted k n ws j w l =
    rw (
      append_assoc,
      ← take-set-lt k (drop n ws) j w l,
      ← drop-drop k n ws,
      ← drop-set-lt k (drop n ws) j w l,
      take-append-drop k (set (drop n ws) j w),
      ← drop-set-add n ws j w,
      ← take-set-le n ws (n + j) w (omega arith),
      take-append-drop n (set ws (n + j) w),
    )

-- the words of a set are those that make it up
pub words_wide : (ws : List ℕ) → AreWords ws → words_of (length ws) (wide ws) ≡ ws
unfolding wide words_of
words_wide [] a = refl
words_wide (w ∷ ws) a = rw (low (wide ws) word_bits (a 0), high (wide ws) word_bits (a 0), words_wide ws (λ i. a (suc i)))

-- as many sets as asked for
length_first : (k m : ℕ) (ws : List ℕ) → length (first_sets k m ws) ≡ m
unfolding first_sets
length_first k zero ws = refl
length_first k (suc m) ws = ap suc (length_first k m (drop k ws))

-- as many sets as there are whole ones
pub length-sets_in : (k : ℕ) (ws : List ℕ) → length (sets_in k ws) ≡ length ws / k
unfolding sets_in
length-sets_in k ws = length_first k (length ws / k) ws

-- set i is made up of k words from place k · i on
get_d_first : (k m : ℕ) (ws : List ℕ) (i : ℕ) → i < m → get_or (first_sets k m ws) i 0 ≡ wide (take k (drop (k * i) ws))
unfolding first_sets
get_d_first k zero ws i l = absurd (omega arith)
get_d_first k (suc m) ws zero l = rw (mul-zero k)
get_d_first k (suc m) ws (suc i) l = get_d_first k m (drop k ws) i (omega arith) ∙ rw (drop-drop (k * i) k ws, times-suc k i)

-- Sets of at least one word each.
module _ (k : ℕ) (some : 0 < k) where
  -- no words hold no set
  none_in : sets_in k [] ≡ []
  unfolding sets_in first_sets
  none_in = rw (zero-div k)

  -- the first of sets, and the others
  first_in_lem : (ws : List ℕ) → k ≤ length ws → sets_in k ws ≡ wide (take k ws) ∷ sets_in k (drop k ws)
  unfolding sets_in first_sets
  first_in_lem ws l =
      let whole : length ws ≡ k * 1 + length (drop k ws) = rw (length-drop, mul-one) (omega arith) in
      let one_more : length ws / k ≡ suc (length (drop k ws) / k) = rw whole (mul-add-div some 1 (length (drop k ws)) ∙ omega arith) in
      rw one_more

  -- k words hold one set
  one_in : (vs : List ℕ) → length vs ≡ k → sets_in k vs ≡ wide vs ∷ []
  one_in vs e =
      let behind : length (drop k vs) ≡ 0 = rw length-drop (omega arith) in
      rw (first_in_lem vs (omega arith), take_all k vs (omega arith), no_words (drop k vs) behind, none_in)

  -- two stretches of words, the first of whole sets
  pub sets_in_append : (a : ℕ) (xs ys : List ℕ) → length xs ≡ k * a → sets_in k (xs ++ ys) ≡ sets_in k xs ++ sets_in k ys
  sets_in_append zero xs ys e = rw (no_words xs (e ∙ mul-zero k), none_in)
  sets_in_append (suc a) xs ys e =
      let all : length xs ≡ k + k * a = e ∙ times-suc k a in
      let both : k ≤ length (xs ++ ys) = rw length-append (omega arith) in
      let behind : length (drop k xs) ≡ k * a = rw length-drop (omega arith) in
      rw (
        first_in_lem (xs ++ ys) both,
        take-append-le k xs ys (omega arith),
        drop-append-le k xs ys (omega arith),
        sets_in_append a (drop k xs) ys behind,
        first_in_lem xs (omega arith),
      )

  -- the words of as many sets as there are whole ones are there
  pub enough : (ws : List ℕ) (j : ℕ) → j ≤ length ws / k → k * j ≤ length ws
  enough ws j l =
      let most : k * j ≤ k * (length ws / k) = mul-le-mul_left k l in
      omega (arith, mul-div-le (length ws) k)

  -- the words of the first j sets
  front_words : (ws : List ℕ) (j : ℕ) → j ≤ length ws / k → length (take (k * j) ws) ≡ k * j
  front_words ws j l = length-take-le (k * j) ws (enough ws j l)

  -- the sets in two stretches, cut behind the first j
  cut_in : (ws : List ℕ) (j : ℕ) → j ≤ length ws / k → sets_in k ws ≡ sets_in k (take (k * j) ws) ++ sets_in k (drop (k * j) ws)
  cut_in ws j l =
      ap (sets_in k) (sym (take-append-drop (k * j) ws)) ∙ sets_in_append j (take (k * j) ws) (drop (k * j) ws) (front_words ws j l)

  -- the sets of the first stretch
  front_count : (ws : List ℕ) (j : ℕ) → j ≤ length ws / k → length (sets_in k (take (k * j) ws)) ≡ j
  front_count ws j l = rw (length-sets_in k (take (k * j) ws), front_words ws j l) (mul-div_cancel_left j some)

  -- the first j sets
  pub take-sets_in : (ws : List ℕ) (j : ℕ) → j ≤ length ws / k → sets_in k (take (k * j) ws) ≡ take j (sets_in k ws)
  take-sets_in ws j l = rw (cut_in ws j l) (sym (take_at _ (sets_in k (drop (k * j) ws)) j (front_count ws j l)))

  -- the others
  pub drop-sets_in : (ws : List ℕ) (j : ℕ) → j ≤ length ws / k → sets_in k (drop (k * j) ws) ≡ drop j (sets_in k ws)
  drop-sets_in ws j l = rw (cut_in ws j l) (sym (drop_at (sets_in k (take (k * j) ws)) _ j (front_count ws j l)))

  -- k words in place of those of set i are another set i
  replaced_in :
      (ws : List ℕ) (i : ℕ) (vs : List ℕ) →
      length vs ≡ k →
      i < length ws / k →
      sets_in k (take (k * i) ws ++ vs ++ drop (k * i + k) ws) ≡ set (sets_in k ws) i (wide vs)
  replaced_in ws i vs e l =
      let front : length (take (k * i) ws) ≡ k * i = front_words ws i (omega arith) in
      let both : length (take (k * i) ws ++ vs) ≡ k * suc i = rw (length-append, front, mul-suc, e) in
      let inside : i < length (sets_in k ws) = rw length-sets_in l in
      rw (
        sets_in_append (suc i) (take (k * i) ws ++ vs) (drop (k * i + k) ws) both,
        sets_in_append i (take (k * i) ws) vs front,
        one_in vs e,
        take-sets_in ws i (omega arith),
        ← mul-suc k i,
        drop-sets_in ws (suc i) l,
        set_split (sets_in k ws) i (wide vs) inside,
      )
      (append_snoc (take i (sets_in k ws)) (wide vs) (drop (suc i) (sets_in k ws)))

  -- k words stored at place k · i are set i stored
  pub set-sets_in :
      (ws : List ℕ) (i : ℕ) (vs : List ℕ) →
      length vs ≡ k →
      i < length ws / k →
      sets_in k (sets ws (k * i) vs) ≡ set (sets_in k ws) i (wide vs)
  set-sets_in ws i vs e l =
      let room : k * i + length vs ≤ length ws = rw (e, ← mul-suc k i) (enough ws (suc i) l) in
      rw (sets-eq vs ws (k * i) room, e) (replaced_in ws i vs e l)

  -- one word of the set at a place stored anew
  pub set_word :
      (ws : List ℕ) (i j w : ℕ) →
      i < length ws / k →
      j < k →
      sets_in k (set ws (k * i + j) w) ≡ set (sets_in k ws) i (wide (set (take k (drop (k * i) ws)) j w))
  set_word ws i j w l m =
      let part = take k (drop (k * i) ws) in
      let parted : set ws (k * i + j) w ≡ take (k * i) ws ++ set part j w ++ drop (k * i + k) ws = set_parted k (k * i) ws j w m in
      let whole : length (set part j w) ≡ k = rw (length-set, length-take, length-drop) (omega (arith, mul-suc k i, enough ws (suc i) l)) in
      rw parted (replaced_in ws i (set part j w) whole l)

  -- words that are 0 hold empty sets
  pub sets_in_zeros : (m : ℕ) → sets_in k (replicate (k * m) 0) ≡ replicate m 0
  sets_in_zeros zero = rw (mul-zero k) none_in
  sets_in_zeros (suc m) =
      let parts : replicate {A = ℕ} (k * suc m) 0 ≡ replicate k 0 ++ replicate (k * m) 0 =
      rw (times-suc k m) (sym (replicate-append-replicate k (k * m) 0)) in
      let first : length (replicate {A = ℕ} k 0) ≡ k * 1 = length-replicate k 0 ∙ sym (mul-one k) in
      rw (
        parts,
        sets_in_append 1 (replicate k 0) (replicate (k * m) 0) first,
        one_in (replicate k 0) (length-replicate k 0),
        wide_zeros k,
        sets_in_zeros m,
      )

  -- set i is made up of k words from place k · i on
  pub get_d_sets_in : (ws : List ℕ) (i : ℕ) → i < length ws / k → get_or (sets_in k ws) i 0 ≡ wide (take k (drop (k * i) ws))
  unfolding sets_in
  get_d_sets_in ws i l = get_d_first k (length ws / k) ws i l

  -- variable v of set i is in one word
  pub bit-sets_in :
      (ws : List ℕ) →
      AreWords ws →
      (i v : ℕ) →
      i < length ws / k →
      v < word_bits * k →
      bit v (get_or (sets_in k ws) i 0) ≡ bit (v % word_bits) (get_or ws (k * i + v / word_bits) 0)
  bit-sets_in ws a i v l h =
      let word : v / word_bits < k = omega arith in
      let behind = drop (k * i) ws in
      let fit : AreWords (take k behind) = taken_words k behind (dropped_words (k * i) ws a) in
      rw (get_d_sets_in ws i l, wide_bit (take k behind) fit v, get_or-take k behind (v / word_bits) 0 word, get_or-drop)

  -- whole sets as words again
  pub words_sets_in : (m : ℕ) (ws : List ℕ) → AreWords ws → length ws ≡ k * m → words_in k (sets_in k ws) ≡ ws
  unfolding words_in
  words_sets_in zero ws a e = rw (no_words ws (e ∙ mul-zero k), none_in)
  words_sets_in (suc m) ws a e =
      let all : length ws ≡ k + k * m = e ∙ times-suc k m in
      let behind : length (drop k ws) ≡ k * m = rw length-drop (omega arith) in
      let whole : length (take k ws) ≡ k = length-take-le k ws (omega arith) in
      let first : words_of k (wide (take k ws)) ≡ take k ws = rw whole at (words_wide (take k ws) (taken_words k ws a)) in
      rw
      (first_in_lem ws (omega arith), first, words_sets_in m (drop k ws) (dropped_words k ws a) behind)
      (take-append-drop k ws)

  -- the same sets, the same words
  pub sets_in_injective :
      (m : ℕ) (xs ys : List ℕ) →
      AreWords xs →
      AreWords ys →
      length xs ≡ k * m →
      length ys ≡ k * m →
      sets_in k xs ≡ sets_in k ys →
      xs ≡ ys
  sets_in_injective m xs ys p q e f s = sym (words_sets_in m xs p e) ∙ ap (words_in k) s ∙ words_sets_in m ys q f
