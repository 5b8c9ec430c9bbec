-- Sets of two words: the laws of any number of words (phase_sum_words) at `words_each`, in the forms that the code meets.
-- Assumes nothing.
use mathlib.Core.Path.{◌≡◌, refl, sym, ◌∙◌, ap}
use mathlib.Core.Bool.{◌&&◌, ◌||◌, not}
use mathlib.Core.List.{List, [], ◌∷◌}
use Prim.Native.Nat.{ℕ, zero, suc, ◌+◌, ◌-◌, ◌*◌, ◌/◌, ◌%◌, ◌^◌, ◌<◌, ◌≤◌}
use native.Mathlib.Nat.{add_comm, mul_left_comm, add-mul-mod_self_left}
use native.Mathlib.Omega.{arith}
use mir.Val.{Fits}
use mir.Syntax.{w64}
use lib.Bits.{bit_and, bit_or, bit_xor}
use lib.Count.{ones, count_trailing_zeros}
use lib.ListN.{length, get_or, set, take, drop}
use lib.Pow.{pow_pos, pow-add}
use lib.Seq.{sets, drop-cons}
use Rattle.amplitude.specs.Bits.{bit}
use Rattle.phase_sum_meaning.specs.Sets.{◌△◌, single}
use Rattle.phase_sum_meaning.specs.Parity.{Parity}
use Rattle.phase_sum_meaning.specs.Stepping.{out_of}
use Rattle.phase_sum_meaning.specs.Room.{most_variables, words_each}
use Rattle.phase_sum_words.specs.Words.{word_bits, wide, AreWords, Words, wordwise, except, ones_of, Lowest, sets_in, AnyWidth}
use Rattle.phase_sum_words.proofs.Any.{any_width}
use Rattle.phase_sum_words.proofs.Removing.{sets_in_without}
use Rattle.phase_sum_words.proofs.Variables.{trailing_lowest}
use Rattle.phase_sum_words.proofs.Views.{set_word}
use Rattle.phase_sum_types.specs.Workspace.{Lent, slices, places_in, Level}
use Rattle.phase_sum_types.proofs.Running.{AsLong}

-- what holds of sets of any number of words, of those that the engine uses
abbrev pub two : AnyWidth words_each
two = any_width words_each

-- a set has a word
pub some : 0 < words_each
some = omega arith

-- as many sets as places
pub places_of : (ws : List ℕ) → length (sets_in words_each ws) ≡ places_in ws
places_of ws = two.places ws

-- a place that the words have, the sets have
pub inside : (ws : List ℕ) {i : ℕ} → i < places_in ws → i < length (sets_in words_each ws)
inside ws l = rw (places_of ws) l

-- so many places that the words have, the sets have
pub all_inside : (ws : List ℕ) {m : ℕ} → m ≤ places_in ws → m ≤ length (sets_in words_each ws)
all_inside ws l = rw (places_of ws) l

-- words that are level with a list hold as many sets as it has places
pub level_places : {A : Type 0} (ws : List ℕ) (xs : List A) → Level ws xs → length (sets_in words_each ws) ≡ length xs
level_places ws xs e = places_of ws ∙ omega arith

-- what the words of a slice are known to be
pub fitting : (ws : List ℕ) → ((i : ℕ) → Fits w64 (get_or ws i 0)) → AreWords ws
fitting ws known i = below (known i)
  where
    below : {x : ℕ} → Fits w64 x → x < 2 ^ word_bits
    below {x} f = omega arith

-- two words are those of a set
pair_words : (l h : ℕ) → l < 2 ^ word_bits → h < 2 ^ word_bits → Words words_each (l ∷ h ∷ [])
pair_words l h p q = record { count = refl; fit = fit }
  where
    fit : AreWords (l ∷ h ∷ [])
    fit zero = p
    fit (suc zero) = q
    fit (suc (suc i)) = pow_pos word_bits

-- Two words.
module _ (l h : ℕ) (p : l < 2 ^ word_bits) (q : h < 2 ^ word_bits) where
  -- the words of the set
  words : Words words_each (l ∷ h ∷ [])
  words = pair_words l h p q

  -- no variable that a pair may not have
  pub pair_below : wide (l ∷ h ∷ []) < 2 ^ most_variables
  pair_below = two.below (l ∷ h ∷ []) words

  -- a variable of the low word
  pub pair_low : (v : ℕ) → v < word_bits → bit v (wide (l ∷ h ∷ [])) ≡ bit v l
  pair_low v b =
      let e : v / word_bits ≡ 0 = omega arith in
      let f : v % word_bits ≡ v = omega arith in
      two.member (l ∷ h ∷ []) words v ∙ rw (e, f)

  -- a variable of the high word
  pub pair_high : (v : ℕ) → word_bits ≤ v → v < most_variables → bit v (wide (l ∷ h ∷ [])) ≡ bit (v - word_bits) h
  pair_high v a b =
      let e : v / word_bits ≡ 1 = omega arith in
      let f : v % word_bits ≡ v - word_bits = omega arith in
      two.member (l ∷ h ∷ []) words v ∙ rw (e, f)

  -- the count of variables
  pub pair_ones : ones (wide (l ∷ h ∷ [])) ≡ ones l + ones h
  unfolding ones_of
  pair_ones =
      let none : ones h + 0 ≡ ones h = omega arith in
      two.count (l ∷ h ∷ []) words ∙ rw none

  -- the lowest variable, of the low word
  pub pair_lowest_low : (l ≡ 0 → ⊥) → Lowest (count_trailing_zeros word_bits l) (wide (l ∷ h ∷ [])) × (count_trailing_zeros word_bits l < word_bits)
  pair_lowest_low n =
      let t = trailing_lowest word_bits l p n in
      let e : word_bits * 0 + count_trailing_zeros word_bits l ≡ count_trailing_zeros word_bits l = omega arith in
      (rw e at (two.lowest (l ∷ h ∷ []) 0 (count_trailing_zeros word_bits l) words t.1 (λ j m. absurd (omega arith)) t.0), t.1)

  -- the lowest variable, of the high word
  pub pair_lowest_high :
      l ≡ 0 → (h ≡ 0 → ⊥) → Lowest (word_bits + count_trailing_zeros word_bits h) (wide (l ∷ h ∷ [])) × (count_trailing_zeros word_bits h < word_bits)
  pair_lowest_high z n =
      let t = trailing_lowest word_bits h q n in
      let e : word_bits * 1 + count_trailing_zeros word_bits h ≡ word_bits + count_trailing_zeros word_bits h = omega arith in
      (rw e at (two.lowest (l ∷ h ∷ []) 1 (count_trailing_zeros word_bits h) words t.1 first t.0), t.1)
    where
      first : (j : ℕ) → j < 1 → get_or (l ∷ h ∷ []) j 0 ≡ 0
      first zero m = z
      first (suc j) m = absurd (omega arith)

  -- Two more.
  module _ (l' h' : ℕ) (p' : l' < 2 ^ word_bits) (q' : h' < 2 ^ word_bits) where
    -- the words of the other set
    others : Words words_each (l' ∷ h' ∷ [])
    others = pair_words l' h' p' q'

    -- the exclusive or
    pub pair_xor : wide (bit_xor l l' ∷ bit_xor h h' ∷ []) ≡ wide (l ∷ h ∷ []) △ wide (l' ∷ h' ∷ [])
    unfolding wordwise
    pair_xor = two.exclusive_or (l ∷ h ∷ []) (l' ∷ h' ∷ []) words others

    -- the union
    pub pair_or : (v : ℕ) → bit v (wide (bit_or l l' ∷ bit_or h h' ∷ [])) ≡ bit v (wide (l ∷ h ∷ [])) || bit v (wide (l' ∷ h' ∷ []))
    unfolding wordwise
    pair_or = two.union (l ∷ h ∷ []) (l' ∷ h' ∷ []) words others

    -- what both have
    pub pair_and : (v : ℕ) → bit v (wide (bit_and l l' ∷ bit_and h h' ∷ [])) ≡ bit v (wide (l ∷ h ∷ [])) && bit v (wide (l' ∷ h' ∷ []))
    unfolding wordwise
    pair_and = two.common (l ∷ h ∷ []) (l' ∷ h' ∷ []) words others

    -- what the first has alone
    pub pair_except :
        (v : ℕ) → bit v (wide (except l l' ∷ except h h' ∷ [])) ≡ bit v (wide (l ∷ h ∷ [])) && not (bit v (wide (l' ∷ h' ∷ [])))
    unfolding wordwise
    pair_except = two.difference (l ∷ h ∷ []) (l' ∷ h' ∷ []) words others

-- the rest by no more than a word is that of the low word
pub pair_rest : (n l h : ℕ) → n ≤ word_bits → wide (l ∷ h ∷ []) % 2 ^ n ≡ wide (l % 2 ^ n ∷ 0 ∷ [])
unfolding wide
pair_rest n l h b = cut word_bits n (word_bits - n) (wide (h ∷ [])) l (omega arith) ∙ omega arith
  where
    cut : (k n m h l : ℕ) → k ≡ n + m → (h * 2 ^ k + l) % 2 ^ n ≡ l % 2 ^ n
    cut k n m h l e =
        rw (e, pow-add 2 n m, mul_left_comm h (2 ^ n) (2 ^ m), add_comm (2 ^ n * (h * 2 ^ m)) l) (add-mul-mod_self_left l (2 ^ n) (h * 2 ^ m))

-- two words that are 0
pub pair_none : wide (0 ∷ 0 ∷ []) ≡ 0
pair_none = two.emptied (0 ∷ 0 ∷ []) zeros
  where
    zeros : (i : ℕ) → get_or {A = ℕ} (0 ∷ 0 ∷ []) i 0 ≡ 0
    zeros zero = refl
    zeros (suc zero) = refl
    zeros (suc (suc i)) = refl

-- one variable of the low word
pub pair_single_low : (v : ℕ) → v < word_bits → wide (single v ∷ 0 ∷ []) ≡ single v
pair_single_low v b =
    let e : v / word_bits ≡ 0 = omega arith in
    let f : v % word_bits ≡ v = omega arith in
    rw (e, f) at (two.single v (omega arith))

-- one of the high word
pub pair_single_high : (v : ℕ) → word_bits ≤ v → v < most_variables → wide (0 ∷ single (v - word_bits) ∷ []) ≡ single v
pair_single_high v a b =
    let e : v / word_bits ≡ 1 = omega arith in
    let f : v % word_bits ≡ v - word_bits = omega arith in
    rw (e, f) at (two.single v (omega arith))

-- Words that have a place i.
module _ (ws : List ℕ) (i : ℕ) (l : i < places_in ws) where
  -- the two words there
  words_at : take words_each (drop (words_each * i) ws) ≡ get_or ws (words_each * i) 0 ∷ get_or ws (words_each * i + 1) 0 ∷ []
  words_at =
      let at = words_each * i in
      let first : drop at ws ≡ get_or ws at 0 ∷ drop (suc at) ws = drop-cons ws at 0 (omega arith) in
      let second : drop (suc at) ws ≡ get_or ws (suc at) 0 ∷ drop (suc (suc at)) ws = drop-cons ws (suc at) 0 (omega arith) in
      let e : at + 1 ≡ suc at = omega arith in
      rw (first, second, e)

  -- the set there
  pub pair_at : get_or (sets_in words_each ws) i 0 ≡ wide (get_or ws (words_each * i) 0 ∷ get_or ws (words_each * i + 1) 0 ∷ [])
  pair_at = two.at some ws i l ∙ rw words_at

  -- two words stored there are a set stored
  pub pair_stored :
      (x y : ℕ) → sets_in words_each (set (set ws (words_each * i) x) (words_each * i + 1) y) ≡ set (sets_in words_each ws) i (wide (x ∷ y ∷ []))
  pair_stored x y =
      let e : words_each * i + 1 ≡ suc (words_each * i) = omega arith in
      let put : set (set ws (words_each * i) x) (words_each * i + 1) y ≡ sets ws (words_each * i) (x ∷ y ∷ []) = rw e in
      rw put (two.stored some ws i (x ∷ y ∷ []) refl l)

  -- the low word stored anew
  pub low_stored : (x : ℕ) → sets_in words_each (set ws (words_each * i) x) ≡ set (sets_in words_each ws) i (wide (x ∷ get_or ws (words_each * i + 1) 0 ∷ []))
  low_stored x =
      let e : words_each * i + 0 ≡ words_each * i = omega arith in
      rw (words_at, e) at (set_word words_each some ws i 0 x l (omega arith))

  -- a variable of the set there, in its word
  pub pair_member : AreWords ws → (v : ℕ) → v < most_variables → bit v (get_or (sets_in words_each ws) i 0) ≡ bit (v % word_bits) (get_or ws (words_each * i + v / word_bits) 0)
  pair_member a v b = two.member_at some ws a i v l (omega arith)

  -- a variable taken out of its word is taken out of the set there
  pub pair_without :
      AreWords ws →
      (v : ℕ) →
      v < most_variables →
      sets_in words_each (set ws (words_each * i + v / word_bits) (except (get_or ws (words_each * i + v / word_bits) 0) (single (v % word_bits))))
      ≡ set (sets_in words_each ws) i (out_of v (get_or (sets_in words_each ws) i 0))
  pair_without a v b = sets_in_without words_each some ws a i v l (omega arith)

-- what a sum is lent, its terms' sets given by the words
abbrev pub by_words : List Parity → List ℕ → List ℕ → Lent
by_words wires ss cs = slices wires (sets_in words_each ss) cs

-- as many words hold as many sets
same_places : (ws ws' : List ℕ) → length ws' ≡ length ws → length (sets_in words_each ws') ≡ length (sets_in words_each ws)
same_places ws ws' e = places_of ws' ∙ ap (λ (n : ℕ). n / words_each) e ∙ sym (places_of ws)

-- so as many wires, words and coefficients hold as much
pub words_long :
    {wires wires' : List Parity} (ss ss' : List ℕ) {cs cs' : List ℕ} →
    length wires' ≡ length wires →
    length ss' ≡ length ss →
    length cs' ≡ length cs →
    AsLong (by_words wires ss cs) (by_words wires' ss' cs')
words_long ss ss' w s c = record { wires = w; sets = same_places ss ss' s; coeffs = c }
