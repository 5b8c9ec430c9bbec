-- Sets of variables over machine words: any number of words, the low variables first. Document 02, item 6.
-- Assumes nothing.
use Rattle.std.specs.Prelude.{◌≡◌, Bool, true, false, ◌&&◌, ◌||◌, not, List, [], ◌∷◌, ◌++◌, ℕ, zero, suc, ◌+◌, ◌*◌, ◌/◌, ◌%◌, ◌^◌, ◌<◌, ◌≤◌, length, get_or, take, drop, set, replicate}
use Rattle.std.specs.Bool.{xor}
use Rattle.std.specs.Int.Bits.{bit_and, bit_or, bit_xor}
use Rattle.std.specs.Int.Count.{ones}
use Rattle.std.proofs.lemmas.List.Edits.{sets}
use Rattle.amplitude.specs.Bits.{bit}
use Rattle.phase_sum_meaning.specs.Sets.{◌△◌, single, parity}

-- the variables of a word
abbrev pub word_bits : ℕ
word_bits = 64

-- the set that words make up, as a number: word i has the variables from word_bits · i on
unfoldable pub wide : List ℕ → ℕ
wide [] = 0
wide (w ∷ ws) = wide ws * 2 ^ word_bits + w

-- every number of a list fits a word
abbrev pub AreWords : List ℕ → Type 0
AreWords ws = (i : ℕ) → get_or ws i 0 < 2 ^ word_bits

-- the words of one set, k of them
pub record Words (k : ℕ) (ws : List ℕ) : Type 0 where
  pub count : length ws ≡ k
  pub fit : AreWords ws

-- an operation on two sets, word by word
unfoldable pub wordwise : (ℕ → ℕ → ℕ) → List ℕ → List ℕ → List ℕ
wordwise f [] ys = []
wordwise f (x ∷ xs) [] = []
wordwise f (x ∷ xs) (y ∷ ys) = f x y ∷ wordwise f xs ys

-- the machine's way to what is in one word and not in another
abbrev pub except : ℕ → ℕ → ℕ
except x y = bit_xor x (bit_and x y)

-- the exclusive or of the words' parities at the words of an assignment
unfoldable pub parities : List ℕ → List ℕ → Bool
parities [] xs = false
parities (w ∷ ws) [] = false
parities (w ∷ ws) (x ∷ xs) = xor (parity w x) (parities ws xs)

-- the ones of words, added up
unfoldable pub ones_of : List ℕ → ℕ
ones_of [] = 0
ones_of (w ∷ ws) = ones w + ones_of ws

-- the k words of a single variable
abbrev pub single_words : ℕ → ℕ → List ℕ
single_words k v = set (replicate k 0) (v / word_bits) (single (v % word_bits))

-- v is the lowest variable of a set
abbrev pub Lowest : ℕ → ℕ → Type 0
Lowest v s = (bit v s ≡ true) × ((u : ℕ) → u < v → bit u s ≡ false)

-- the k words of a set
unfoldable pub words_of : ℕ → ℕ → List ℕ
words_of zero s = []
words_of (suc k) s = s % 2 ^ word_bits ∷ words_of k (s / 2 ^ word_bits)

-- the first m sets of words that hold sets of k words, one behind the other
unfoldable pub first_sets : ℕ → ℕ → List ℕ → List ℕ
first_sets k zero ws = []
first_sets k (suc m) ws = wide (take k ws) ∷ first_sets k m (drop k ws)

-- the sets of words that hold sets of k words, one behind the other; words behind the last whole set are in none
unfoldable pub sets_in : ℕ → List ℕ → List ℕ
sets_in k ws = first_sets k (length ws / k) ws

-- sets as words, k words each, one behind the other
unfoldable pub words_in : ℕ → List ℕ → List ℕ
words_in k [] = []
words_in k (s ∷ ss) = words_of k s ++ words_in k ss

-- What holds of sets of k words, for any k: each operation on sets is one on their words.
pub record AnyWidth (k : ℕ) : Type 0 where
  -- variable v is in word v / word_bits, as its variable v % word_bits
  pub member : (ws : List ℕ) → Words k ws → (v : ℕ) → bit v (wide ws) ≡ bit (v % word_bits) (get_or ws (v / word_bits) 0)
  -- no variable from word_bits · k on
  pub below : (ws : List ℕ) → Words k ws → wide ws < 2 ^ (word_bits * k)
  -- the set of one variable
  pub single : (v : ℕ) → v < word_bits * k → wide (single_words k v) ≡ single v
  -- what is in one of two sets and not in both
  pub exclusive_or : (xs ys : List ℕ) → Words k xs → Words k ys → wide (wordwise bit_xor xs ys) ≡ wide xs △ wide ys
  -- what is in either
  pub union : (xs ys : List ℕ) → Words k xs → Words k ys → (v : ℕ) → bit v (wide (wordwise bit_or xs ys)) ≡ bit v (wide xs) || bit v (wide ys)
  -- what is in both
  pub common : (xs ys : List ℕ) → Words k xs → Words k ys → (v : ℕ) → bit v (wide (wordwise bit_and xs ys)) ≡ bit v (wide xs) && bit v (wide ys)
  -- what is in the first alone
  pub difference : (xs ys : List ℕ) → Words k xs → Words k ys → (v : ℕ) → bit v (wide (wordwise except xs ys)) ≡ bit v (wide xs) && not (bit v (wide ys))
  -- the parity at an assignment
  pub parity : (ws xs : List ℕ) → Words k ws → Words k xs → parity (wide ws) (wide xs) ≡ parities ws xs
  -- the count of variables
  pub count : (ws : List ℕ) → Words k ws → ones (wide ws) ≡ ones_of ws
  -- as numbers, the highest word in which two sets differ decides
  pub order : (xs ys : List ℕ) (i : ℕ) → Words k xs → Words k ys → get_or xs i 0 < get_or ys i 0 → ((j : ℕ) → i < j → get_or xs j 0 ≡ get_or ys j 0) → wide xs < wide ys
  -- the same set, the same words
  pub same : (xs ys : List ℕ) → Words k xs → Words k ys → wide xs ≡ wide ys → xs ≡ ys
  -- the empty set: every word is 0, and no other set is that
  pub empty : (ws : List ℕ) → Words k ws → wide ws ≡ 0 → (i : ℕ) → get_or ws i 0 ≡ 0
  pub emptied : (ws : List ℕ) → ((i : ℕ) → get_or ws i 0 ≡ 0) → wide ws ≡ 0
  -- the lowest variable is that of the first word that is not 0
  pub lowest : (ws : List ℕ) (i v : ℕ) → Words k ws → v < word_bits → ((j : ℕ) → j < i → get_or ws j 0 ≡ 0) → Lowest v (get_or ws i 0) → Lowest (word_bits * i + v) (wide ws)
  -- the words of a set are those that make it up
  pub words : (ws : List ℕ) → Words k ws → words_of k (wide ws) ≡ ws
  -- a list of words as a list of sets: how many, which, one stored, the first of them, the others, two stretches
  pub places : (ws : List ℕ) → length (sets_in k ws) ≡ length ws / k
  pub at : 0 < k → (ws : List ℕ) (i : ℕ) → i < length ws / k → get_or (sets_in k ws) i 0 ≡ wide (take k (drop (k * i) ws))
  pub stored : 0 < k → (ws : List ℕ) (i : ℕ) (vs : List ℕ) → length vs ≡ k → i < length ws / k → sets_in k (sets ws (k * i) vs) ≡ set (sets_in k ws) i (wide vs)
  pub front : 0 < k → (ws : List ℕ) (j : ℕ) → j ≤ length ws / k → sets_in k (take (k * j) ws) ≡ take j (sets_in k ws)
  pub back : 0 < k → (ws : List ℕ) (j : ℕ) → j ≤ length ws / k → sets_in k (drop (k * j) ws) ≡ drop j (sets_in k ws)
  pub joined : 0 < k → (a : ℕ) (xs ys : List ℕ) → length xs ≡ k * a → sets_in k (xs ++ ys) ≡ sets_in k xs ++ sets_in k ys
  -- words that are 0 hold empty sets
  pub zeros : 0 < k → (m : ℕ) → sets_in k (replicate (k * m) 0) ≡ replicate m 0
  -- variable v of the set at a place is in one word
  pub member_at : 0 < k → (ws : List ℕ) → AreWords ws → (i v : ℕ) → i < length ws / k → v < word_bits * k → bit v (get_or (sets_in k ws) i 0) ≡ bit (v % word_bits) (get_or ws (k * i + v / word_bits) 0)
  -- a list of whole sets as words again: the same sets, the same words
  pub words_back : 0 < k → (m : ℕ) (ws : List ℕ) → AreWords ws → length ws ≡ k * m → words_in k (sets_in k ws) ≡ ws
  pub injective : 0 < k → (m : ℕ) (xs ys : List ℕ) → AreWords xs → AreWords ys → length xs ≡ k * m → length ys ≡ k * m → sets_in k xs ≡ sets_in k ys → xs ≡ ys
