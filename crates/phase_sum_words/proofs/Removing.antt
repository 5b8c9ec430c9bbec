-- A variable taken out of one word is taken out of the set.
-- Assumes nothing.
use mathlib.Core.Path.{◌≡◌, refl, ◌∙◌}
use mathlib.Core.Bool.{Bool, true, false, and-true, and-false}
use mathlib.Core.List.{List}
use Prim.Native.Nat.{ℕ, suc, ◌+◌, ◌*◌, ◌/◌, ◌%◌, ◌^◌, ◌<◌, ◌≤◌}
use native.Mathlib.Nat.{mul-suc}
use native.Mathlib.Omega.{arith}
use lib.Bits.{bit_and, and_le_l, xor_lt}
use lib.Dec.{eqb}
use lib.ListN.{length, get_or, set, take, drop, length-take, length-drop}
use lib.Seq.{get_or-set_same, get_or-set_other, get_or-take, get_or-drop}
use borrow.Author.Tests.{eqb-true, eqb-false}
use Rattle.amplitude.specs.Bits.{bit}
use Rattle.amplitude.proofs.BitLaws.{bits_ext, bit-power, bit-power_other}
use Rattle.phase_sum_meaning.specs.Sets.{single}
use Rattle.phase_sum_meaning.specs.Stepping.{out_of}
use Rattle.phase_sum_meaning.proofs.TakingOut.{out_of_free, out_of_other}
use Rattle.phase_sum_words.specs.Words.{word_bits, wide, AreWords, except, sets_in}
use Rattle.phase_sum_words.proofs.Word.{bit-except}
use Rattle.phase_sum_words.proofs.Wide.{wide_bit}
use Rattle.phase_sum_words.proofs.Views.{taken_words, dropped_words, enough, set_word, get_d_sets_in}

-- what is in one word and not in another is no more than the word holds
except_fits : (x y : ℕ) → x < 2 ^ word_bits → except x y < 2 ^ word_bits
except_fits x y l = xor_lt word_bits x (bit_and x y) l (below (and_le_l x y) l)
  where
    below : {a b c : ℕ} → a ≤ b → b < c → a < c
    below {a} {b} {c} h k = omega arith

-- the word of a variable v without it
abbrev pub without : ℕ → List ℕ → ℕ
without v ws = except (get_or ws (v / word_bits) 0) (single (v % word_bits))

-- the word without the variable, put in its place, is the set without it
pub wide-without :
    (ws : List ℕ) (v : ℕ) → AreWords ws → v / word_bits < length ws → wide (set ws (v / word_bits) (without v ws)) ≡ out_of v (wide ws)
wide-without ws v a l = bits_ext (wide put) (out_of v (wide ws)) (λ q. wide_bit put fit q ∙ at q (eqb (q / word_bits) (v / word_bits)) (eqb q v) refl refl)
  where
    put : List ℕ
    put = set ws (v / word_bits) (without v ws)

    same : get_or put (v / word_bits) 0 ≡ without v ws
    same = get_or-set_same ws (v / word_bits) (without v ws) 0 l

    fit : AreWords put
    fit i = go (eqb i (v / word_bits)) refl
      where
        go : (t : Bool) → eqb i (v / word_bits) ≡ t → get_or put i 0 < 2 ^ word_bits
        go true e = rw (eqb-true i (v / word_bits) e, same) (except_fits _ _ (a (v / word_bits)))
        go false e = rw (get_or-set_other ws (v / word_bits) i (without v ws) 0 (eqb-false i (v / word_bits) e)) (a i)

    at : (q : ℕ) (t u : Bool) → eqb (q / word_bits) (v / word_bits) ≡ t → eqb q v ≡ u → bit (q % word_bits) (get_or put (q / word_bits) 0) ≡ bit q (out_of v (wide ws))
    at q t true e f =
        let g : q ≡ v = eqb-true q v f in
        rw (g, same, bit-except (v % word_bits), bit-power (v % word_bits), out_of_free v (wide ws)) (and-false (bit (v % word_bits) (get_or ws (v / word_bits) 0)))
    at q true false e f =
        let n : q ≡ v → ⊥ = eqb-false q v f in
        let h : q / word_bits ≡ v / word_bits = eqb-true (q / word_bits) (v / word_bits) e in
        let m : q % word_bits ≡ v % word_bits → ⊥ = λ r. n (omega arith) in
        rw (out_of_other q v (wide ws) n, wide_bit ws a q, h, same, bit-except (q % word_bits), bit-power_other (q % word_bits) (v % word_bits) m)
        (and-true (bit (q % word_bits) (get_or ws (v / word_bits) 0)))
    at q false false e f =
        let n : q ≡ v → ⊥ = eqb-false q v f in
        rw (out_of_other q v (wide ws) n, wide_bit ws a q, get_or-set_other ws (v / word_bits) (q / word_bits) (without v ws) 0 (eqb-false (q / word_bits) (v / word_bits) e))

-- a variable taken out of its word is taken out of the set at a place
pub sets_in_without :
    (k : ℕ) → 0 < k → (ws : List ℕ) →
    AreWords ws →
    (i v : ℕ) →
    i < length ws / k →
    v < word_bits * k →
    sets_in k (set ws (k * i + v / word_bits) (except (get_or ws (k * i + v / word_bits) 0) (single (v % word_bits))))
    ≡ set (sets_in k ws) i (out_of v (get_or (sets_in k ws) i 0))
sets_in_without k some ws a i v l h =
    let word : v / word_bits < k = omega arith in
    let behind = drop (k * i) ws in
    let held : get_or (take k behind) (v / word_bits) 0 ≡ get_or ws (k * i + v / word_bits) 0 =
    get_or-take k behind (v / word_bits) 0 word ∙ get_or-drop (k * i) ws (v / word_bits) 0 in
    let fit : AreWords (take k behind) = taken_words k behind (dropped_words (k * i) ws a) in
    let long : v / word_bits < length (take k behind) = rw (length-take, length-drop) (omega (arith, mul-suc k i, enough k some ws (suc i) l)) in
    set_word k some ws i (v / word_bits) _ l word
    ∙ rw (← held, wide-without (take k behind) v fit long, get_d_sets_in k some ws i l)
