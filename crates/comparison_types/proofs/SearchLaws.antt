-- The search, qubit by qubit: what has been passed and what is found, for inputs that hold some higher qubits already.
-- Assumes nothing.
use mathlib.Core.Path.{◌≡◌, refl, sym, ◌∙◌}
use mathlib.Core.Logic.{◌⊎◌, inl, inr}
use Prim.Native.Nat.{ℕ, zero, suc, ◌+◌, ◌-◌, ◌%◌, ◌^◌, ◌<◌}
use native.Mathlib.Nat.{zero-add, add-zero, suc-add, add_assoc, eq-or-lt_of_le}
use native.Mathlib.Numerals.{add-one}
use native.Mathlib.Omega.{arith}
use mathlib.Core.Bool.{Bool, true, false, not, false≢true, true≢false}
use mathlib.Core.Option.{Option, none, some, none-ne-some, some-ne-none}
use Rattle.std.specs.Prelude.{Option as Found, Some, None, is_some}
use mathlib.Core.List.{List, [], ◌∷◌, ◌++◌, map-id, map-map, map-append}
use lib.Dec.{eqb}
use lib.Pow.{pow-lt}
use Rattle.amplitude.proofs.BitLaws.{bit_zero}
use Rattle.phase_sum_meaning.specs.Sets.{first_such}
use Rattle.phase_sum_meaning.specs.Phase.{Phase, phase_at}
use Rattle.comparison_meaning.specs.Verdict.{weight, candidates, first_differing}
use Rattle.comparison_meaning.proofs.Weight.{sum_zero}
use Rattle.phase_sum_types.specs.Workspace.{found_of}
use Rattle.comparison_types.specs.Inner.{beside, first_beside, AgreesToTwo}

-- one qubit of sixteen alone
pub power_small : (i : ℕ) → i < 16 → 2 ^ i < 65536
power_small i l = pow-lt l

-- the phase at an input differs from that at input 0
abbrev pub differing : Phase → ℕ → Bool
differing φ v = not (eqb (phase_at φ v % 8) (phase_at φ 0 % 8))

-- the phase at input 0 is the constant
pub differs_from : (φ : Phase) (v r : ℕ) → r ≡ phase_at φ v % 8 → not (eqb r (φ.constant % 8)) ≡ differing φ v
unfolding phase_at
differs_from φ v r e = rw (e, sum_zero φ.terms, add-zero φ.constant)

-- none in a first list: the search goes on in the second
after_none : (φ : Phase) (us vs : List ℕ) → first_differing φ us ≡ none → first_differing φ (us ++ vs) ≡ first_differing φ vs
unfolding first_such
after_none φ [] vs e = refl
after_none φ (u ∷ us) vs e = go (differing φ u) refl (after_none φ us vs)
  where
    go :
        (b : Bool)
        → differing φ u ≡ b
        → (first_differing φ us ≡ none → first_differing φ (us ++ vs) ≡ first_differing φ vs)
        → first_differing φ (u ∷ us ++ vs) ≡ first_differing φ vs
    go true i ih = absurd (some-ne-none u (rw i at e))
    go false i ih = rw i (ih (rw i at e))

-- what is found in a first list is found
found_left : (φ : Phase) (us vs : List ℕ) (x : ℕ) → first_differing φ us ≡ some x → first_differing φ (us ++ vs) ≡ some x
unfolding first_such
found_left φ [] vs x e = absurd (none-ne-some x e)
found_left φ (u ∷ us) vs x e = go (differing φ u) refl (found_left φ us vs x)
  where
    go :
        (b : Bool)
        → differing φ u ≡ b
        → (first_differing φ us ≡ some x → first_differing φ (us ++ vs) ≡ some x)
        → first_differing φ (u ∷ us ++ vs) ≡ some x
    go true i ih = rw i (rw i at e)
    go false i ih = rw i (ih (rw i at e))

-- none in a list: none in its first part
none_left : (φ : Phase) (us vs : List ℕ) → first_differing φ (us ++ vs) ≡ none → first_differing φ us ≡ none
none_left φ us vs e = go (first_differing φ us) refl
  where
    go : (o : Option ℕ) → first_differing φ us ≡ o → first_differing φ us ≡ none
    go none f = f
    go (some x) f = absurd (some-ne-none x (sym (found_left φ us vs x f) ∙ e))

-- nor in its second
none_right : (φ : Phase) (us vs : List ℕ) → first_differing φ (us ++ vs) ≡ none → first_differing φ vs ≡ none
none_right φ us vs e = sym (after_none φ us vs (none_left φ us vs e)) ∙ e

-- an answer found in a first list is the answer
first_left :
    (φ : Phase) (us vs : List ℕ) (o : Found ℕ) → true ≡ is_some o → found_of o ≡ first_differing φ us → found_of o ≡ first_differing φ (us ++ vs)
first_left φ us vs (Some x) l h = sym (found_left φ us vs x (sym h))
first_left φ us vs None l h = absurd (true≢false l)

-- where there is none, the list has none
answer_nothing : (φ : Phase) (us : List ℕ) (o : Found ℕ) → false ≡ is_some o → found_of o ≡ first_differing φ us → first_differing φ us ≡ none
answer_nothing φ us (Some x) z h = absurd (false≢true z)
answer_nothing φ us None z h = sym h

-- one qubit more: without it, then with it
beside_more : (w u k i : ℕ) → u ≡ w + 2 ^ i → beside w (suc k) (suc i) ≡ beside w (suc k) i ++ beside u k i
unfolding beside weight
beside_more w u k i e = rw (bit_zero i, map-append, map-map, e) (simp add_assoc)

-- beside none: the inputs of weight k
pub beside_none : (φ : Phase) (k n : ℕ) → first_beside φ 0 k n ≡ first_differing φ (weight 0 k n)
unfolding first_beside beside
beside_none φ k n = simp (zero-add, map-id)

-- the answer where all are passed
pub answer_none : (φ : Phase) (k n i : ℕ) → n ≡ i → first_beside φ 0 k i ≡ none → none ≡ first_differing φ (weight 0 k n)
answer_none φ k n i e h = rw e (sym h ∙ beside_none φ k i)

-- the answer where one is found
pub answer_found : (φ : Phase) (k n x : ℕ) → first_beside φ 0 k n ≡ some x → some x ≡ first_differing φ (weight 0 k n)
answer_found φ k n x h = sym h ∙ beside_none φ k n

-- no qubit more: passed where it is the same
pub pass_itself : (φ : Phase) (w n : ℕ) → differing φ w ≡ false → first_beside φ w 0 n ≡ none
unfolding first_beside beside weight first_such
pass_itself φ w n h = rw (add-zero w, h)

-- and found where it differs
pub found-itself : (φ : Phase) (w n : ℕ) → differing φ w ≡ true → first_beside φ w 0 n ≡ some w
unfolding first_beside beside weight first_such
found-itself φ w n h = rw (add-zero w, h)

-- and the other way round
pub passed_itself : (φ : Phase) (w n : ℕ) → first_beside φ w 0 n ≡ none → differing φ w ≡ false
unfolding first_beside beside weight first_such
passed_itself φ w n h = go (differing φ w) refl
  where
    go : (b : Bool) → differing φ w ≡ b → differing φ w ≡ false
    go true i = absurd (some-ne-none w (sym (found-itself φ w n i) ∙ h))
    go false i = i

-- no qubits: nothing to find
pub beside_start : (φ : Phase) (w k : ℕ) → first_beside φ w (suc k) 0 ≡ none
unfolding first_beside beside weight first_such
beside_start φ w k = refl

-- what is found with n qubits is found with more
found_later : (φ : Phase) (w k n d x : ℕ) → first_beside φ w (suc k) n ≡ some x → first_beside φ w (suc k) (d + n) ≡ some x
unfolding first_beside
found_later φ w k n zero x h = rw (zero-add n) h
found_later φ w k n (suc d) x h =
    rw (suc-add d n, beside_more w (w + 2 ^ (d + n)) k (d + n) refl)
    (found_left φ (beside w (suc k) (d + n)) (beside (w + 2 ^ (d + n)) k (d + n)) x (found_later φ w k n d x h))

-- qubits below i have none: qubit i and those below it
module _ (φ : Phase) (w u k i : ℕ) (e : u ≡ w + 2 ^ i) (passed : first_beside φ w (suc k) i ≡ none) where
  -- the search goes on with qubit i
  beside_next : first_beside φ w (suc k) (suc i) ≡ first_beside φ u k i
  unfolding first_beside
  beside_next = rw (beside_more w u k i e) (after_none φ (beside w (suc k) i) (beside u k i) passed)

  -- where there is none, qubit i is passed too
  pub pass_more : (j : ℕ) → j ≡ i → first_beside φ u k j ≡ none → first_beside φ w (suc k) (i + 1) ≡ none
  pass_more j s h = rw (add-one i) (beside_next ∙ (rw s at h))

  -- what is found is the first of all
  pub found_more : (n x : ℕ) → i < n → first_beside φ u k i ≡ some x → first_beside φ w (suc k) n ≡ some x
  found_more n x l h =
      let more : n ≡ (n - suc i) + suc i = omega arith in
      rw more (found_later φ w k (suc i) (n - suc i) x (beside_next ∙ h))

-- all qubits are passed where beside each of them and those below it there is none
pub pass_each :
    (φ : Phase) (w k n : ℕ) → ((i : ℕ) → i < n → first_beside φ (w + 2 ^ i) k i ≡ none) → first_beside φ w (suc k) n ≡ none
pass_each φ w k zero h = beside_start φ w k
pass_each φ w k (suc n) h =
    let passed = pass_each φ w k n (λ i l. h i (omega arith)) in
    rw (add-one n) at (pass_more φ w (w + 2 ^ n) k n refl passed n refl (h n (omega arith)))

-- and the other way round
pub passed_each :
    (φ : Phase) (w k n i : ℕ) → i < n → first_beside φ w (suc k) n ≡ none → first_beside φ (w + 2 ^ i) k i ≡ none
unfolding first_beside
passed_each φ w k zero i l h = absurd (omega arith)
passed_each φ w k (suc n) i l h =
    go (rw (beside_more w (w + 2 ^ n) k n refl) at h) (passed_each φ w k n i) (eq-or-lt_of_le l)
  where
    go :
        first_differing φ (beside w (suc k) n ++ beside (w + 2 ^ n) k n) ≡ none
        → (i < n → first_differing φ (beside w (suc k) n) ≡ none → first_differing φ (beside (w + 2 ^ i) k i) ≡ none)
        → (suc i ≡ suc n) ⊎ (suc i < suc n)
        → first_differing φ (beside (w + 2 ^ i) k i) ≡ none
    go parts ih (inl e) =
        let same : i ≡ n = omega arith in
        rw same (none_right φ (beside w (suc k) n) _ parts)
    go parts ih (inr b) = ih (omega arith) (none_left φ (beside w (suc k) n) _ parts)

-- the answers of weight 1, then 2, then 3
module _ (φ : Phase) (n : ℕ) (one : Found ℕ) (first : found_of one ≡ first_differing φ (weight 0 1 n)) where
  -- one of weight 1 is the answer
  pub first_of_one : true ≡ is_some one → found_of one ≡ first_differing φ (candidates 0 n)
  first_of_one l =
      first_left φ (weight 0 1 n ++ weight 0 2 n) (weight 0 3 n) one l (first_left φ (weight 0 1 n) (weight 0 2 n) one l first)

  -- where there is none of weight 1
  module _ (zero_one : false ≡ is_some one) (two : Found ℕ) (second : found_of two ≡ first_differing φ (weight 0 2 n)) where
    -- the answer of weights 1 and 2 is that of weight 2
    both : found_of two ≡ first_differing φ (weight 0 1 n ++ weight 0 2 n)
    both = second ∙ sym (after_none φ (weight 0 1 n) (weight 0 2 n) (answer_nothing φ (weight 0 1 n) one zero_one first))

    -- one of weight 2 is the answer
    pub first_of_two : true ≡ is_some two → found_of two ≡ first_differing φ (candidates 0 n)
    first_of_two l = first_left φ (weight 0 1 n ++ weight 0 2 n) (weight 0 3 n) two l both

    -- where there is none of weight 2 either
    module _ (zero-two : false ≡ is_some two) where
      -- no input of weight 1 or 2 differs
      pub agreed : AgreesToTwo φ n
      agreed = (answer_nothing φ (weight 0 1 n) one zero_one first, answer_nothing φ (weight 0 2 n) two zero-two second)

      -- the answer is that of weight 3
      pub first_of_three : {o : Option ℕ} → o ≡ first_differing φ (weight 0 3 n) → o ≡ first_differing φ (candidates 0 n)
      first_of_three third =
          third
          ∙ sym
          (after_none φ (weight 0 1 n ++ weight 0 2 n) (weight 0 3 n)
          (answer_nothing φ (weight 0 1 n ++ weight 0 2 n) two zero-two both))
