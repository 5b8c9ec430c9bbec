-- The members of a window of variables: from one number up to another.
-- Assumes nothing.
use mathlib.Core.Path.{◌≡◌, refl, ◌∙◌, ap}
use mathlib.Core.Bool.{Bool, true, false, cond, ◌||◌, or-true}
use mathlib.Core.List.{List, [], ◌∷◌, ◌++◌, append-nil}
use Prim.Native.Nat.{ℕ, zero, suc, ◌+◌, ◌-◌, ◌<◌, ◌≤◌}
use native.Mathlib.Nat.{add-zero, zero-add, add-suc, suc-add}
use native.Mathlib.Omega.{arith}
use lib.Dec.{eqb}
use borrow.Author.Tests.{eqb-true, eqb-false}
use Rattle.amplitude.specs.Bits.{bit}
use Rattle.amplitude.proofs.BitLaws.{bit_zero, bit-power, bit-power_other}
use Rattle.phase_sum_meaning.specs.Sets.{from, single, Among, here, there}
use Rattle.phase_sum_meaning.proofs.VariableLaws.{from-among}
use Rattle.phase_sum_meaning.specs.Room.{most_variables}
use Rattle.phase_sum_types.specs.Workspace.{among, members}

-- the m + k numbers from a on are the first m and the k behind them
pub from_split : (a m k : ℕ) → from a (m + k) ≡ from a m ++ from (a + m) k
unfolding from
from_split a zero k = rw (zero-add, add-zero)
from_split a (suc m) k = rw (suc-add m k, add-suc a m, ← suc-add a m) (ap (λ (us : List ℕ). a ∷ us) (from_split (suc a) m k))

-- the numbers of two lists that are in a set
among_join : (s : ℕ) (us ws : List ℕ) → among s (us ++ ws) ≡ among s us ++ among s ws
unfolding among
among_join s [] ws = refl
among_join s (u ∷ us) ws = go (bit u s) (among_join s us ws)
  where
    go :
        (b : Bool) → among s (us ++ ws) ≡ among s us ++ among s ws →
        cond b (u ∷ among s (us ++ ws)) (among s (us ++ ws)) ≡ cond b (u ∷ among s us) (among s us) ++ among s ws
    go true e = ap (λ (xs : List ℕ). u ∷ xs) e
    go false e = e

-- a list of numbers that are all in a set
among_all : (s : ℕ) (vs : List ℕ) → ((v : ℕ) → Among v vs → bit v s ≡ true) → among s vs ≡ vs
unfolding among
among_all s [] h = refl
among_all s (v ∷ vs) h = rw (h v here, among_all s vs (λ u a. h u (there a)))

-- a list of numbers none of which is in a set
among_none : (s : ℕ) (vs : List ℕ) → ((v : ℕ) → Among v vs → bit v s ≡ false) → among s vs ≡ []
unfolding among
among_none s [] h = refl
among_none s (v ∷ vs) h = rw (h v here) (among_none s vs (λ u a. h u (there a)))

-- a set holds the variables from n to below v and no others
pub record Window (n v s : ℕ) : Type 0 where
  pub inside : (u : ℕ) → n ≤ u → u < v → bit u s ≡ true
  pub below : (u : ℕ) → u < n → bit u s ≡ false
  pub above : (u : ℕ) → v ≤ u → bit u s ≡ false

-- the members of a window
pub members_window : (n v s : ℕ) → n ≤ v → v ≤ most_variables → Window n v s → members s ≡ from n (v - n)
members_window n v s l h w =
    let parts : most_variables ≡ n + ((v - n) + (most_variables - v)) = omega arith in
    let up : n + (v - n) ≡ v = omega arith in
    rw (
      parts,
      from_split 0 n ((v - n) + (most_variables - v)),
      zero-add,
      from_split n (v - n) (most_variables - v),
      up,
      among_join s (from 0 n) (from n (v - n) ++ from v (most_variables - v)),
      among_join s (from n (v - n)) (from v (most_variables - v)),
      among_none s (from 0 n) (λ u a. w.below u (omega (arith, from-among 0 n a))),
      among_all s (from n (v - n)) (λ u a. w.inside u (from-among n (v - n) a).0 (omega (arith, from-among n (v - n) a))),
      among_none s (from v (most_variables - v)) (λ u a. w.above u (from-among v (most_variables - v) a).0),
    )
    (append-nil (from n (v - n)))

-- the empty set is an empty window
pub window_empty : (n : ℕ) → Window n n 0
window_empty n = record { inside = λ u l h. absurd (omega arith); below = λ u l. bit_zero u; above = λ u l. bit_zero u }

-- a window with the variable behind it added is a window
pub window_more :
    (n v s r : ℕ) → n ≤ v → ((u : ℕ) → bit u r ≡ bit u s || bit u (single v)) → Window n v s → Window n (v + 1) r
window_more n v s r l h w =
    record {
      inside = λ u i j. h u ∙ at u i j (eqb u v) refl;
      below = λ u i. rw (h u, w.below u i, bit-power_other u v (λ e. omega arith));
      above = λ u i. rw (h u, w.above u (omega arith), bit-power_other u v (λ e. omega arith));
    }
  where
    at : (u : ℕ) → n ≤ u → u < v + 1 → (b : Bool) → eqb u v ≡ b → bit u s || bit u (single v) ≡ true
    at u i j true e = rw (eqb-true u v e, bit-power v) (or-true (bit v s))
    at u i j false e = rw (w.inside u i (omega (arith, eqb-false u v e)))
