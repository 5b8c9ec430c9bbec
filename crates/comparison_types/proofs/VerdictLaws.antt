-- Where a comparison ends: the lowest variable of a set among the qubits, and the verdict by its cases.
-- Assumes nothing.
use mathlib.Core.Path.{◌≡◌, refl, sym}
use mathlib.Core.Bool.{Bool, true, false}
use mathlib.Core.List.{List, [], ◌∷◌, ◌++◌}
use mathlib.Core.Option.{none, some}
use Prim.Native.Nat.{ℕ, ◌+◌, ◌-◌, ◌%◌, ◌^◌, ◌<◌, ◌≤◌}
use native.Mathlib.Nat.{zero-add, mod-lt}
use native.Mathlib.Omega.{arith}
use lib.Count.{ones, ones_in}
use lib.Dec.{eqb}
use lib.ListN.{length}
use lib.Pow.{pow_pos, pow_mono}
use borrow.Author.Tests.{eqb-true, eqb-false, eq-eqb, ne_eqb}
use Rattle.amplitude.specs.Bits.{bit}
use Rattle.amplitude.proofs.BitLaws.{bit_above}
use Rattle.amplitude.proofs.BlockLaws.{bit_low}
use Rattle.phase_sum_meaning.specs.Sets.{first_such, first_in, from, Among, here, there}
use Rattle.phase_sum_meaning.specs.Parity.{Parity}
use Rattle.phase_sum_meaning.specs.Phase.{Phase}
use Rattle.phase_sum_meaning.specs.Room.{most_variables}
use Rattle.phase_sum_meaning.proofs.VariableLaws.{from-among}
use Rattle.comparison_meaning.specs.Reduction.{End, reduce_end}
use Rattle.comparison_meaning.specs.Verdict.{candidates, first_differing, different, result, agreement, power, searched}
use Rattle.comparison_meaning.proofs.Weight.{search_some}
use Rattle.phase_sum_types.specs.Workspace.{members}
use Rattle.phase_sum_types.proofs.Members.{length-members, members_none}
use Rattle.phase_sum_types.proofs.Windows.{from_split}

-- the same is found by two tests that agree on a list, where none passes the first behind it
first_agree :
    (t u : ℕ → Bool) (vs ws : List ℕ) →
    ((v : ℕ) → Among v vs → t v ≡ u v) →
    ((v : ℕ) → Among v ws → t v ≡ false) →
    first_such t (vs ++ ws) ≡ first_such u vs
unfolding first_such
first_agree t u [] [] same clear = refl
first_agree t u [] (w ∷ ws) same clear = rw (clear w here) (first_agree t u [] ws same (λ v a. clear v (there a)))
first_agree t u (v ∷ vs) ws same clear =
    rw (same v here, first_agree t u vs ws (λ x a. same x (there a)) clear)

-- the lowest variable of the rest of a set below n is the set's lowest below n
pub lowest_below : (n s : ℕ) → n ≤ 16 → first_in (from 0 most_variables) (s % 2 ^ n) ≡ first_in (from 0 n) s
lowest_below n s l =
    let parts : most_variables ≡ n + (most_variables - n) = omega arith in
    rw (parts, from_split 0 n (most_variables - n), zero-add)
    (
    first_agree
    (λ v. bit v (s % 2 ^ n))
    (λ v. bit v s)
    (from 0 n)
    (from n (most_variables - n))
    (λ v a. bit_low n v s (omega (arith, from-among 0 n a)))
    (λ v a. bit_above n v (s % 2 ^ n) (mod-lt s (pow_pos n)) (from-among n (most_variables - n) a).0)
    )

-- an input found on at most 16 qubits is below 2^16
pub input-below : (n r : ℕ) (φ : Phase) → n ≤ 16 → some r ≡ first_differing φ (candidates 0 n) → r < 2 ^ 16
input-below n r φ l found = omega (arith, search_some 0 n r φ (sym found), pow_mono {i = n} {j = 16} l)

-- the verdict on n qubits where no variable is left
module _ (n : ℕ) (e : End) where
  -- different, where pins and sums differ
  pub searched_uneven : (e.counts.pins ≡ e.counts.sums → ⊥) → searched 0 n e ≡ result different 0 0 e
  unfolding searched
  searched_uneven ne = rw (ne_eqb e.counts.pins e.counts.sums ne, searched)

  -- different, where the search found an input
  pub searched-found :
      (r : ℕ) → e.counts.pins ≡ e.counts.sums → some r ≡ first_differing e.sum.phase (candidates 0 n) →
      searched 0 n e ≡ result different 0 r e
  unfolding searched
  searched-found r even found = rw (eq-eqb e.counts.pins e.counts.sums even, ← found, searched)

  -- equal or turned, where it found none
  pub searched_none :
      e.counts.pins ≡ e.counts.sums → none ≡ first_differing e.sum.phase (candidates 0 n) →
      searched 0 n e ≡ result (agreement (power e)) (power e) 0 e
  unfolding searched
  searched_none even nothing = rw (eq-eqb e.counts.pins e.counts.sums even, ← nothing, searched)

-- a list of length 0
length_nil : (us : List ℕ) → length us ≡ 0 → us ≡ []
length_nil [] e = refl
length_nil (u ∷ us) e = absurd (omega arith)

-- the empty set has no members, and no other set has none
pub members_empty : (s : ℕ) → s < 2 ^ most_variables → eqb (length (members s)) 0 ≡ eqb s 0
unfolding ones ones_in
members_empty s l = go (eqb s 0) refl
  where
    go : (b : Bool) → eqb s 0 ≡ b → eqb (length (members s)) 0 ≡ b
    go true e = rw (eqb-true s 0 e, length-members 0 (pow_pos most_variables))
    go false e = ne_eqb (length (members s)) 0 (λ h. eqb-false s 0 e (members_none s l (length_nil (members s) h)))

-- reducing leaves a blocked end as it is
pub reduce_blocked : (e : End) (q : Parity) → e.blocked_by ≡ some q → reduce_end e ≡ e
unfolding reduce_end
reduce_blocked e q b = rw b
