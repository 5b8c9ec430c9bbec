-- The choice of a variable left: the lowest that a set holds, and the lowest that it does not, as the lowest of what two sets have in common
-- and of what the first has alone.
-- Assumes nothing.
use mathlib.Core.Path.{◌≡◌, sym}
use mathlib.Core.Bool.{not, ◌&&◌}
use Prim.Native.Nat.{ℕ}
use Rattle.amplitude.specs.Bits.{bit}
use Rattle.phase_sum_meaning.specs.Sets.{first_such, first_in, from}
use Rattle.phase_sum_meaning.specs.Room.{most_variables}
use Rattle.phase_sum_types.specs.Workspace.{members}
use Rattle.phase_sum_types.proofs.Members.{first_among}

-- the lowest variable of what two sets have in common is the first of the one's members that the other holds
pub lowest_within :
    (a b r : ℕ) → ((v : ℕ) → bit v r ≡ bit v a && bit v b) → first_in (from 0 most_variables) r ≡ first_in (members a) b
lowest_within a b r e = simp e (sym (first_among (λ v. bit v b) a (from 0 most_variables)))

-- the lowest variable of what the first has alone is the first of its members that the other does not hold
pub lowest_except :
    (a b r : ℕ) → ((v : ℕ) → bit v r ≡ bit v a && not (bit v b)) → first_in (from 0 most_variables) r ≡ first_such (λ v. not (bit v b)) (members a)
lowest_except a b r e = simp e (sym (first_among (λ v. not (bit v b)) a (from 0 most_variables)))
