-- Loops over the places of a workspace: a term put behind those in use, zeros put in one place after the other, and a phase
-- added up term by term.
-- Assumes nothing.
use mathlib.Core.Path.{◌≡◌}
use Prim.Native.Nat.{ℕ, suc, ◌+◌, ◌-◌, ◌*◌, ◌≤◌, ◌<◌}
use native.Mathlib.Omega.{arith}
use mathlib.Core.Bool.{Bool, true, false, cond}
use mathlib.Core.List.{List, [], ◌∷◌, ◌++◌, map-append}
use lib.ListN.{length, take, drop, set, replicate, length-append}
use lib.Seq.{length-take-le, append_snoc, set_split}
use Rattle.amplitude.specs.Bits.{digit}
use Rattle.phase_sum_meaning.specs.Sets.{parity}
use Rattle.phase_sum_meaning.specs.Phase.{Term, term, sum_at}
use Rattle.phase_sum_types.specs.Workspace.{held, over, Stored}
use Rattle.phase_sum_types.proofs.Storing.{sets_of-held, coeffs_of-held, length-held, over_grown}

-- a value put behind the m places in use
over_next : (m x : ℕ) (xs : List ℕ) → m < length xs → set xs m x ≡ over m (take m xs ++ x ∷ []) xs
over_next m x xs l =
    let l' : m ≤ length xs = omega arith in
    let e : length (take m xs ++ x ∷ []) ≡ suc m = rw (length-append, length-take-le m xs l') (omega arith) in
    rw (over_grown m (take m xs ++ x ∷ []) xs (omega arith), e, append_snoc) (set_split xs m x l)

-- a term put behind the m terms
pub stored_next :
    (m s c : ℕ) (ss cs : List ℕ) →
    m < length ss →
    m < length cs →
    Stored m (held m ss cs ++ term s c ∷ []) (m + 1) ss cs (set ss m s) (set cs m c)
stored_next m s c ss cs l k =
    let l' : m ≤ length ss = omega arith in
    let k' : m ≤ length cs = omega arith in
    record {
      counted = rw (length-append, length-held m ss cs l' k');
      sets = rw (map-append, sets_of-held m ss cs l' k') (over_next m s ss l);
      coeffs = rw (map-append, coeffs_of-held m ss cs l' k') (over_next m c cs k);
    }

-- a list with zeros from one place up to another
abbrev pub filled : ℕ → ℕ → List ℕ → List ℕ
filled a b xs = take a xs ++ replicate (b - a) 0 ++ drop b xs

-- a coefficient where a parity is 1
share_digit : (b : Bool) (c : ℕ) → cond b c 0 ≡ c * digit b
share_digit true c = omega arith
share_digit false c = omega arith

-- what the terms add, one term more at the end
pub sum_at_more : (ts : List Term) (t : Term) (x : ℕ) → sum_at (ts ++ t ∷ []) x ≡ sum_at ts x + cond (parity t.set x) t.coeff 0
unfolding sum_at
sum_at_more [] t x = rw share_digit (omega arith)
sum_at_more (u ∷ us) t x = omega (arith, sum_at_more us t x)
