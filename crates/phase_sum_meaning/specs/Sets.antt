-- Sets of variables as natural numbers read as bit masks, of any width: variable v is in S where bit v of S is 1. An
-- assignment of values to the variables is a natural number read the same way.
-- Assumes nothing.
use Rattle.std.specs.Prelude.{◌≡◌, ℕ, zero, suc, ◌+◌, ◌*◌, ◌/◌, ◌%◌, ◌^◌, Bool, true, false, cond, ◌&&◌, List, [], ◌∷◌, eqb}
use Rattle.std.specs.Bool.{xor}
use Rattle.std.proofs.Math.Option.{Option, none, some}
use Rattle.amplitude.specs.Bits.{bit}

infixl 60 ◌△◌
-- the set of one variable
abbrev pub single : ℕ → ℕ
single v = 2 ^ v

-- what is in one of two sets and not in both. (Counted down by the first set, which is empty before the count runs out.)
unfoldable pub xor_up_to : ℕ → ℕ → ℕ → ℕ
xor_up_to zero s r = r
xor_up_to (suc k) s r = elim (eqb s 0) [ true ↦ r | false ↦ 2 * xor_up_to k (s / 2) (r / 2) + (s + r) % 2 ]

-- the exclusive or of two sets
unfoldable pub ◌△◌ : ℕ → ℕ → ℕ
s △ r = xor_up_to s s r

-- the parity of the values that x gives to the variables of a set. (Counted down as above.)
unfoldable pub parity_up_to : ℕ → ℕ → ℕ → Bool
parity_up_to zero s x = false
parity_up_to (suc k) s x = elim (eqb s 0) [ true ↦ false | false ↦ xor (bit 0 s && bit 0 x) (parity_up_to k (s / 2) (x / 2)) ]

-- the parity of a set at an assignment
unfoldable pub parity : ℕ → ℕ → Bool
parity s x = parity_up_to s s x

-- the first number of a list that passes a test
unfoldable pub first_such : (ℕ → Bool) → List ℕ → Option ℕ
first_such test [] = none
first_such test (v ∷ vs) = cond (test v) (some v) (first_such test vs)

-- the first variable of a list that a set holds
abbrev pub first_in : List ℕ → ℕ → Option ℕ
first_in vs s = first_such (λ v. bit v s) vs

-- the list without a variable
unfoldable pub without : ℕ → List ℕ → List ℕ
without v [] = []
without v (u ∷ us) = cond (eqb u v) (without v us) (u ∷ without v us)

-- the m numbers from a on
unfoldable pub from : ℕ → ℕ → List ℕ
from a zero = []
from a (suc m) = a ∷ from (suc a) m

-- v is in a list
pub data Among (v : ℕ) : List ℕ → Type 0 where
  here : {us : List ℕ} → Among v (v ∷ us)
  there : {u : ℕ} {us : List ℕ} → Among v us → Among v (u ∷ us)

-- x gives 0 to every variable of a set
abbrev pub Clear : ℕ → ℕ → Type 0
Clear s x = (v : ℕ) → bit v s ≡ true → bit v x ≡ false
