-- The single steps of the reduction: document 01, "Reducing it". Replacing a variable by a parity; taking a ready variable y
-- out, as a sum, a turn or a join.
-- Assumes nothing.
use Rattle.std.specs.Prelude.{ℕ, ◌+◌, ◌/◌, ◌%◌, cond, not, List, [], ◌∷◌, map, eqb}
use Rattle.std.proofs.Math.Option.{Option}
use Rattle.amplitude.specs.Bits.{bit}
use Rattle.phase_sum_meaning.specs.Sets.{◌△◌, single, without, first_such}
use Rattle.phase_sum_meaning.specs.Parity.{Parity, of, replace_in}
use Rattle.phase_sum_meaning.specs.Phase.{Term, add_constant, add_term, rebuild, in_odd}
use Rattle.phase_sum_meaning.specs.Building.{PathSum}

-- replacing z by the parity p in all terms and wires, and merging; z is no longer summed over
unfoldable pub replace : ℕ → Parity → PathSum → PathSum
replace z p s =
    record {
      phase = rebuild (λ u. replace_in z p (of u)) s.phase.constant s.phase.terms;
      wires = map (replace_in z p) s.wires;
      live = without z s.live;
    }

-- y is ready: summed over, and in no term of odd coefficient. The first ready variable of a list:
abbrev pub first_ready : List ℕ → List Term → Option ℕ
first_ready ys ts = first_such (λ y. not (in_odd y ts)) ys

-- the coefficients of the terms that hold y, added up
unfoldable pub coeffs : ℕ → List Term → ℕ
coeffs y [] = 0
coeffs y (t ∷ ts) = cond (bit y t.set) t.coeff 0 + coeffs y ts

-- C: half that sum, mod 4
abbrev pub half_sum : ℕ → List Term → ℕ
half_sum y ts = coeffs y ts / 2 % 4

-- a set without y
unfoldable pub out_of : ℕ → ℕ → ℕ
out_of y u = cond (bit y u) (u △ single y) u

-- L: the exclusive or of the sets that hold y, without y, over the terms whose half coefficient is odd
unfoldable pub odd_halves : ℕ → List Term → ℕ
odd_halves y [] = 0
odd_halves y (t ∷ ts) = cond (bit y t.set) (cond (eqb (t.coeff / 2 % 2) 1) (out_of y t.set) 0) 0 △ odd_halves y ts

-- y taken out of each term that holds it, and merged; y is no longer summed over
unfoldable pub take_out : ℕ → PathSum → PathSum
take_out y s =
    record {
      phase = rebuild (λ u. of (out_of y u)) s.phase.constant s.phase.terms;
      wires = s.wires;
      live = without y s.live;
    }

-- the phase of a turn: 1 and −2 on L for C = 1, −1 and 2 on L for C = 3
unfoldable pub turned : ℕ → ℕ → PathSum → PathSum
turned k l s =
    record {
      phase = add_term l (cond (eqb k 1) 6 2) (add_constant (cond (eqb k 1) 1 7) s.phase);
      wires = s.wires;
      live = s.live;
    }

-- which step a ready y takes, with its C and L: document 01's three cases
pub data Kind : Type 0 where
  sum turn constraint : Kind

-- C odd: a turn; C = 0 and L empty: a sum; otherwise a constraint, for a join or a block
unfoldable pub kind_of : ℕ → ℕ → Kind
kind_of c l = cond (eqb (c % 2) 1) turn (cond (eqb c 0) (cond (eqb l 0) sum constraint) constraint)

-- what must be 0 after a step that is no sum and no turn: L with constant C/2
abbrev pub constrained : ℕ → ℕ → Parity
constrained c l = record { vars = l; flipped = eqb (c / 2 % 2) 1 }
