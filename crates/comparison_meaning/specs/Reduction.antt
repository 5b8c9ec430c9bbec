-- Pinning and reducing the path sum of first list and inverse second: document 01, "Reducing it".
-- Assumes nothing.
use Rattle.std.specs.Prelude.{ℕ, zero, suc, ◌+◌, ◌*◌, Bool, true, false, not, ◌&&◌, length, eqb}
use Rattle.std.proofs.Math.Option.{Option, none, some}
use Rattle.phase_sum_meaning.specs.Sets.{first_in}
use Rattle.phase_sum_meaning.specs.Parity.{Parity, ◌⊕◌, rest}
use Rattle.phase_sum_meaning.specs.Building.{PathSum, wire, input}
use Rattle.phase_sum_meaning.specs.Stepping.{replace, first_ready, half_sum, odd_halves, take_out, turned, kind_of, sum, turn, constraint, constrained}

-- document 01's counts: pins (wires set equal to their inputs), sums (variables that drop out with a factor 2), turns (with a
-- factor √2 and an eighth turn), joins (two variables that drop out together)
pub record Counts : Type 0 where
  pub pins : ℕ
  pub sums : ℕ
  pub turns : ℕ
  pub joins : ℕ

-- counts by their numbers
abbrev pub counts : ℕ → ℕ → ℕ → ℕ → Counts
counts p s t j = record { pins = p; sums = s; turns = t; joins = j }

-- one pin more
unfoldable pub add_pin : Counts → Counts
add_pin c = counts (suc c.pins) c.sums c.turns c.joins

-- one sum more
unfoldable pub add_sum : Counts → Counts
add_sum c = counts c.pins (suc c.sums) c.turns c.joins

-- one turn more
unfoldable pub add_turn : Counts → Counts
add_turn c = counts c.pins c.sums (suc c.turns) c.joins

-- one join more
unfoldable pub add_join : Counts → Counts
add_join c = counts c.pins c.sums c.turns (suc c.joins)

-- the power of √2 that the steps have split off: 2 for a sum or a join, 1 for a turn
abbrev pub factor : Counts → ℕ
factor c = 2 * c.sums + c.turns + 2 * c.joins

-- where the reduction ends: the sum and the counts that it has reached, and, where it is blocked, the parity that cannot be 0
pub record End : Type 0 where
  pub blocked_by : Option Parity
  pub sum : PathSum
  pub counts : Counts

-- it stops here, not blocked
abbrev pub stops : PathSum → Counts → End
stops s c = record { blocked_by = none; sum = s; counts = c }

-- it is blocked here by q
abbrev pub blocks : Parity → PathSum → Counts → End
blocks q s c = record { blocked_by = some q; sum = s; counts = c }

-- a parity that is constantly 0
abbrev pub is_zero : Parity → Bool
is_zero q = eqb q.vars 0 && not q.flipped

-- the parity of output wire q and input q together
abbrev pub mismatch : ℕ → ℕ → PathSum → Parity
mismatch scratch q s = wire q s ⊕ input scratch q

-- pinning the m qubits from q upwards. (Sets hold no other path variables than the live ones, so the first of these that is in
-- Q is Q's lowest path variable.)
unfoldable pub pin_from : ℕ → ℕ → ℕ → PathSum → Counts → End
pin_from scratch zero q s c = stops s c
pin_from scratch (suc m) q s c =
    elim (first_in s.live (mismatch scratch q s).vars) [
      | some z ↦ pin_from scratch m (suc q) (replace z (rest z (mismatch scratch q s)) s) (add_pin c)
      | none ↦ elim (is_zero (mismatch scratch q s)) [
        | true ↦ pin_from scratch m (suc q) s c
        | false ↦ blocks (mismatch scratch q s) s c
      ]
    ]

-- what one step gives: the next sum and counts, or the parity that blocks it
pub data Next : Type 0 where
  goes : PathSum → Counts → Next
  stuck : Parity → Next

-- the step at a ready y, its C and L given: a join replaces L's lowest path variable
unfoldable pub step_with : ℕ → ℕ → ℕ → PathSum → Counts → Next
step_with y k l s c =
    elim (kind_of k l) [
      | sum ↦ goes (take_out y s) (add_sum c)
      | turn ↦ goes (turned k l (take_out y s)) (add_turn c)
      | constraint ↦ elim (first_in (take_out y s).live l) [
        | some z ↦ goes (replace z (rest z (constrained k l)) (take_out y s)) (add_join c)
        | none ↦ stuck (constrained k l)
      ]
    ]

-- the step at a ready y
abbrev pub step_at : ℕ → PathSum → Counts → Next
step_at y s c = step_with y (half_sum y s.phase.terms) (odd_halves y s.phase.terms) s c

-- steps at the lowest ready variable, until none is ready or one is blocked; a blocked y is still left. Each step takes a live
-- variable away, so that m steps are enough for m live variables
unfoldable pub reduce_from : ℕ → PathSum → Counts → End
reduce_from zero s c = stops s c
reduce_from (suc m) s c =
    elim (first_ready s.live s.phase.terms) [
      | none ↦ stops s c
      | some y ↦ elim (step_at y s c) [ goes t d ↦ reduce_from m t d | stuck q ↦ blocks q s c ]
    ]

-- reducing what pinning left
unfoldable pub reduce_end : End → End
reduce_end e = elim e.blocked_by [ none ↦ reduce_from (length e.sum.live) e.sum e.counts | some q ↦ e ]

-- pinning every qubit
abbrev pub pinned : ℕ → ℕ → PathSum → End
pinned scratch n s = pin_from scratch n 0 s (counts 0 0 0 0)

-- where pinning and reducing a sum on n qubits end
abbrev pub reduced : ℕ → ℕ → PathSum → End
reduced scratch n s = reduce_end (pinned scratch n s)
