-- The steps as a relation between sums, apart from the function that takes them in one order: any live ready y may come next,
-- and a join may replace any live path variable of L.
-- Assumes nothing.
use Rattle.std.specs.Prelude.{◌≡◌, ℕ, true, false}
use Rattle.amplitude.specs.Bits.{bit}
use Rattle.phase_sum_meaning.specs.Sets.{Among}
use Rattle.phase_sum_meaning.specs.Parity.{Parity, rest}
use Rattle.phase_sum_meaning.specs.Phase.{in_odd}
use Rattle.phase_sum_meaning.specs.Building.{PathSum}
use Rattle.phase_sum_meaning.specs.Stepping.{replace, half_sum, odd_halves, take_out, turned, kind_of, constrained}
use Rattle.comparison_meaning.specs.Reduction.{Counts, add_sum, add_turn, add_join}
use Rattle.phase_sum_meaning.specs.Stepping as stepping

-- document 01's ready: a path variable neither replaced nor taken out so far, and in no term of odd coefficient
abbrev pub Ready : ℕ → PathSum → Type 0
Ready y s = Among y s.live × (in_odd y s.phase.terms ≡ false)

-- C of y
abbrev pub c_of : ℕ → PathSum → ℕ
c_of y s = half_sum y s.phase.terms

-- L of y
abbrev pub l_of : ℕ → PathSum → ℕ
l_of y s = odd_halves y s.phase.terms

-- one step
pub data Step (s : PathSum) (c : Counts) : PathSum → Counts → Type 0 where
  sums : (y : ℕ) → Ready y s → kind_of (c_of y s) (l_of y s) ≡ stepping.sum → Step s c (take_out y s) (add_sum c)
  turns : (y : ℕ) → Ready y s → kind_of (c_of y s) (l_of y s) ≡ stepping.turn → Step s c (turned (c_of y s) (l_of y s) (take_out y s)) (add_turn c)
  joins : (y z : ℕ) → Ready y s → kind_of (c_of y s) (l_of y s) ≡ stepping.constraint → Among z (take_out y s).live → bit z (l_of y s) ≡ true → Step s c (replace z (rest z (constrained (c_of y s) (l_of y s))) (take_out y s)) (add_join c)

-- document 01's blocked: a ready y whose step asks that q is 0, where q holds no live path variable. y is not taken out
pub record Blocked (s : PathSum) (q : Parity) : Type 0 where
  pub y : ℕ
  pub ready : Ready y s
  pub kind : kind_of (c_of y s) (l_of y s) ≡ stepping.constraint
  pub same : q ≡ constrained (c_of y s) (l_of y s)
  pub free : (z : ℕ) → Among z (take_out y s).live → bit z (l_of y s) ≡ false

-- some steps, one after another
pub data Steps (s : PathSum) (c : Counts) : PathSum → Counts → Type 0 where
  none : Steps s c s c
  more : {t : PathSum} {d : Counts} {u : PathSum} {e : Counts} → Steps s c t d → Step t d u e → Steps s c u e
