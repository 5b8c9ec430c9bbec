-- `comparison_judging::blocked_input` meets its contract: the lowest variable of the set below n is its lowest qubit, and below 16, so that the shifted 1 fits.
-- Assumes nothing.
use mathlib.Core.Path.{◌≡◌, sym, ◌∙◌}
use mathlib.Core.Option.{Option, some}
use Prim.Native.Nat.{ℕ, ◌%◌, ◌^◌, ◌<◌, ◌≤◌}
use native.Mathlib.Nat.{mod-eq_of_lt, one-mul}
use native.Mathlib.Omega.{arith}
use lib.Pow.{pow-lt}
use Rattle.phase_sum_meaning.specs.Room.{most_variables}
use Rattle.phase_sum_meaning.specs.Sets.{first_in, from}
use Rattle.phase_sum_meaning.proofs.VariableLaws.{first_such_some, from-among}
use Rattle.comparison_meaning.specs.Verdict.{blocked_input}
use Rattle.comparison_types.proofs.VerdictLaws.{lowest_below}
use Rattle.comparison_judging.proofs.blocked_input.Goals as goal

-- the lowest variable found is the lowest qubit of the set
qubit : (n s b : ℕ) {o : Option ℕ} → n ≤ 16 → b ≡ s % 2 ^ n → o ≡ first_in (from 0 most_variables) b → first_in (from 0 n) s ≡ o
qubit n s b l is first = sym ((rw is at first) ∙ lowest_below n s l)

-- so it is below 16
small : (n s : ℕ) {v : ℕ} → n ≤ 16 → first_in (from 0 n) s ≡ some v → v < 16
small n s l first =
    let such = first_such_some _ _ _ first in
    omega (arith, from-among 0 n such.0)

pub overflow_cast-result : goal.overflow_cast-result
overflow_cast-result c =
    let few = c.count.ensures.few in
    omega (arith, c.number.ensures.number, small _ _ few (qubit _ _ _ few (rw c.count.ensures.count at c.below.ensures) c.in-Some.ensures))

pub overflow_shl-result : goal.overflow_shl-result
overflow_shl-result c =
    let few = c.count.ensures.few in
    omega (arith, c.number.ensures.number, small _ _ few (qubit _ _ _ few (rw c.count.ensures.count at c.below.ensures) c.in-Some.ensures))

pub returns-in-Some : goal.returns-in-Some
unfolding blocked_input
returns-in-Some c =
    let few = c.count.ensures.few in
    let first = qubit _ _ _ few (rw c.count.ensures.count at c.below.ensures) c.in-Some.ensures in
    rw (c.if-by.false, first, c.number.ensures.number, one-mul) (mod-eq_of_lt (pow-lt (small _ _ few first)))

pub returns-in-None : goal.returns-in-None
unfolding blocked_input
returns-in-None c =
    rw (c.if-by.false, qubit _ _ _ c.count.ensures.few (rw c.count.ensures.count at c.below.ensures) c.in-None.ensures)
