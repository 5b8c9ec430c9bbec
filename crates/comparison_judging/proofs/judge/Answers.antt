-- `comparison_judging::judge` meets its contract, by its cases: blocked, variables left, none left.
-- Assumes nothing.
use mathlib.Core.Path.{◌≡◌, sym, ◌∙◌}
use Prim.Native.Nat.{◌<◌, ◌^◌}
use mathlib.Core.Bool.{Bool}
use native.Mathlib.Omega.{arith}
use lib.ListN.{length}
use lib.Dec.{eqb}
use Rattle.std.specs.Prelude.{None}
use Rattle.phase_sum_types.specs.Workspace.{set_of, members}
use Rattle.phase_sum_types.specs.declared.Set.{Set}
use Rattle.phase_sum_types.proofs.TwoWords.{pair_below}
use Rattle.comparison_meaning.specs.Verdict.{judge, searched}
use Rattle.comparison_types.proofs.VerdictLaws.{members_empty}
use Rattle.comparison_judging.proofs.judge.Goals as goal

-- whether variables are left is whether the set of those left is empty
none_left : (live : Set) (b : Bool) → live.low < 2 ^ 64 → live.high < 2 ^ 64 → b ≡ eqb (set_of live) 0 → eqb (length (members (set_of live))) 0 ≡ b
unfolding set_of
none_left live b low high is = members_empty (set_of live) (pair_below live.low live.high low high) ∙ sym is

pub returns-in-Some : goal.returns-in-Some
unfolding judge
returns-in-Some c l same = rw (c.in-Some.is, ← c.blocked_input-input.ensures) (c.outcome.ensures l None)

pub returns-then-is_empty : goal.returns-then-is_empty
unfolding judge searched
returns-then-is_empty c l same =
    let none = none_left c.args.end.reached.sum.live _ (omega arith) (omega arith) c.is_empty.ensures in
    rw (c.in_default.is, none, c.if-is_empty.true) (c.searched.ensures l same)

pub returns : goal.returns
unfolding judge
returns c l same =
    let some = none_left c.args.end.reached.sum.live _ (omega arith) (omega arith) c.is_empty.ensures in
    rw (c.in_default.is, some, c.if-is_empty.false) (c.outcome-2.ensures l None)
