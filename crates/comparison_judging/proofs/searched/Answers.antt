-- `comparison_judging::searched` meets its contract: where pins and sums differ the verdict is different, else what the search found decides,
-- and an input that it found fits 16 bits; where it found none, minus the constant is the power of ω that is shown.
-- Assumes nothing.
use mathlib.Core.Path.{sym, ◌∙◌}
use Rattle.std.specs.Prelude.{None}
use Rattle.comparison_types.specs.Inner.{end_of, stops_at}
use Rattle.comparison_types.proofs.VerdictLaws.{searched_uneven, searched-found, searched_none}
use Rattle.comparison_judging.proofs.searched.Goals as goal

pub returns-then-counts : goal.returns-then-counts
returns-then-counts c l same =
    c.outcome.ensures l None ∙ sym (searched_uneven c.args.n (end_of (stops_at c.args.reached) l) c.if-counts.true)

pub returns-in-Some : goal.returns-in-Some
returns-in-Some c l same =
    c.outcome-in-Some.ensures l None
    ∙ sym (searched-found c.args.n (end_of (stops_at c.args.reached) l) _ c.if-counts.false (rw same at c.in-Some.ensures.first))

pub returns : goal.returns
returns c l same =
    (rw (c.agreement.ensures, c.from.ensures, c.negate-j.ensures) at (c.outcome-2.ensures l None))
    ∙ sym (searched_none c.args.n (end_of (stops_at c.args.reached) l) c.if-counts.false (rw same at c.in_default.ensures.first))
