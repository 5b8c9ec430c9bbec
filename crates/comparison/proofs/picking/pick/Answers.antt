-- `comparison::picking::pick` meets its contract: what `compare_read` answered says whether the pair was compared and how many gates each
-- list has, and `takes_second` which list is taken.
-- Assumes nothing.
use mathlib.Core.Bool.{true, false}
use Rattle.comparison_types.proofs.PickLaws.{whole_read, pick_refused, pick_one}
use Rattle.comparison.proofs.picking.pick.Goals as goal

pub whole-requires : goal.whole-requires
whole-requires c = whole_read c.in-Ok.ensures.found.second

pub whole-requires-in-Ok : goal.whole-requires-in-Ok
whole-requires-in-Ok c = whole_read c.in-Ok.ensures.found.first

pub returns-in-Err : goal.returns-in-Err
returns-in-Err c =
    let a = c.args in
    let read = c.in-Err.ensures in
    let met = pick_refused a.first.now a.second.now a.sets.now a.coeffs.now _ _ a.first.ref_ptr a.second.ref_ptr c.in-Err.field-0 read.steps read.kept in
    record { content = met.content; own = met.own; kept = met.kept; right = met.right; empty = met.empty }

pub returns-then-takes_second : goal.returns-then-takes_second
returns-then-takes_second c =
    let a = c.args in
    let read = c.in-Ok.ensures in
    let met =
    pick_one a.first.now a.second.now a.sets.now a.coeffs.now _ _ a.first.ref_ptr a.second.ref_ptr c.in-Ok.compared read.steps read.kept read.found
    true c.if-takes_second.ensures c.whole.ensures.content c.whole.ensures.own
    in
    record { content = met.content; own = met.own; kept = met.kept; right = met.right; empty = met.empty }

pub returns-else-takes_second : goal.returns-else-takes_second
returns-else-takes_second c =
    let a = c.args in
    let read = c.in-Ok.ensures in
    let met =
    pick_one a.first.now a.second.now a.sets.now a.coeffs.now _ _ a.first.ref_ptr a.second.ref_ptr c.in-Ok.compared read.steps read.kept read.found
    false c.if-takes_second.ensures c.whole-in-Ok.ensures.content c.whole-in-Ok.ensures.own
    in
    record { content = met.content; own = met.own; kept = met.kept; right = met.right; empty = met.empty }
