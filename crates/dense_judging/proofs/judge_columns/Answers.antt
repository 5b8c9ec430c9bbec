-- `dense_judging::judge_columns` meets its contract: the power of column 0 fits every column before v, and at the end it is what is found.
-- Assumes nothing.
use mathlib.Core.Path.{sym}
use native.Mathlib.Omega.{arith}
use lib.Pow.{pow_pos}
use borrow.Author.Count.{below_more}
use Rattle.record_format.specs.Reading.{gates_in}
use Rattle.dense_meaning.proofs.Unfit.{unfit_at_once, unfit_at_lem, fit_everywhere}
use Rattle.dense_judging.proofs.Fitting.{room_kept, passed_fits, failed_fits, left_small, below_one}
use Rattle.dense_judging.proofs.judge_columns.Goals as goal

pub first_power-requires : goal.first_power-requires
first_power-requires c =
    let ran = c.run_both in
    (room_kept c.requires.0 ran.auto.first, room_kept c.requires.1 ran.auto.second, left_small c.args.lists.block ran.ensures)

pub returns-in_default : goal.returns-in_default
returns-in_default c =
    let l = c.args.lists in
    sym (unfit_at_once l.n (gates_in l.first.now) (gates_in l.second.now)
    (λ j b. failed_fits l.n (gates_in l.first.now) (gates_in l.second.now) 0 c.run_both.new.first c.run_both.new.second c.run_both.ensures j
    (c.in_default.ensures j b)))

-- the power that was found fits column 0
pub loop-v-init : goal.loop-v-init
loop-v-init c =
    let l = c.args.lists in
    let gates = gates_in l.first.now in
    let others = gates_in l.second.now in
    below_one gates others l.n _ (passed_fits l.n gates others 0 c.run_both.new.first c.run_both.new.second c.run_both.ensures _ c.in-Some.ensures.1)

pub carries-requires : goal.carries-requires
carries-requires c =
    let ran = c.run_both-in-loop-v in
    (room_kept c.requires.0 (omega arith), room_kept c.requires.1 (omega arith), left_small c.args.lists.block ran.ensures)

pub returns-then-not-carries : goal.returns-then-not-carries
returns-then-not-carries c =
    let l = c.args.lists in
    let gates = gates_in l.first.now in
    let others = gates_in l.second.now in
    let ran = c.run_both-in-loop-v in
    sym (unfit_at_lem l.n gates others l.block.within_first l.block.within_second c.loop-v.v _ (omega arith) (omega arith)
    c.in-Some.ensures.0 c.loop-v.invariant
    (failed_fits l.n gates others c.loop-v.v ran.new.first ran.new.second ran.ensures _ (sym c.if-not-carries.ensures)))

pub loop-v-preserved : goal.loop-v-preserved
loop-v-preserved c =
    let l = c.args.lists in
    let ran = c.run_both-in-loop-v in
    below_more _ _ c.loop-v.invariant
    (passed_fits l.n (gates_in l.first.now) (gates_in l.second.now) c.loop-v.v ran.new.first ran.new.second ran.ensures _ (sym c.if-not-carries.ensures))

pub returns : goal.returns
returns c =
    let l = c.args.lists in
    sym (fit_everywhere l.n (gates_in l.first.now) (gates_in l.second.now) l.block.within_first l.block.within_second _ c.in-Some.ensures.0
    (λ v b. c.loop-v.invariant v (omega (arith, pow_pos l.n))))
