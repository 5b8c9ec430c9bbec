-- `comparison::comparing::compare_read` meets its contract. A pair that the checks turn down is refused with their number; deciding another
-- gives what comparing the records says. Only the first places are lent on, so what is behind them stays.
-- Assumes nothing.
use mathlib.Core.Path.{sym}
use lib.Seq.{length-take-le}
use Rattle.phase_sum_meaning.specs.Room.{places, set_words}
use Rattle.comparison_types.proofs.ClauseLaws.{pair_passes, pass_level, pass_fits, pass_said}
use Rattle.comparison.proofs.comparing.compare_read.Goals as goal

pub slice_bounds-decide-end : goal.slice_bounds-decide-end
slice_bounds-decide-end c = (pair_passes _ _ _ c.args.coeffs.now c.in_ok-n.ensures.fault c.in_ok-n.ensures.found).sets

pub slice_bounds-decide-end-2 : goal.slice_bounds-decide-end-2
slice_bounds-decide-end-2 c =
    let pass = pair_passes _ _ c.args.sets.now c.args.coeffs.now c.in_ok-n.ensures.fault c.in_ok-n.ensures.found in
    sym (length-take-le set_words c.args.sets.now pass.sets)

pub slice_bounds-decide-end-3 : goal.slice_bounds-decide-end-3
slice_bounds-decide-end-3 c = (pair_passes _ _ c.args.sets.now _ c.in_ok-n.ensures.fault c.in_ok-n.ensures.found).coeffs

pub slice_bounds-decide-end-4 : goal.slice_bounds-decide-end-4
slice_bounds-decide-end-4 c =
    let pass = pair_passes _ _ c.args.sets.now c.args.coeffs.now c.in_ok-n.ensures.fault c.in_ok-n.ensures.found in
    sym (length-take-le places c.args.coeffs.now pass.coeffs)

pub decide-outcome-requires : goal.decide-outcome-requires
decide-outcome-requires c =
    let pass = pair_passes _ _ c.args.sets.now c.args.coeffs.now c.in_ok-n.ensures.fault c.in_ok-n.ensures.found in
    (pass_fits pass, pass_level pass)

pub returns-clause-steps : goal.returns-clause-steps
returns-clause-steps c =
    let pass = pair_passes _ _ c.args.sets.now c.args.coeffs.now c.in_ok-n.ensures.fault c.in_ok-n.ensures.found in
    pass_said pass c.decide-outcome.ensures.steps

pub returns-clause-kept : goal.returns-clause-kept
returns-clause-kept c =
    let pass = pair_passes _ _ c.args.sets.now c.args.coeffs.now c.in_ok-n.ensures.fault c.in_ok-n.ensures.found in
    let zero = c.decide-outcome.ensures.zero in (
      rw (zero.0, length-take-le set_words c.args.sets.now pass.sets),
      rw (zero.1, length-take-le places c.args.coeffs.now pass.coeffs),
    )
