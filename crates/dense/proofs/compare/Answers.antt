-- `dense::compare` meets its contract: what the checks answered says whether the pair is a block, and `judge` what its columns show; every
-- clause follows from what is said.
-- Assumes nothing.
use mathlib.Core.Path.{◌≡◌, sym, ap, ◌∙◌}
use mathlib.Core.List.{◌++◌}
use native.Mathlib.Omega.{arith}
use lib.Seq.{length-take-le}
use lib.ListN.{length, take, drop, replicate, length-take}
use lib.IntN.{pos}
use Rattle.dense_meaning.specs.Limits.{buffer_size}
use Rattle.dense_types.specs.Call.{found, says}
use Rattle.dense.proofs.Calling.{shown_said, clauses}
use Rattle.dense.proofs.compare.Goals as goal

-- the buffer is long enough
pub slice_bounds-judge-end-2 : goal.slice_bounds-judge-end-2
slice_bounds-judge-end-2 c = sym (length-take-le buffer_size c.args.buffer.now c.in_ok-lists.ensures.found.room)

pub judge-requires : goal.judge-requires
judge-requires c =
    let whole = length-take-le buffer_size c.args.buffer.now c.in_ok-lists.ensures.found.room in
    omega (arith, whole)

pub returns : goal.returns
returns c =
    let a = c.args in
    let said =
    ap says (c.outcome_of.ensures ∙ ap found c.judge.ensures.judged)
    ∙ shown_said c.in_ok-lists.ensures.found c.in_ok-lists.ensures.fault
    in
    let whole : length (take buffer_size a.buffer.now) ≡ buffer_size = simp length-take (omega (arith, c.in_ok-lists.ensures.found.room)) in
    let all = clauses a.first.now a.second.now (length a.buffer.now) _ said in
    record {
      steps = said;
      kept = rw c.judge.ensures.zero (ap (λ m. replicate m (pos 0) ++ drop buffer_size a.buffer.now) whole);
      exact = all.0;
      sound = all.1.0;
      first = all.1.1.0;
      inputs = all.1.1.1.0;
      agrees = all.1.1.1.1;
    }
