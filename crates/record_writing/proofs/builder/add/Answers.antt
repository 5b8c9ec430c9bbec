-- The gate's check and the test on the buffer's length each turn down by their own row, and behind them a new head and the gate's bytes behind
-- the old ones are the record with one gate more.
-- Assumes nothing.
use Rattle.std.proofs.Common.{refl}
use Rattle.std.proofs.lemmas.Result.{err_from_is_err_and}
use Rattle.record_format.specs.Gate.{raw}
use Rattle.record_format.proofs.Reading.{accepts}
use Rattle.record_format.proofs.Writers.{add_bad, add_short, add_stored}
use Rattle.record_writing.proofs.builder.add.Goals as goal

pub returns-in_err-check_gate : goal.returns-in_err-check_gate
returns-in_err-check_gate c =
    let there = accepts _ _ _ c.in_ok-n.ensures.answers in
    let q = c.from_residual-in_err-check_gate in
    let p = err_from_is_err_and q.result q.ensures.1 in
    rw (p.1, p.2, add_bad (raw c.args.kind c.args.a c.args.b) _ _ _ _ there c.if-g-eq-MOST_GATES.false c.in_err-check_gate.ensures)
    (record { answers = refl; leaves = refl })

pub returns-then-buffer-end : goal.returns-then-buffer-end
returns-then-buffer-end c =
    let there = accepts _ _ _ c.in_ok-n.ensures.answers in
    rw (add_short (raw c.args.kind c.args.a c.args.b) _ _ _ there c.if-g-eq-MOST_GATES.false c.in_ok-check_gate.ensures c.if-buffer-end.true)
    (record { answers = refl; leaves = refl })

pub returns : goal.returns
returns c =
    let there = accepts _ _ _ c.in_ok-n.ensures.answers in
    rw (add_stored (raw c.args.kind c.args.a c.args.b) _ _ _ there c.if-g-eq-MOST_GATES.false c.in_ok-check_gate.ensures _ c.if-buffer-end.false c.write_head.ensures)
    (record { answers = refl; leaves = c.write_gate.ensures })
