-- `dense_turning::CxStep::at` meets its contract: at the lower place of a pair along the target the two are exchanged if the control is 1,
-- elsewhere nothing is done.
-- Assumes nothing.
use mathlib.Core.Path.{sym}
use Rattle.dense_columns.proofs.Pairs.{pair_at, both_places, none_turned}
use Rattle.dense_turning.proofs.Turns.{cx_kept, cx_turned}
use Rattle.dense_turning.proofs.CxStep.at.Goals as goal
use Rattle.dense_turning.proofs.CxStep.at.Goals.{else-not-has_bit-via-then-not-has_bit+else-has_bit, else-not-has_bit-via-else-not-has_bit}

pub exchange-requires : goal.exchange-requires
exchange-requires c =
    let r = c.requires in
    let both =
    both_places (λ z. Unit) c.args.column.now r.qubits.1 r.place c.if-not-has_bit.ensures c.power.ensures r.room (λ u b k. tt)
    in
    (both.0, both.1)

pub returns-then-has_bit : goal.returns-then-has_bit
returns-then-has_bit c =
    let pair = pair_at c.requires.qubits.1 c.requires.place c.if-not-has_bit.ensures c.power.ensures in
    cx_turned c.args.self.a c.args.column.now c.exchange.new.column c.requires.qubits.2 pair (sym c.if-has_bit.ensures) c.exchange.ensures.exchanged

pub returns-else-not-has_bit : goal.returns-else-not-has_bit
returns-else-not-has_bit c =
    let s = c.args.self in
    elim c.else-not-has_bit.branch [
      | else-not-has_bit-via-then-not-has_bit+else-has_bit v ↦
          cx_kept c.args.n s.a s.b c.args.w c.args.column.now c.requires.qubits.2 (sym v.if-has_bit.ensures)
      | else-not-has_bit-via-else-not-has_bit v ↦ none_turned s.b v.if-not-has_bit.ensures
    ]
