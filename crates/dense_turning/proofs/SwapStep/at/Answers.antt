-- `dense_turning::SwapStep::at` meets its contract: at a place with both bits 0 the two places that have one of them are exchanged, elsewhere
-- nothing is done.
-- Assumes nothing.
use mathlib.Core.Path.{sym}
use native.Mathlib.Omega.{arith}
use Rattle.dense_columns.proofs.Pairs.{pair_at}
use Rattle.dense_turning.proofs.Turns.{first_not_lowest, second_not_lowest, swap_turned}
use Rattle.dense_turning.proofs.SwapStep.at.Goals as goal
use Rattle.dense_turning.proofs.SwapStep.at.Goals.{else-not-has_bit-via-then-not-has_bit+else-not-has_bit-2, else-not-has_bit-via-else-not-has_bit}

pub exchange-requires : goal.exchange-requires
exchange-requires c =
    let p = pair_at c.requires.qubits.0 c.requires.place c.if-not-has_bit.ensures c.power.ensures in
    let q = pair_at c.requires.qubits.1 c.requires.place c.if-not-has_bit-2.ensures c.power-then-not-has_bit-2.ensures in
    (omega (arith, p.top), omega (arith, q.top))

pub returns-then-not-has_bit-2 : goal.returns-then-not-has_bit-2
returns-then-not-has_bit-2 c =
    let p = pair_at c.requires.qubits.0 c.requires.place c.if-not-has_bit.ensures c.power.ensures in
    let q = pair_at c.requires.qubits.1 c.requires.place c.if-not-has_bit-2.ensures c.power-then-not-has_bit-2.ensures in
    swap_turned c.args.column.now c.exchange.new.column p q c.requires.qubits.2 c.exchange.ensures.exchanged

pub returns-else-not-has_bit : goal.returns-else-not-has_bit
returns-else-not-has_bit c =
    let s = c.args.self in
    elim c.else-not-has_bit.branch [
      | else-not-has_bit-via-then-not-has_bit+else-not-has_bit-2 v ↦
          second_not_lowest c.args.n s.a s.b c.args.w _ c.args.column.now c.requires.qubits.2 (sym v.if-not-has_bit-2.ensures)
      | else-not-has_bit-via-else-not-has_bit v ↦
          first_not_lowest c.args.n s.a s.b c.args.w _ c.args.column.now c.requires.qubits.2 (sym v.if-not-has_bit.ensures)
    ]
