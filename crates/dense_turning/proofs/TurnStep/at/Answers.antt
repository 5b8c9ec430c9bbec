-- `dense_turning::TurnStep::at` meets its contract: the place is turned where both bits are 1, and left elsewhere.
-- Assumes nothing.
use mathlib.Core.Path.{sym}
use native.Mathlib.Omega.{arith}
use Rattle.dense_turning.proofs.Turns.{both_turned, first_kept, second_kept}
use Rattle.dense_turning.proofs.TurnStep.at.Goals as goal
use Rattle.dense_turning.proofs.TurnStep.at.Goals.{else-has_bit-via-then-has_bit+else-has_bit-2, else-has_bit-via-else-has_bit}

pub returns-then-has_bit-2 : goal.returns-then-has_bit-2
returns-then-has_bit-2 c =
    let s = c.args.self in
    rw c.turn.ensures
    (both_turned c.args.n s.a s.b s.k c.args.w c.args.column.now (omega arith) (sym c.if-has_bit.ensures) (sym c.if-has_bit-2.ensures))

pub returns-else-has_bit : goal.returns-else-has_bit
returns-else-has_bit c =
    let s = c.args.self in
    elim c.else-has_bit.branch [
      | else-has_bit-via-then-has_bit+else-has_bit-2 v ↦
          second_kept c.args.n s.a s.b s.k c.args.w c.args.column.now (sym v.if-has_bit.ensures) (sym v.if-has_bit-2.ensures)
      | else-has_bit-via-else-has_bit v ↦ first_kept c.args.n s.a s.b s.k c.args.w c.args.column.now (sym v.if-has_bit.ensures)
    ]
