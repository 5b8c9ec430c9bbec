-- `dense_turning::CrossStep::at` meets its contract: at the lower place of a pair both are exchanged and turned, elsewhere nothing is done.
-- Assumes nothing.
use Rattle.dense_numbers.specs.Numbers.{Sized, most_doublings}
use Rattle.dense_columns.proofs.Pairs.{pair_at, both_places, none_turned}
use Rattle.dense_turning.proofs.Turns.{crossed_turned}
use Rattle.dense_turning.proofs.CrossStep.at.Goals as goal

pub cross-requires : goal.cross-requires
cross-requires c =
    let r = c.requires in
    both_places (Sized most_doublings) c.args.column.now r.qubits r.place c.if-not-has_bit.ensures c.power.ensures r.room r.small

pub returns-then-not-has_bit : goal.returns-then-not-has_bit
returns-then-not-has_bit c =
    let r = c.requires in
    rw c.cross.ensures (crossed_turned c.args.self.b c.args.self.c c.args.column.now (pair_at r.qubits r.place c.if-not-has_bit.ensures c.power.ensures) r.room.places)

pub returns-else-not-has_bit : goal.returns-else-not-has_bit
returns-else-not-has_bit c = none_turned c.args.self.q c.if-not-has_bit.ensures
