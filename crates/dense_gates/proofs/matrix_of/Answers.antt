-- `dense_gates::matrix_of` meets its contract: every entry is that of the published matrix.
-- Assumes nothing.
use Rattle.record_format.specs.Gate.{X, Y, Z, S, S†, T, T†, H, one_qubit_kind}
use Rattle.dense_gates.proofs.Table.{table_is}
use Rattle.dense_gates.proofs.matrix_of.Goals as goal

pub returns-in-X : goal.returns-in-X
unfolding one_qubit_kind
returns-in-X c = rw c.in-X.is (table_is X)

pub returns-in-Y : goal.returns-in-Y
unfolding one_qubit_kind
returns-in-Y c = rw c.in-Y.is (table_is Y)

pub returns-in-Z : goal.returns-in-Z
unfolding one_qubit_kind
returns-in-Z c = rw c.in-Z.is (table_is Z)

pub returns-in-S : goal.returns-in-S
unfolding one_qubit_kind
returns-in-S c = rw c.in-S.is (table_is S)

pub returns-in-SInverse : goal.returns-in-SInverse
unfolding one_qubit_kind
returns-in-SInverse c = rw c.in-SInverse.is (table_is S†)

pub returns-in-T : goal.returns-in-T
unfolding one_qubit_kind
returns-in-T c = rw c.in-T.is (table_is T)

pub returns-in-TInverse : goal.returns-in-TInverse
unfolding one_qubit_kind
returns-in-TInverse c = rw c.in-TInverse.is (table_is T†)

pub returns-in-H : goal.returns-in-H
unfolding one_qubit_kind
returns-in-H c = rw c.in-H.is (table_is H)
