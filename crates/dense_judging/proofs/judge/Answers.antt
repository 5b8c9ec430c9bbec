-- `dense_judging::judge` meets its contract: each half has the places of six qubits.
-- Assumes nothing.
use native.Mathlib.Omega.{arith}
use Rattle.dense_columns.proofs.Places.{few_places}
use Rattle.dense_judging.proofs.judge.Goals as goal

pub judge_columns-judged-requires : goal.judge_columns-judged-requires
judge_columns-judged-requires c =
    let few = c.args.lists.block.few in
    let places = few_places c.args.lists.n few in
    (record { few = few; places = omega arith }, record { few = few; places = omega arith })
