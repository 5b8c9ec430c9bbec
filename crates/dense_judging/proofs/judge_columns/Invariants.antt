-- `dense_judging::judge_columns` meets its contract: the power of column 0 fits every column before v, and at the end it is what is found.
-- Assumes nothing.
use Prim.Native.Nat.{ℕ, ◌<◌}
use Rattle.record_format.specs.Reading.{gates_in}
use Rattle.amplitude.specs.Circuit.{Fits}
use Rattle.dense_judging.proofs.judge_columns.Given as goal

abbrev pub invariant-loop-v : goal.invariant-loop-v
invariant-loop-v l = (u : ℕ) → u < l.v → Fits l.lists.n l.j (gates_in l.lists.first.now) (gates_in l.lists.second.now) u
