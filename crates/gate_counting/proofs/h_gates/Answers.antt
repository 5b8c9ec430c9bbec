-- The loop counts the chunks of three bytes that stand for such a gate.
-- Assumes nothing.
use Rattle.std.proofs.Common.{rules, arith}
use Rattle.gate_counting.proofs.Tallying.{one_h, counted}
use Rattle.gate_counting.proofs.h_gates.Goals as goal

pub loop-bytes-init : goal.loop-bytes-init
loop-bytes-init c = (search rules, omega (arith, counted one_h c.args.gates.now _ c.as_chunks.ensures.front))
