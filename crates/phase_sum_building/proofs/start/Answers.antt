-- `phase_sum_building::start` meets its contract: each turn makes one more wire an input.
-- Assumes nothing.
use mathlib.Core.Path.{◌≡◌, refl, ◌∙◌}
use Prim.Native.Nat.{zero-le}
use native.Mathlib.Omega.{arith}
use lib.ListN.{length, length-set}
use Rattle.phase_sum_meaning.specs.Sets.{from, single}
use Rattle.phase_sum_meaning.specs.Parity.{of}
use Rattle.phase_sum_meaning.specs.Building.{initial}
use Rattle.phase_sum_types.specs.Workspace.{zip_terms}
use Rattle.phase_sum_types.proofs.Storing.{stored_same}
use Rattle.phase_sum_types.proofs.WireLaws.{inputs_more, inputs_all}
use Rattle.phase_sum_building.proofs.start.Goals as goal

pub loop-q-init : goal.loop-q-init
unfolding from
loop-q-init c = (refl, refl)

pub loop-q-preserved : goal.loop-q-preserved
loop-q-preserved c =
    let loop = c.loop-q in
    rw (c.set.ensures, c.from.ensures, c.new.ensures)
    (length-set loop.wires loop.q (of (single loop.q)) ∙ loop.invariant.0, inputs_more loop.q loop.wires (omega arith) loop.invariant.1)

pub returns : goal.returns
unfolding initial zip_terms
returns c ss cs =
    let loop = c.loop-q in
    let all : loop.q ≡ length c.args.wires.now = omega arith in
    record {
      next = omega arith;
      constant = c.default.ensures.0;
      wires = inputs_all _ loop.wires loop.invariant.0 (rw all at loop.invariant.1);
      terms = rw c.default.ensures.1 (stored_same 0 ss cs zero-le zero-le);
    }
