-- `phase_sum_terms::wires::Wires::flip` meets its contract.
-- Assumes nothing.
use mathlib.Core.Path.{ap}
use mathlib.Core.List.{map}
use native.Mathlib.Omega.{arith}
use lib.ListN.{length}
use Rattle.phase_sum_types.specs.Workspace.{parity_of}
use Rattle.phase_sum_types.proofs.Running.{x_moves}
use Rattle.phase_sum_terms.proofs.WireLists.{length_wires, wire_flipped}
use Rattle.phase_sum_terms.proofs.wires.Wires.flip.Goals as goal

pub returns : goal.returns
returns c =
    let q = c.args.q in
    let ws = c.self.inside.wires.now in
    let flipped = wire_flipped ws q (omega (arith, length_wires ws, ap length c.self.view_is)) in
    rw (← flipped, c.self.view_is) at (x_moves q (map parity_of ws))
