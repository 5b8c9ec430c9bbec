-- What was counted, with what the chunks ahead come to, is the list's count.
-- Assumes nothing.
use Rattle.std.proofs.Common.{◌≡◌, ◌≤◌, ◌+◌, drop}
use Rattle.std.specs.List.{count_by}
use Rattle.record_format.specs.Gate.{gate_of_three}
use Rattle.record_format.specs.Reading.{gates_in}
use Rattle.amplitude.specs.Circuit.{h_gates}
use Rattle.gate_counting.specs.Inner.{counts_h}
use Rattle.gate_counting.proofs.h_gates.Given as goal

abbrev pub invariant-loop-bytes : goal.invariant-loop-bytes
invariant-loop-bytes l = (l.count ≤ l.bytes-index)
    × (l.count + count_by (λ chunk. counts_h (gate_of_three chunk)) (drop l.bytes-index l.bytes-items) ≡ h_gates (gates_in l.gates))
