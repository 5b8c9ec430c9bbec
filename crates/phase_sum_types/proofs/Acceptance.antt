-- Two accepted records can be built: what `build` asks for follows from the checks on the records and on the pair.
-- Assumes nothing.
use mathlib.Core.Path.{◌≡◌}
use Prim.Native.Nat.{ℕ, ◌+◌, ◌≤◌}
use native.Mathlib.Omega.{arith}
use mathlib.Core.List.{List}
use lib.ListN.{length}
use Rattle.record_format.specs.Gate.{Gate}
use Rattle.record_format.specs.Reading.{accepted, read}
use Rattle.record_format.specs.Writing.{gate_part}
use Rattle.record_format.proofs.Theorems.{accepted_is_sound}
use Rattle.record_format.proofs.Parts.{gates_of_part}
use Rattle.amplitude.specs.Circuit.{h_gates}
use Rattle.phase_sum_meaning.specs.Room.{room, most_variables, places}
use Rattle.phase_sum_types.specs.Unmerged.{Buildable}
use Rattle.phase_sum_meaning.proofs.Roominess.{room_fits}

-- two accepted records on n qubits with no more variables than a pair may have, and workspaces with all their places
pub buildable :
    (s t : List ℕ) (n : ℕ) (gs hs : List Gate) (ss cs : List ℕ) →
    read s ≡ accepted n gs →
    read t ≡ accepted n hs →
    n + (h_gates gs + h_gates hs) ≤ most_variables →
    places ≤ length ss →
    places ≤ length cs →
    Buildable n (gate_part s (read s)) (gate_part t (read t)) ss cs
buildable s t n gs hs ss cs e f few sets coeffs =
    let sound = accepted_is_sound s n gs e in
    let sound' = accepted_is_sound t n hs f in
    let same = gates_of_part s n gs e in
    let same' = gates_of_part t n hs f in
    let fits : room gs hs ≤ places = room_fits n gs hs sound.few_gates sound'.few_gates sound.some_qubit few in
    record {
      few = sound.few_qubits;
      within = rw same sound.within;
      within' = rw same' sound'.within;
      variables = rw (same, same') few;
      sets = rw (same, same') (omega arith);
      coeffs = rw (same, same') (omega arith);
    }
