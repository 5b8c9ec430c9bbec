-- A turn stores the first gate that is left, its qubits further on.
-- Assumes nothing.
use Rattle.std.proofs.Common.{◌≡◌, refl, ◌+◌, ◌-◌, ◌*◌, [], ◌∷◌, length, get_or, drop, ◌∙◌, arith}
use Rattle.std.proofs.lemmas.List.{at_drop_more, at_drop_all, length-drop}
use Rattle.record_format.specs.Gate.{gate_of_three, body_bytes, shift_gate, shift_list}
use Rattle.record_format.specs.Chunks.{gates_of}
use Rattle.record_format.proofs.Chunks.{length_gates_of, length_shifted_bytes}
use Rattle.record_format.proofs.GateLaws.{length_shift}
use Rattle.record_format.proofs.Storing.{none_left}
use Rattle.record_format.proofs.Writers.{gate_stored}
use Rattle.joining_types.proofs.Shifting.{shift_body}
use Rattle.joining_writing.proofs.write_gates.Goals as goal

pub loop-i-preserved : goal.loop-i-preserved
unfolding shift_list
loop-i-preserved c =
    let chunks = c.args.gates.now in
    let i = c.loop-i.i in
    let gate = gate_of_three (get_or chunks i []) in
    let rest = gates_of (drop (i + 1) chunks) in
    let next : gates_of (drop i chunks) ≡ gate ∷ rest = at_drop_more gates_of chunks i [] c.loop-i-test.true in
    let many : length (shift_list c.args.shift rest) ≡ length chunks - (i + 1) = simp (length_shift, length_gates_of, length-drop) in
    let stored =
    gate_stored c.loop-i.buffer _ (c.args.at + 3 * i) (shift_gate c.args.shift gate) (shift_list c.args.shift rest) refl (omega arith) in
    let at : c.args.at + 3 * (i + 1) ≡ c.args.at + 3 * i + 3 = omega arith in
    record {
      within = (rw next at c.loop-i.invariant.within).1;
      left = rw (at, c.write_further_on.ensures) (stored ∙ rw next at c.loop-i.invariant.left);
    }

pub returns : goal.returns
unfolding body_bytes shift_list
returns c =
    let none = at_drop_all gates_of c.args.gates.now c.loop-i.i c.loop-i-test.false in
    let left = rw (none, none_left) at c.loop-i.invariant.left in
    let stored = rw (length_shifted_bytes c.args.shift c.args.gates.now) at left in
    record { as_gates = stored; as_bytes = rw (shift_body c.args.shift (gates_of c.args.gates.now)) at stored }
