-- A turn stores the inverse of the last gate that is left.
-- Assumes nothing.
use Rattle.std.proofs.Common.{◌≡◌, refl, ◌+◌, ◌∷◌, length, ap, ◌∙◌, arith}
use Rattle.std.proofs.lemmas.List.{nil_from_length, length_push}
use Rattle.record_format.specs.Gate.{gate_of_three, inverse_gate, inverse_list, body_bytes}
use Rattle.record_format.specs.Reading.{size}
use Rattle.record_format.specs.Chunks.{gates_of}
use Rattle.record_format.proofs.Encoding.{inverse-body}
use Rattle.record_format.proofs.Chunks.{inverses_of_last, length_inverses_of, length_inverse_bytes}
use Rattle.record_format.proofs.Storing.{none_left}
use Rattle.record_format.proofs.Writers.{gate_stored}
use Rattle.record_writing.proofs.inverter.write_inverse.Goals as goal

pub loop-i-preserved : goal.loop-i-preserved
loop-i-preserved c =
    let (rest, here, next, _) = c.in-Some.ensures.steps in
    let chunks = c.next.new.self.iter.iter.rest.now in
    let gate = inverse_gate (gate_of_three c.in-Some.bytes.now) in
    let gates = inverse_list (gates_of chunks) in
    let more : inverse_list (gates_of c.loop-i.i-iterator.iter.iter.rest.now) ≡ gate ∷ gates =
    ap (λ cs. inverse_list (gates_of cs)) rest ∙ inverses_of_last chunks c.in-Some.bytes.now in
    let longer = simp length_push at (ap length rest) in
    let at : size (c.loop-i.i-iterator.count + 1) ≡ size c.loop-i.i-iterator.count + 3 = omega arith in
    let stored = gate_stored c.loop-i.buffer _ (size c.loop-i.i-iterator.count) gate gates refl (omega (arith, length_inverses_of chunks)) in
    record {
      fits = omega arith;
      left = rw (next, at, c.write_inverted.ensures, here) (stored ∙ rw more at c.loop-i.invariant.left);
    }

pub returns : goal.returns
unfolding inverse_list body_bytes
returns c =
    let none = nil_from_length _ c.in-None.ensures.steps.0.0 in
    let left = rw (none, none_left) at c.loop-i.invariant.left in
    let stored = rw (length_inverse_bytes c.args.gates.now) at left in
    record { as_gates = stored; as_bytes = rw (inverse-body (gates_of c.args.gates.now)) at stored }
