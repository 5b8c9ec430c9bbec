-- The three bytes of a gate with its qubits k further on, by the bytes that it was read from.
-- Assumes nothing.
use Rattle.std.proofs.Common.{◌≡◌, refl, ℕ, zero, suc, ◌+◌, ◌%◌, ◌≤◌, ◌<◌, Bool, true, false, List, [], ◌∷◌, get_or, arith}
use Prim.Native.Nat.{min}
use mathlib.Core.Path.{◌∙◌}
use Rattle.std.specs.Int.Bits.{bit_or, or_zero_l}
use Rattle.std.proofs.lemmas.Nat.{le_or_l, or_of_8}
use lib.Dec.{leb}
use borrow.Author.Tests.{le-leb, leb-true, leb-false}
use Rattle.record_format.specs.Format.{last_one_qubit, no_qubit}
use Rattle.record_format.specs.Gate.{Within, raw, gate_of, gate_of_three, gate_bytes, one_qubit_kind, two_qubit_kind, shift_gate}
use Rattle.record_writing.proofs.Bytes.{on_two, gate_on_two, number_two}

-- qubit a of a gate on one qubit is within n
pub one_within : (n : ℕ) (bytes : List ℕ) → get_or bytes 0 0 ≤ last_one_qubit → Within n (gate_of_three bytes) → get_or bytes 1 0 < n
unfolding gate_of
one_within n bytes l within = rw (le-leb (get_or bytes 0 0) 7 l) at within

-- and so are both of a gate on two
pub two_within :
    (n : ℕ) (bytes : List ℕ) → last_one_qubit < get_or bytes 0 0 → Within n (gate_of_three bytes)
    → (get_or bytes 1 0 < n) × (get_or bytes 2 0 < n)
two_within n bytes above within =
    let (a-below, b-below, _) = rw (gate_on_two bytes above) at within in
    (a-below, b-below)

-- so qubit a is, of either
pub first_within : (n : ℕ) (bytes : List ℕ) → Within n (gate_of_three bytes) → get_or bytes 1 0 < n
first_within n bytes within = go (leb (get_or bytes 0 0) last_one_qubit) refl
  where
    go : (t : Bool) → leb (get_or bytes 0 0) last_one_qubit ≡ t → get_or bytes 1 0 < n
    go true e = one_within n bytes (leb-true (get_or bytes 0 0) last_one_qubit e) within
    go false e = (two_within n bytes (leb-false (get_or bytes 0 0) last_one_qubit e) within).0

-- the bytes of a gate of three with its qubits k further on
abbrev shifted : ℕ → List ℕ → List ℕ
shifted k bytes = gate_bytes (shift_gate k (gate_of_three bytes))

-- a gate on one qubit keeps its number, and b stays 255
pub one_shifted : (k : ℕ) (bytes : List ℕ) → get_or bytes 0 0 ≤ last_one_qubit → shifted k bytes ≡ get_or bytes 0 0 ∷ (k + get_or bytes 1 0) ∷ no_qubit ∷ []
one_shifted k bytes = by_kind (get_or bytes 0 0) (get_or bytes 1 0) (get_or bytes 2 0)
  where
    by_kind : (kind a b : ℕ) → kind ≤ last_one_qubit → gate_bytes (shift_gate k (gate_of (raw kind a b))) ≡ kind ∷ (k + a) ∷ no_qubit ∷ []
    by_kind zero a b l = unfold gate_of gate_bytes shift_gate one_qubit_kind in refl
    by_kind (suc zero) a b l = unfold gate_of gate_bytes shift_gate one_qubit_kind in refl
    by_kind (suc (suc zero)) a b l = unfold gate_of gate_bytes shift_gate one_qubit_kind in refl
    by_kind (suc (suc (suc zero))) a b l = unfold gate_of gate_bytes shift_gate one_qubit_kind in refl
    by_kind (suc (suc (suc (suc zero)))) a b l = unfold gate_of gate_bytes shift_gate one_qubit_kind in refl
    by_kind (suc (suc (suc (suc (suc zero))))) a b l = unfold gate_of gate_bytes shift_gate one_qubit_kind in refl
    by_kind (suc (suc (suc (suc (suc (suc zero)))))) a b l = unfold gate_of gate_bytes shift_gate one_qubit_kind in refl
    by_kind (suc (suc (suc (suc (suc (suc (suc zero))))))) a b l = unfold gate_of gate_bytes shift_gate one_qubit_kind in refl
    by_kind (suc (suc (suc (suc (suc (suc (suc (suc kind)))))))) a b l = absurd (omega arith)

-- a gate on two keeps its number up to 10
pub two_shifted :
    (k : ℕ) (bytes : List ℕ) → last_one_qubit < get_or bytes 0 0
    → shifted k bytes ≡ two_qubit_kind (on_two (get_or bytes 0 0)) ∷ (k + get_or bytes 1 0) ∷ (k + get_or bytes 2 0) ∷ []
unfolding gate_bytes shift_gate
two_shifted k bytes above = rw (gate_on_two bytes above) refl

-- all bits of a byte, with those of another, are all
all_ones : (b : ℕ) → b < 256 → bit_or no_qubit b ≡ no_qubit
all_ones b fits = omega (arith, le_or_l no_qubit b, or_of_8 no_qubit b (omega arith) (omega arith))

-- the bytes that are written, by the least that b is
pub written_on :
    (k : ℕ) (bytes : List ℕ) {kind least b : ℕ} → k ≤ 16 → Within 16 (gate_of_three bytes)
    → (get_or bytes 0 0 ≤ last_one_qubit → least ≡ no_qubit) → (last_one_qubit < get_or bytes 0 0 → least ≡ 0)
    → kind ≡ min (get_or bytes 0 0) 10 → b ≡ bit_or least ((k + get_or bytes 2 0) % 256)
    → shifted k bytes ≡ kind ∷ (k + get_or bytes 1 0) ∷ b ∷ []
written_on k bytes {kind} {least} {b} few within spare qubit kind-is b-is = go (leb (get_or bytes 0 0) last_one_qubit) refl
  where
    go : (t : Bool) → leb (get_or bytes 0 0) last_one_qubit ≡ t → shifted k bytes ≡ kind ∷ (k + get_or bytes 1 0) ∷ b ∷ []
    go true e =
        let one = leb-true (get_or bytes 0 0) last_one_qubit e in
        let number : kind ≡ get_or bytes 0 0 = omega (arith, kind-is) in
        let top : b ≡ no_qubit = b-is ∙ rw (spare one) (all_ones ((k + get_or bytes 2 0) % 256) (omega arith)) in
        rw (one_shifted k bytes one, number, top) refl
    go false e =
        let two = leb-false (get_or bytes 0 0) last_one_qubit e in
        let below = (two_within 16 bytes two within).1 in
        let last : b ≡ k + get_or bytes 2 0 = b-is ∙ rw (qubit two, or_zero_l) (omega arith) in
        rw (two_shifted k bytes two, number_two (get_or bytes 0 0) two, kind-is, last) refl
