-- The number of a gate on two qubits, and the bytes of a gate's inverse, by the three bytes that it was read from.
-- Assumes nothing.
use Rattle.std.proofs.Common.{◌≡◌, refl, ℕ, zero, suc, ◌+◌, ◌-◌, ◌≤◌, ◌<◌, Bool, true, false, List, [], ◌∷◌, get_or, arith}
use Prim.Native.Nat.{min, max}
use lib.Dec.{leb}
use Rattle.std.proofs.lemmas.List.{get_or_past}
use borrow.Author.Tests.{lt-leb, leb-true, leb-false}
use Rattle.record_format.specs.Format.{last_one_qubit, last_kind, no_qubit}
use Rattle.record_format.specs.Gate.{TwoQubit, SWAP, two, two_qubit_kinds, raw, gate_of, gate_of_three, one_qubit_kind, two_qubit_kind, gate_bytes, inverse_kind, inverse_gate}

-- the kind of a number above 7
abbrev pub on_two : ℕ → TwoQubit
on_two kind = get_or two_qubit_kinds (kind - 8) SWAP

-- three bytes with such a number are a gate on two qubits
pub gate_on_two : (bytes : List ℕ) → last_one_qubit < get_or bytes 0 0
    → gate_of_three bytes ≡ two (on_two (get_or bytes 0 0)) (get_or bytes 1 0) (get_or bytes 2 0)
unfolding gate_of
gate_on_two bytes above = rw (lt-leb (get_or bytes 0 0) 7 above) refl

-- which has that number, up to 10
pub number_kept : (kind : ℕ) → last_one_qubit < kind → kind ≤ last_kind → two_qubit_kind (on_two kind) ≡ kind
unfolding two_qubit_kind
number_kept kind above below = by_number (kind - 8) (omega arith)
  where
    by_number : (m : ℕ) → kind ≡ m + 8 → two_qubit_kind (on_two kind) ≡ kind
    by_number zero e = unfold two_qubit_kind in rw e refl
    by_number (suc zero) e = unfold two_qubit_kind in rw e refl
    by_number (suc (suc zero)) e = unfold two_qubit_kind in rw e refl
    by_number (suc (suc (suc m))) e = absurd (omega arith)

-- and 10 above it
pub number_above : (kind : ℕ) → last_kind < kind → two_qubit_kind (on_two kind) ≡ last_kind
unfolding two_qubit_kind
number_above kind above =
    let past : 3 ≤ kind - 8 = omega arith in
    rw (get_or_past two_qubit_kinds (kind - 8) SWAP past) refl

-- so the lesser of the number and 10
pub number_two : (kind : ℕ) → last_one_qubit < kind → two_qubit_kind (on_two kind) ≡ min kind 10
number_two kind above = go (leb kind last_kind) refl
  where
    go : (t : Bool) → leb kind last_kind ≡ t → two_qubit_kind (on_two kind) ≡ min kind 10
    go true e = let kept = leb-true kind last_kind e in rw (number_kept kind above kept) (omega arith)
    go false e = let over = leb-false kind last_kind e in rw (number_above kind over) (omega arith)

-- its inverse is the gate itself
pub inverse_on_two : (bytes : List ℕ) → last_one_qubit < get_or bytes 0 0
    → gate_bytes (inverse_gate (gate_of_three bytes)) ≡ two_qubit_kind (on_two (get_or bytes 0 0)) ∷ get_or bytes 1 0 ∷ get_or bytes 2 0 ∷ []
unfolding gate_bytes inverse_gate
inverse_on_two bytes above = rw (gate_on_two bytes above) refl

-- the number of each kind's inverse
abbrev pub inverses : List ℕ
inverses = 0 ∷ 1 ∷ 2 ∷ 4 ∷ 3 ∷ 6 ∷ 5 ∷ 7 ∷ 8 ∷ 9 ∷ 10 ∷ []

-- on one qubit it is the inverse's, and b stays 255
inverse_on_one : (bytes : List ℕ) → get_or bytes 0 0 ≤ last_one_qubit
    → gate_bytes (inverse_gate (gate_of_three bytes)) ≡ get_or inverses (get_or bytes 0 0) 0 ∷ get_or bytes 1 0 ∷ no_qubit ∷ []
inverse_on_one bytes = by_kind (get_or bytes 0 0) (get_or bytes 1 0) (get_or bytes 2 0)
  where
    by_kind : (kind a b : ℕ) → kind ≤ last_one_qubit → gate_bytes (inverse_gate (gate_of (raw kind a b))) ≡ get_or inverses kind 0 ∷ a ∷ no_qubit ∷ []
    by_kind zero a b l = unfold gate_of gate_bytes inverse_gate inverse_kind one_qubit_kind in refl
    by_kind (suc zero) a b l = unfold gate_of gate_bytes inverse_gate inverse_kind one_qubit_kind in refl
    by_kind (suc (suc zero)) a b l = unfold gate_of gate_bytes inverse_gate inverse_kind one_qubit_kind in refl
    by_kind (suc (suc (suc zero))) a b l = unfold gate_of gate_bytes inverse_gate inverse_kind one_qubit_kind in refl
    by_kind (suc (suc (suc (suc zero)))) a b l = unfold gate_of gate_bytes inverse_gate inverse_kind one_qubit_kind in refl
    by_kind (suc (suc (suc (suc (suc zero))))) a b l = unfold gate_of gate_bytes inverse_gate inverse_kind one_qubit_kind in refl
    by_kind (suc (suc (suc (suc (suc (suc zero)))))) a b l = unfold gate_of gate_bytes inverse_gate inverse_kind one_qubit_kind in refl
    by_kind (suc (suc (suc (suc (suc (suc (suc zero))))))) a b l = unfold gate_of gate_bytes inverse_gate inverse_kind one_qubit_kind in refl
    by_kind (suc (suc (suc (suc (suc (suc (suc (suc kind)))))))) a b l = absurd (omega arith)

-- on two it is the number itself
inverses_two : (number : ℕ) → last_one_qubit < number → number ≤ last_kind → get_or inverses number 0 ≡ number
inverses_two number above below = by_number (number - 8) (omega arith)
  where
    by_number : (m : ℕ) → number ≡ m + 8 → get_or inverses number 0 ≡ number
    by_number zero e = rw e refl
    by_number (suc zero) e = rw e refl
    by_number (suc (suc zero)) e = rw e refl
    by_number (suc (suc (suc m))) e = absurd (omega arith)

-- the bytes of the inverse that are written, by the least that b is
pub written_inverted :
    (bytes : List ℕ) {number least b : ℕ}
    → (get_or bytes 0 0 ≤ last_one_qubit → least ≡ no_qubit) → (last_one_qubit < get_or bytes 0 0 → least ≡ 0)
    → number ≡ min (get_or bytes 0 0) 10 → b ≡ max least (get_or bytes 2 0) → b < 256
    → gate_bytes (inverse_gate (gate_of_three bytes)) ≡ get_or inverses number 0 ∷ get_or bytes 1 0 ∷ b ∷ []
written_inverted bytes {number} {least} {b} spare qubit number-is b-is fits = go (leb (get_or bytes 0 0) last_one_qubit) refl
  where
    go : (t : Bool) → leb (get_or bytes 0 0) last_one_qubit ≡ t → gate_bytes (inverse_gate (gate_of_three bytes)) ≡ get_or inverses number 0 ∷ get_or bytes 1 0 ∷ b ∷ []
    go true e =
        let one = leb-true (get_or bytes 0 0) last_one_qubit e in
        let kept : number ≡ get_or bytes 0 0 = omega (arith, number-is) in
        let least-is = spare one in
        let top : b ≡ no_qubit = omega (arith, b-is, least-is) in
        rw (inverse_on_one bytes one, kept, top) refl
    go false e =
        let two = leb-false (get_or bytes 0 0) last_one_qubit e in
        let least-is = qubit two in
        let last : b ≡ get_or bytes 2 0 = omega (arith, b-is, least-is) in
        let above : last_one_qubit < number = omega (arith, number-is) in
        let below : number ≤ last_kind = omega (arith, number-is) in
        rw (inverse_on_two bytes two, number_two (get_or bytes 0 0) two, ← number-is, inverses_two number above below, last) refl
