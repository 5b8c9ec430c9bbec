-- Gates with their qubits numbered further on, and their bytes: behind another list's, and in a buffer, one behind the other.
-- Assumes nothing.
use mathlib.Core.Path.{◌≡◌, refl}
use Prim.Native.Nat.{ℕ, ◌+◌}
use native.Mathlib.Nat.{zero-add}
use mathlib.Core.Option.{none}
use mathlib.Core.List.{List, [], ◌∷◌, ◌++◌}
use lib.ListN.{length, take, drop, length-append}
use lib.Seq.{take_at}
use Rattle.record_format.specs.Gate.{Gate, X, Y, Z, S, S†, T, T†, H, CX, CZ, SWAP, one, two, one_qubit_kind, two_qubit_kind, gate_bytes, body_bytes, shift_gate, shift_list}
use Rattle.record_format.specs.Row.{first}
use Rattle.record_format.specs.Reading.{count, body, gates, record_rows}
use Rattle.record_format.specs.Writing.{head_bytes, encode}
use Rattle.record_format.proofs.Encoding.{length_gates, body-append, good_head, body_gates}
use Rattle.record_format.proofs.GateLaws.{length_shift}
use Rattle.record_format.proofs.Storing.{behind_head}
use Rattle.joining_types.specs.Inner.{shift_bytes}

-- a gate's bytes with its qubits further on
shift_gate_lem : (k : ℕ) (g : Gate) (rest : List ℕ) → shift_bytes k (gate_bytes g ++ rest) ≡ gate_bytes (shift_gate k g) ++ shift_bytes k rest
unfolding shift_bytes gate_bytes shift_gate one_qubit_kind two_qubit_kind
shift_gate_lem k (one X a) rest = refl
shift_gate_lem k (one Y a) rest = refl
shift_gate_lem k (one Z a) rest = refl
shift_gate_lem k (one S a) rest = refl
shift_gate_lem k (one S† a) rest = refl
shift_gate_lem k (one T a) rest = refl
shift_gate_lem k (one T† a) rest = refl
shift_gate_lem k (one H a) rest = refl
shift_gate_lem k (two CX a b) rest = refl
shift_gate_lem k (two CZ a b) rest = refl
shift_gate_lem k (two SWAP a b) rest = refl

-- those of gates
pub shift_body : (k : ℕ) (gs : List Gate) → body_bytes (shift_list k gs) ≡ shift_bytes k (body_bytes gs)
unfolding body_bytes shift_bytes shift_list
shift_body k [] = refl
shift_body k (g ∷ gs) = rw (shift_gate_lem k g (body_bytes gs), ← shift_body k gs)

-- by 0 no qubit moves
pub shift_none : (gs : List Gate) → shift_list 0 gs ≡ gs
unfolding shift_list shift_gate
shift_none [] = refl
shift_none (one u a ∷ gs) = rw (zero-add a, shift_none gs)
shift_none (two v a b ∷ gs) = rw (zero-add a, zero-add b, shift_none gs)

-- the record of two lists is a head, the first's gate bytes and the second's
pub encode_append : (n : ℕ) (gs hs : List Gate)
    → encode n (gs ++ hs) ≡ head_bytes n (length gs + length hs) ++ body_bytes gs ++ body_bytes hs
unfolding encode
encode_append n gs hs = rw (length-append gs hs, body-append gs hs)

-- of two records that no row stops, the second's qubits further on, it has their counts added up and their gate bytes
pub encode_joined : (n k : ℕ) (s t : List ℕ) → first (record_rows s) ≡ none → first (record_rows t) ≡ none
    → encode n (gates s ++ shift_list k (gates t)) ≡ head_bytes n (count s + count t) ++ body s ++ shift_bytes k (body t)
encode_joined n k s t good-s good-t =
    rw (encode_append n (gates s) (shift_list k (gates t)), length_shift k (gates t), length_gates s (good_head s good-s).whole, length_gates t (good_head t good-t).whole)
    (rw (shift_body k (gates t), body_gates s good-s, body_gates t good-t))

-- x written behind p, where the buffer is as it was from there on
pub put_behind_lem : (p x l : List ℕ) (at : ℕ) → length p ≡ at
    → take at (p ++ drop at l) ++ x ++ drop (at + length x) (p ++ drop at l) ≡ p ++ x ++ drop (at + length x) l
put_behind_lem p x l at e = rw (take_at p (drop at l) at e, ← e, behind_head p l (length x))
