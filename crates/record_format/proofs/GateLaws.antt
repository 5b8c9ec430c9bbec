-- Laws of gates that no byte comes into: inverting twice, qubits further on, and qubits that stay within n. The layers above cite them too.
-- Assumes nothing.
use mathlib.Core.Path.{◌≡◌, refl}
use Prim.Native.Nat.{ℕ, zero, suc, ◌+◌, ◌<◌}
use mathlib.Core.List.{List, [], ◌∷◌, ◌++◌, map, map-append, reverse-cons, reverse-append}
use lib.ListN.{length, length-map, length-reverse}
use native.Mathlib.Omega.{arith}
use borrow.Author.Tests.{ne_eqb, lt-leb}
use Rattle.record_format.specs.Gate.{Gate, X, Y, Z, S, S†, T, T†, H, one, two, Within, AllWithin, raw, gate_of, inverse_number, inverse_kind, inverse_gate, inverse_list, shift_gate, shift_list}

-- a first gate's inverse comes last
pub inverse_cons : (g : Gate) (gs : List Gate) → inverse_list (g ∷ gs) ≡ inverse_list gs ++ inverse_gate g ∷ []
unfolding inverse_list
inverse_cons g gs = reverse-cons (inverse_gate g) (map inverse_gate gs)

-- a last gate's inverse comes first
pub inverse_snoc : (gs : List Gate) (g : Gate) → inverse_list (gs ++ g ∷ []) ≡ inverse_gate g ∷ inverse_list gs
unfolding inverse_list
inverse_snoc gs g = rw (map-append, reverse-append)

-- a gate inverted twice
inverse-gate_twice : (g : Gate) → inverse_gate (inverse_gate g) ≡ g
unfolding inverse_gate inverse_kind
inverse-gate_twice (one u a) = elim u as (λ k. inverse_gate (inverse_gate (one k a)) ≡ one k a) [ X ↦ refl | Y ↦ refl | Z ↦ refl | S ↦ refl | S† ↦ refl | T ↦ refl | T† ↦ refl | H ↦ refl ]
inverse-gate_twice (two v a b) = refl

-- gates inverted twice
pub inverse-inverse : (gs : List Gate) → inverse_list (inverse_list gs) ≡ gs
inverse-inverse [] = unfold inverse_list in refl
inverse-inverse (g ∷ gs) =
    rw (inverse_cons g gs, inverse_snoc (inverse_list gs) (inverse_gate g), inverse-gate_twice g, inverse-inverse gs)

-- the inverse has as many gates
pub length-inverse : (gs : List Gate) → length (inverse_list gs) ≡ length gs
unfolding inverse_list
length-inverse gs = rw (length-reverse, length-map)

-- gates within n, then more of them
pub within_append : (n : ℕ) (gs hs : List Gate) → AllWithin n gs → AllWithin n hs → AllWithin n (gs ++ hs)
within_append n [] hs left right = right
within_append n (g ∷ gs) hs (here, left) right = (here, within_append n gs hs left right)

-- the inverse of a gate within n is within n
gate_within_inverse : (n : ℕ) (g : Gate) → Within n g → Within n (inverse_gate g)
unfolding inverse_gate
gate_within_inverse n (one u a) h = h
gate_within_inverse n (two v a b) h = h

-- the inverse of gates within n is within n
pub within_inverse : (n : ℕ) (gs : List Gate) → AllWithin n gs → AllWithin n (inverse_list gs)
within_inverse n [] h = unfold inverse_list in tt
within_inverse n (g ∷ gs) (here, later) =
    rw inverse_cons (within_append n (inverse_list gs) (inverse_gate g ∷ []) (within_inverse n gs later) (gate_within_inverse n g here, tt))

-- gates within n are within more qubits
pub within_more : (n m : ℕ) (gs : List Gate) → AllWithin n gs → AllWithin (n + m) gs
within_more n m [] h = tt
within_more n m (one u a ∷ gs) (below, later) = (omega arith, within_more n m gs later)
within_more n m (two v a b ∷ gs) ((a-below, b-below, differ), later) = ((omega arith, omega arith, differ), within_more n m gs later)

-- gates within m are within n + m once their qubits are numbered n further on
pub within_shift : (n m : ℕ) (gs : List Gate) → AllWithin m gs → AllWithin (n + m) (shift_list n gs)
unfolding shift_list shift_gate
within_shift n m [] h = tt
within_shift n m (one u a ∷ gs) (below, later) = (omega arith, within_shift n m gs later)
within_shift n m (two v a b ∷ gs) ((a-below, b-below, differ), later) =
    ((omega arith, omega arith, λ e. differ (omega arith)), within_shift n m gs later)

-- there are as many gates then
pub length_shift : (k : ℕ) (gs : List Gate) → length (shift_list k gs) ≡ length gs
unfolding shift_list
length_shift k gs = length-map gs (shift_gate k)

-- a gate's bytes with the kind inverted stand for the gate's inverse
pub inverse-raw : (k a b : ℕ) → gate_of (raw (inverse_number k) a b) ≡ inverse_gate (gate_of (raw k a b))
unfolding gate_of inverse_number inverse_gate inverse_kind
inverse-raw zero a b = refl
inverse-raw (suc zero) a b = refl
inverse-raw (suc (suc zero)) a b = refl
inverse-raw (suc (suc (suc zero))) a b = refl
inverse-raw (suc (suc (suc (suc zero)))) a b = refl
inverse-raw (suc (suc (suc (suc (suc zero))))) a b = refl
inverse-raw (suc (suc (suc (suc (suc (suc zero)))))) a b = refl
inverse-raw (suc (suc (suc (suc (suc (suc (suc zero))))))) a b = refl
inverse-raw (suc (suc (suc (suc (suc (suc (suc (suc k)))))))) a b = two_qubit (suc (suc (suc (suc (suc (suc (suc (suc k)))))))) (omega arith)
  where
    two_qubit : (m : ℕ) → 7 < m → gate_of (raw (inverse_number m) a b) ≡ inverse_gate (gate_of (raw m a b))
    two_qubit m l =
        unfold gate_of inverse_number inverse_gate in
        rw (ne_eqb m 3 (omega arith), ne_eqb m 4 (omega arith), ne_eqb m 5 (omega arith), ne_eqb m 6 (omega arith), lt-leb m 7 l)
