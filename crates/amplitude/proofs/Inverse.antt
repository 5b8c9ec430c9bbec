-- A list followed by its inverse, and the inverse followed by the list, is the identity times 2 once for each H gate.
-- Assumes nothing.
use mathlib.Core.Path.{◌≡◌, refl, sym, ◌∙◌, ap, ap₂, fun_ext}
use mathlib.Core.Logic.{◌≢◌}
use mathlib.Core.Bool.{Bool, true, false, cond, ◌&&◌, xor}
use mathlib.Core.List.{List, [], ◌∷◌}
use Prim.Native.Nat.{ℕ, ◌+◌}
use native.Mathlib.Omega.{arith}
use Rattle.record_format.specs.Gate.{OneQubit, X, Y, Z, S, S†, T, T†, H, Gate, one, two, CX, CZ, SWAP, Within, AllWithin, one_qubit_kind, inverse_kind, inverse_gate, inverse_list}
use Rattle.record_format.proofs.GateLaws.{inverse_cons, inverse-inverse, within_inverse}
use Rattle.amplitude.specs.Number.{Zω, neg, ω^, √2^}
use Rattle.amplitude.specs.Bits.{bit, put}
use Rattle.amplitude.specs.Matrix.{matrix, entry, times, row}
use Rattle.amplitude.specs.Circuit.{State, apply, run, tally, is_h, h_gates}
use Rattle.amplitude.proofs.NumberLaws.{+ω_idl, +ω_idr, +ω_invr, +ω_swap, neg-+ω, neg-neg, ω^-add, ω^_four, ω^_eight, mul√2_twice, √2^-add}
use Rattle.amplitude.proofs.XorLaws.{xor_cancel}
use Rattle.amplitude.proofs.BitLaws.{bit_put_same, bit_put_other, put_put_same, put_put_other, put_bit}
use Rattle.amplitude.proofs.Linear.{ω^_zero, apply_one, apply-√2^, run-append, h_gates-inverse}

-- a state at an output, chosen by the output's bit q
pub by_bit : (q : ℕ) (ψ : State) (w : ℕ) → cond (bit q w) (ψ (put q true w)) (ψ (put q false w)) ≡ ψ w
by_bit q ψ w = go (bit q w) ∙ ap ψ (put_bit q w)
  where
    go : (b : Bool) → cond b (ψ (put q true w)) (ψ (put q false w)) ≡ ψ (put q b w)
    go true = refl
    go false = refl

-- sums with 0, and powers of ω that meet
ruleset turns = (+ω_idl, +ω_idr, ω^_zero, ← ω^-add, ω^_eight)

-- the inverse kind's matrix times the kind's is 1, and 2 for H
pub kind_undo : (u : OneQubit) (q : ℕ) (b : Bool) (x y : Zω) →
    row (matrix (inverse_kind u)) b (row (matrix u) false x y) (row (matrix u) true x y) ≡ √2^ (is_h (one u q) + is_h (one u q)) (cond b y x)
unfolding matrix entry times inverse_kind one_qubit_kind √2^
kind_undo X q false x y = simp turns
kind_undo X q true x y = simp turns
kind_undo Y q false x y = simp turns
kind_undo Y q true x y = simp turns
kind_undo Z q false x y = simp turns
kind_undo Z q true x y = simp turns
kind_undo S q false x y = simp turns
kind_undo S q true x y = simp turns
kind_undo S† q false x y = simp turns
kind_undo S† q true x y = simp turns
kind_undo T q false x y = simp turns
kind_undo T q true x y = simp turns
kind_undo T† q false x y = simp turns
kind_undo T† q true x y = simp turns
kind_undo H q false x y = simp (ω^_zero, ω^_four, mul√2_twice) (+ω_swap x y x (neg y) ∙ simp (+ω_invr, +ω_idr))
kind_undo H q true x y = simp (ω^_zero, ω^_four, neg-+ω, neg-neg, mul√2_twice) (+ω_swap x y (neg x) y ∙ simp (+ω_invr, +ω_idl))

-- CX moves an output back where it was when it is applied twice
pub cx_cx : (a b w : ℕ) → a ≢ b →
    (let v : ℕ = put b (xor (bit a w) (bit b w)) w in put b (xor (bit a v) (bit b v)) v ≡ w)
cx_cx a b w ne = simp (bit_put_same, bit_put_other, put_put_same, xor_cancel, put_bit)

-- SWAP moves an output back where it was when it is applied twice
pub swap_swap : (a b w : ℕ) → a ≢ b →
    (let v : ℕ = put a (bit b w) (put b (bit a w) w) in put a (bit b v) (put b (bit a v) v) ≡ w)
swap_swap a b w ne =
    let en : b ≡ a → ⊥ = λ e. ne (sym e) in
    simp (bit_put_same, bit_put_other) (rw (put_put_other b a) (simp (put_put_same, put_bit)))

-- a one-qubit gate and then its inverse is the identity, times 2 for H
pub undo_one : (u : OneQubit) (q : ℕ) (ψ : State) (w : ℕ) →
    apply (one (inverse_kind u) q) (apply (one u q) ψ) w ≡ √2^ (is_h (one u q) + is_h (one u q)) (ψ w)
undo_one u q ψ w =
    ap (apply (one (inverse_kind u) q) (apply (one u q) ψ)) (sym (put_bit q w))
    ∙ apply_one (inverse_kind u) q (apply (one u q) ψ) (bit q w) w
    ∙ ap₂ (row (matrix (inverse_kind u)) (bit q w)) (apply_one u q ψ false w) (apply_one u q ψ true w)
    ∙ kind_undo u q (bit q w) (ψ (put q false w)) (ψ (put q true w))
    ∙ ap (√2^ (is_h (one u q) + is_h (one u q))) (by_bit q ψ w)

-- a gate and then its inverse is the identity, times 2 for H
pub undo_gate : (n : ℕ) (g : Gate) (ψ : State) → Within n g → apply (inverse_gate g) (apply g ψ) ≡ (λ w. √2^ (is_h g + is_h g) (ψ w))
unfolding apply inverse_gate √2^
undo_gate n (one u q) ψ l = fun_ext (undo_one u q ψ)
undo_gate n (two CX a b) ψ l = fun_ext (λ w. ap ψ (cx_cx a b w l.2))
undo_gate n (two CZ a b) ψ l = fun_ext (λ w. go (bit a w && bit b w) (ψ w))
  where
    go : (t : Bool) (x : Zω) → cond t (ω^ 4 (cond t (ω^ 4 x) x)) (cond t (ω^ 4 x) x) ≡ x
    go true x = simp turns
    go false x = refl
undo_gate n (two SWAP a b) ψ l = fun_ext (λ w. ap ψ (swap_swap a b w l.2))

-- a list and then its inverse is the identity, times 2 once for each H gate
pub undo : (n : ℕ) (gs : List Gate) (ψ : State) → AllWithin n gs →
    run (inverse_list gs) (run gs ψ) ≡ (λ w. √2^ (h_gates gs + h_gates gs) (ψ w))
unfolding run tally
undo n [] ψ l = unfold inverse_list √2^ in refl
undo n (g ∷ gs) ψ l =
    ap (λ xs. run xs (run gs (apply g ψ))) (inverse_cons g gs)
    ∙ run-append (inverse_list gs) (inverse_gate g ∷ []) (run gs (apply g ψ))
    ∙ ap (apply (inverse_gate g)) (undo n gs (apply g ψ) l.1)
    ∙ apply-√2^ (h_gates gs + h_gates gs) (inverse_gate g) (apply g ψ)
    ∙ ap {B = State} (λ χ w. √2^ (h_gates gs + h_gates gs) (χ w)) (undo_gate n g ψ l.0)
    ∙ fun_ext (λ w. sym (√2^-add (h_gates gs + h_gates gs) (is_h g + is_h g) (ψ w)) ∙ ap (λ m. √2^ m (ψ w)) (doubles (h_gates gs) (is_h g)))
  where
    doubles : (h k : ℕ) → (h + h) + (k + k) ≡ (k + h) + (k + h)
    doubles h k = omega arith

-- an inverse and then its list is the identity, times 2 once for each H gate
pub redo : (n : ℕ) (gs : List Gate) (ψ : State) → AllWithin n gs →
    run gs (run (inverse_list gs) ψ) ≡ (λ w. √2^ (h_gates gs + h_gates gs) (ψ w))
redo n gs ψ l = rw (inverse-inverse, h_gates-inverse) at (undo n (inverse_list gs) ψ (within_inverse n gs l))
