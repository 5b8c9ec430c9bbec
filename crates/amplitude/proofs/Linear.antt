-- Running a gate list is linear: it passes sums of states, factors, powers of ω and powers of √2 through. Also lists joined, and the
-- weights of an inverse list.
-- Assumes nothing.
use mathlib.Core.Path.{◌≡◌, refl, sym, ◌∙◌, ap, fun_ext}
use mathlib.Core.Bool.{Bool, true, false, cond, ◌&&◌}
use mathlib.Core.List.{List, [], ◌∷◌, ◌++◌}
use Prim.Native.Nat.{ℕ, ◌+◌}
use native.Mathlib.Omega.{arith}
use Rattle.record_format.specs.Gate.{OneQubit, X, Y, Z, S, S†, T, T†, H, Gate, one, two, CX, CZ, SWAP, one_qubit_kind, inverse_kind, inverse_gate, inverse_list, shift_gate, shift_list}
use Rattle.record_format.proofs.GateLaws.{inverse_cons}
use Rattle.amplitude.specs.Number.{Zω, 0ω, ◌+ω◌, ◌*ω◌, ω^, √2^}
use Rattle.amplitude.specs.Bits.{bit, put}
use Rattle.amplitude.specs.Matrix.{Entry, O, ω, matrix, times, row}
use Rattle.amplitude.specs.Circuit.{State, apply, run, tally, is_h, is_t, h_gates, t_gates}
use Rattle.amplitude.proofs.BitLaws.{bit_put_same, put_put_same}
use Rattle.amplitude.proofs.NumberLaws.{+ω_idl, +ω_swap, ω^-+ω, ω^-0ω, ω^_comm, √2^-+ω, √2^-0ω, √2^-ω^}
use Rattle.amplitude.proofs.ProductLaws.{*ω_comm, *ω-+ω, *ω-0ω, *ω-ω^}

-- a map of numbers that keeps 0, sums and turns by ω
pub record Linear (f : Zω → Zω) : Type 0 where
  pub zero : f 0ω ≡ 0ω
  pub sum : (x y : Zω) → f (x +ω y) ≡ f x +ω f y
  pub turn : (k : ℕ) (x : Zω) → f (ω^ k x) ≡ ω^ k (f x)

-- multiplication by a power of ω is linear
pub linear_ω^ : (k : ℕ) → Linear (ω^ k)
linear_ω^ k = record { zero = ω^-0ω k; sum = ω^-+ω k; turn = ω^_comm k }

-- multiplication by a power of √2 is linear
pub linear_√2^ : (k : ℕ) → Linear (√2^ k)
linear_√2^ k = record { zero = √2^-0ω k; sum = √2^-+ω k; turn = √2^-ω^ k }

-- multiplication by a number is linear
pub linear_*ω : (z : Zω) → Linear (λ x. z *ω x)
linear_*ω z = record { zero = *ω-0ω z; sum = *ω-+ω z; turn = λ k. *ω-ω^ k z }

-- and so from the other side
pub linear_ω* : (z : Zω) → Linear (λ x. x *ω z)
linear_ω* z = rw (fun_ext (λ x. *ω_comm x z)) (linear_*ω z)

-- the map to 0 is linear
pub linear_0ω : Linear (λ x. 0ω)
linear_0ω = record { zero = refl; sum = λ x y. sym (+ω_idl 0ω); turn = λ k x. sym (ω^-0ω k) }

-- an entry times 0
pub times-0ω : (e : Entry) → times e 0ω ≡ 0ω
unfolding times
times-0ω O = refl
times-0ω (ω k) = ω^-0ω k

-- a linear map commutes with an entry
pub times_linear : (f : Zω → Zω) → Linear f → (e : Entry) (x : Zω) → times e (f x) ≡ f (times e x)
unfolding times
times_linear f l O x = sym l.zero
times_linear f l (ω k) x = sym (l.turn k x)

-- an entry times a sum
times-+ω : (e : Entry) (x y : Zω) → times e (x +ω y) ≡ times e x +ω times e y
unfolding times
times-+ω O x y = sym (+ω_idl 0ω)
times-+ω (ω k) x y = ω^-+ω k x y

-- ω^0 changes nothing
pub ω^_zero : (x : Zω) → ω^ 0 x ≡ x
unfolding ω^
ω^_zero x = refl

-- a one-qubit gate at the output whose bit q is b: row b on the numbers at both values of bit q
pub apply_one : (u : OneQubit) (q : ℕ) (ψ : State) (b : Bool) (w : ℕ) →
    apply (one u q) ψ (put q b w) ≡ row (matrix u) b (ψ (put q false w)) (ψ (put q true w))
unfolding apply
apply_one u q ψ b w = simp (bit_put_same, put_put_same)

-- a linear map commutes with a turn by ω⁴ under a condition
pub cond_linear : (f : Zω → Zω) → Linear f → (t : Bool) (x : Zω) → cond t (ω^ 4 (f x)) (f x) ≡ f (cond t (ω^ 4 x) x)
cond_linear f l true x = sym (l.turn 4 x)
cond_linear f l false x = refl

-- a gate commutes with a linear map
pub apply_linear : (f : Zω → Zω) → Linear f → (g : Gate) (ψ : State) → apply g (λ w. f (ψ w)) ≡ (λ w. f (apply g ψ w))
unfolding apply
apply_linear f l (one u q) ψ = fun_ext (λ w. simp (times_linear f l) (sym (l.sum _ _)))
apply_linear f l (two CX a b) ψ = refl
apply_linear f l (two CZ a b) ψ = fun_ext (λ w. cond_linear f l (bit a w && bit b w) (ψ w))
apply_linear f l (two SWAP a b) ψ = refl

-- a gate passes a sum of states through
apply-+ω : (g : Gate) (φ ψ : State) → apply g (λ w. φ w +ω ψ w) ≡ (λ w. apply g φ w +ω apply g ψ w)
unfolding apply
apply-+ω (one u q) φ ψ = fun_ext (λ w. simp times-+ω (+ω_swap _ _ _ _))
apply-+ω (two CX a b) φ ψ = refl
apply-+ω (two CZ a b) φ ψ = fun_ext (λ w. go (bit a w && bit b w) (φ w) (ψ w))
  where
    go : (t : Bool) (x y : Zω) → cond t (ω^ 4 (x +ω y)) (x +ω y) ≡ cond t (ω^ 4 x) x +ω cond t (ω^ 4 y) y
    go true x y = ω^-+ω 4 x y
    go false x y = refl
apply-+ω (two SWAP a b) φ ψ = refl

-- a gate commutes with a power of √2
pub apply-√2^ : (k : ℕ) (g : Gate) (ψ : State) → apply g (λ w. √2^ k (ψ w)) ≡ (λ w. √2^ k (apply g ψ w))
apply-√2^ k g ψ = apply_linear (√2^ k) (linear_√2^ k) g ψ

-- a list commutes with a linear map
pub run_linear : (f : Zω → Zω) → Linear f → (gs : List Gate) (ψ : State) → run gs (λ w. f (ψ w)) ≡ (λ w. f (run gs ψ w))
unfolding run
run_linear f l [] ψ = refl
run_linear f l (g ∷ gs) ψ = ap (run gs) (apply_linear f l g ψ) ∙ run_linear f l gs (apply g ψ)

-- a list passes a sum of states through
pub run-+ω : (gs : List Gate) (φ ψ : State) → run gs (λ w. φ w +ω ψ w) ≡ (λ w. run gs φ w +ω run gs ψ w)
unfolding run
run-+ω [] φ ψ = refl
run-+ω (g ∷ gs) φ ψ = ap (run gs) (apply-+ω g φ ψ) ∙ run-+ω gs (apply g φ) (apply g ψ)

-- a list commutes with a power of ω
pub run-ω^ : (k : ℕ) (gs : List Gate) (ψ : State) → run gs (λ w. ω^ k (ψ w)) ≡ (λ w. ω^ k (run gs ψ w))
run-ω^ k gs ψ = run_linear (ω^ k) (linear_ω^ k) gs ψ

-- a list commutes with a power of √2
pub run-√2^ : (k : ℕ) (gs : List Gate) (ψ : State) → run gs (λ w. √2^ k (ψ w)) ≡ (λ w. √2^ k (run gs ψ w))
run-√2^ k gs ψ = run_linear (√2^ k) (linear_√2^ k) gs ψ

-- two lists joined run one after the other
pub run-append : (xs ys : List Gate) (ψ : State) → run (xs ++ ys) ψ ≡ run ys (run xs ψ)
unfolding run
run-append [] ys ψ = refl
run-append (x ∷ xs) ys ψ = run-append xs ys (apply x ψ)

-- a weight of two lists joined is the sum of theirs
pub tally-append : (f : Gate → ℕ) (xs ys : List Gate) → tally f (xs ++ ys) ≡ tally f xs + tally f ys
unfolding tally
tally-append f [] ys = omega arith
tally-append f (x ∷ xs) ys = rw (tally-append f xs ys) (omega arith)

-- a weight that inverting a gate keeps is kept by inverting a list
pub tally-inverse : (f : Gate → ℕ) → ((g : Gate) → f (inverse_gate g) ≡ f g) → (gs : List Gate) → tally f (inverse_list gs) ≡ tally f gs
unfolding tally
tally-inverse f same [] = unfold inverse_list in refl
tally-inverse f same (g ∷ gs) = rw (inverse_cons g gs, tally-append, tally-inverse f same gs, same g) (omega arith)

-- the inverse of a kind is an H or a T gate where the kind is
pub kinds_inverse : (u : OneQubit) (q : ℕ) → (is_h (one (inverse_kind u) q) ≡ is_h (one u q)) × (is_t (one (inverse_kind u) q) ≡ is_t (one u q))
unfolding inverse_kind one_qubit_kind
kinds_inverse X q = (refl, refl)
kinds_inverse Y q = (refl, refl)
kinds_inverse Z q = (refl, refl)
kinds_inverse S q = (refl, refl)
kinds_inverse S† q = (refl, refl)
kinds_inverse T q = (refl, refl)
kinds_inverse T† q = (refl, refl)
kinds_inverse H q = (refl, refl)

-- an inverse list has as many H gates
pub h_gates-inverse : (gs : List Gate) → h_gates (inverse_list gs) ≡ h_gates gs
unfolding inverse_gate
h_gates-inverse gs = tally-inverse is_h same gs
  where
    same : (g : Gate) → is_h (inverse_gate g) ≡ is_h g
    same (one u q) = (kinds_inverse u q).0
    same (two v a b) = refl

-- an inverse list has as many T gates
pub t_gates-inverse : (gs : List Gate) → t_gates (inverse_list gs) ≡ t_gates gs
unfolding inverse_gate
t_gates-inverse gs = tally-inverse is_t same gs
  where
    same : (g : Gate) → is_t (inverse_gate g) ≡ is_t g
    same (one u q) = (kinds_inverse u q).1
    same (two v a b) = refl

-- a weight that qubits further on leave as it is stays that of the list
pub tally_shift : (f : Gate → ℕ) (k : ℕ) → ((g : Gate) → f (shift_gate k g) ≡ f g) → (gs : List Gate) → tally f (shift_list k gs) ≡ tally f gs
unfolding tally shift_list
tally_shift f k same [] = refl
tally_shift f k same (g ∷ gs) = rw (tally_shift f k same gs, same g)

-- a gate is an H or a T gate whatever its qubits
gate_shift : (k : ℕ) (g : Gate) → (is_h (shift_gate k g) ≡ is_h g) × (is_t (shift_gate k g) ≡ is_t g)
unfolding shift_gate
gate_shift k (one X a) = (refl, refl)
gate_shift k (one Y a) = (refl, refl)
gate_shift k (one Z a) = (refl, refl)
gate_shift k (one S a) = (refl, refl)
gate_shift k (one S† a) = (refl, refl)
gate_shift k (one T a) = (refl, refl)
gate_shift k (one T† a) = (refl, refl)
gate_shift k (one H a) = (refl, refl)
gate_shift k (two CX a b) = (refl, refl)
gate_shift k (two CZ a b) = (refl, refl)
gate_shift k (two SWAP a b) = (refl, refl)

-- qubits further on leave the H gates of a list
pub h_gates_shift : (k : ℕ) (gs : List Gate) → h_gates (shift_list k gs) ≡ h_gates gs
h_gates_shift k = tally_shift is_h k (λ g. (gate_shift k g).0)

-- and its T gates
pub t_gates_shift : (k : ℕ) (gs : List Gate) → t_gates (shift_list k gs) ≡ t_gates gs
t_gates_shift k = tally_shift is_t k (λ g. (gate_shift k g).1)
