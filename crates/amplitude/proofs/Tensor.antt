-- Two lists side by side, the second's qubits numbered after the first's n, multiply entry by entry: the first acts on an output's rest by
-- 2^n, the second on its quotient, and each leaves the other's part alone.
-- Assumes nothing.
use mathlib.Core.Path.{◌≡◌, refl, sym, ◌∙◌, ap, fun_ext}
use mathlib.Core.Bool.{Bool, ◌&&◌}
use mathlib.Core.List.{List, [], ◌∷◌, ◌++◌}
use Prim.Native.Nat.{ℕ, ◌+◌, ◌*◌, ◌/◌, ◌%◌, ◌^◌, ◌<◌}
use native.Mathlib.Nat.{add_comm, mod-lt, mod-add-div}
use native.Mathlib.Decide.{ℕ_discrete}
use lib.Pow.{pow_pos, shr_lt}
use Rattle.record_format.specs.Gate.{OneQubit, TwoQubit, Gate, one, two, CX, CZ, SWAP, Within, AllWithin, shift_gate, shift_list}
use Rattle.amplitude.specs.Number.{Zω, ◌*ω◌}
use Rattle.amplitude.specs.Bits.{bit, put}
use Rattle.amplitude.specs.Circuit.{State, basis, apply, run, column}
use Rattle.amplitude.specs.Composition.{TensorProduct}
use Rattle.amplitude.proofs.ProductLaws.{*ω-1ω}
use Rattle.amplitude.proofs.BlockLaws.{bit_low, bit_high, put_low, put_low_high, put_high, put_high_low, joined_low, joined_high}
use Rattle.amplitude.proofs.Linear.{Linear, linear_*ω, linear_ω*, times_linear, cond_linear, run-append}
use Rattle.amplitude.proofs.Outside.{basis_same, basis_other}

-- qubit q of a number is qubit p of a part of it: it is read there and put there, and what is beside the part stays
record Lies (part beside : ℕ → ℕ) (q p : ℕ) : Type 0 where
  reads : (x : ℕ) → bit q x ≡ bit p (part x)
  puts : (b : Bool) (x : ℕ) → part (put q b x) ≡ put p b (part x)
  keeps : (b : Bool) (x : ℕ) → beside (put q b x) ≡ beside x

-- A state of the part made one of the whole, by a linear map for each value of what is beside.
module _ (part beside : ℕ → ℕ) (f : ℕ → Zω → Zω) (linear : (y : ℕ) → Linear (f y)) where
  -- the state of the whole
  abbrev spread : State → State
  spread φ x = f (beside x) (φ (part x))

  -- a one-qubit gate on the whole acts on the part
  spread_one : (u : OneQubit) {q p : ℕ} (φ : State) → Lies part beside q p → apply (one u q) (spread φ) ≡ spread (apply (one u p) φ)
  unfolding apply
  spread_one u φ l =
      fun_ext
      (λ x.
      simp (l.reads x, l.puts, l.keeps, times_linear (f (beside x)) (linear (beside x))) (sym ((linear (beside x)).sum _ _)))

  -- so does a two-qubit gate
  spread_two :
      (v : TwoQubit) {a b c d : ℕ} (φ : State) → Lies part beside a c → Lies part beside b d →
      apply (two v a b) (spread φ) ≡ spread (apply (two v c d) φ)
  unfolding apply
  spread_two CX φ l m = fun_ext (λ x. simp (l.reads, m.reads, m.puts, m.keeps))
  spread_two CZ {c = c} {d = d} φ l m =
      fun_ext
      (λ x.
      rw (l.reads x, m.reads x) (cond_linear (f (beside x)) (linear (beside x)) (bit c (part x) && bit d (part x)) (φ (part x))))
  spread_two SWAP φ l m = fun_ext (λ x. simp (l.reads, l.puts, l.keeps, m.reads, m.puts, m.keeps))

-- a qubit below n lies in the rest by 2^n
in_low : (n q : ℕ) → q < n → Lies (λ x. x % 2 ^ n) (λ x. x / 2 ^ n) q q
in_low n q l =
    record { reads = λ x. sym (bit_low n q x l); puts = λ b x. put_low n q b x l; keeps = λ b x. put_low_high n q b x l }

-- one numbered n further on lies in the quotient
in_high : (n q : ℕ) → Lies (λ x. x / 2 ^ n) (λ x. x % 2 ^ n) (n + q) q
in_high n q = record { reads = bit_high n q; puts = put_high n q; keeps = put_high_low n q }

-- two states side by side
tensor : ℕ → State → State → State
tensor n φ χ x = φ (x % 2 ^ n) *ω χ (x / 2 ^ n)

-- a gate over the first n qubits acts on the first state
apply_first : (n : ℕ) (g : Gate) (φ χ : State) → Within n g → apply g (tensor n φ χ) ≡ tensor n (apply g φ) χ
unfolding tensor
apply_first n (one u a) φ χ l = spread_one _ _ _ (λ y. linear_ω* (χ y)) u φ (in_low n a l)
apply_first n (two v a b) φ χ l = spread_two _ _ _ (λ y. linear_ω* (χ y)) v φ (in_low n a l.0) (in_low n b l.1)

-- a gate numbered n further on acts on the second
apply_second : (n : ℕ) (g : Gate) (φ χ : State) → apply (shift_gate n g) (tensor n φ χ) ≡ tensor n φ (apply g χ)
unfolding shift_gate tensor
apply_second n (one u a) φ χ = spread_one _ _ _ (λ y. linear_*ω (φ y)) u χ (in_high n a)
apply_second n (two v a b) φ χ = spread_two _ _ _ (λ y. linear_*ω (φ y)) v χ (in_high n a) (in_high n b)

-- so does a list over the first n qubits
run_first : (n : ℕ) (gs : List Gate) (φ χ : State) → AllWithin n gs → run gs (tensor n φ χ) ≡ tensor n (run gs φ) χ
unfolding run
run_first n [] φ χ l = refl
run_first n (g ∷ gs) φ χ l = ap (run gs) (apply_first n g φ χ l.0) ∙ run_first n gs (apply g φ) χ l.1

-- and one numbered n further on
run_second : (n : ℕ) (gs : List Gate) (φ χ : State) → run (shift_list n gs) (tensor n φ χ) ≡ tensor n φ (run gs χ)
unfolding run shift_list
run_second n [] φ χ = refl
run_second n (g ∷ gs) φ χ = ap (run (shift_list n gs)) (apply_second n g φ χ) ∙ run_second n gs φ (apply g χ)

-- a joined input is two inputs side by side
basis_joined : (n v v' : ℕ) → v < 2 ^ n → basis (v + 2 ^ n * v') ≡ tensor n (basis v) (basis v')
unfolding tensor
basis_joined n v v' l = fun_ext (λ x. pick x (ℕ_discrete (x % 2 ^ n) v) (ℕ_discrete (x / 2 ^ n) v'))
  where
    pick :
        (x : ℕ) → Dec (x % 2 ^ n ≡ v) → Dec (x / 2 ^ n ≡ v') →
        basis (v + 2 ^ n * v') x ≡ basis v (x % 2 ^ n) *ω basis v' (x / 2 ^ n)
    pick x (yes e) (yes f) = rw (← e, ← f, mod-add-div) (simp (basis_same, *ω-1ω))
    pick x (no e) f =
        rw (basis_other (v + 2 ^ n * v') x (λ h. e (rw h (joined_low n v v' l))), basis_other v (x % 2 ^ n) e)
        (sym (linear_ω* (basis v' (x / 2 ^ n))).zero)
    pick x (yes e) (no f) =
        rw (basis_other (v + 2 ^ n * v') x (λ h. f (rw h (joined_high n v v' l))), basis_other v' (x / 2 ^ n) f)
        (sym (linear_*ω (basis v (x % 2 ^ n))).zero)

-- two states side by side have, at a joined output, the product of theirs
tensor_joined : (n : ℕ) (φ χ : State) (w w' : ℕ) → w < 2 ^ n → tensor n φ χ (w + 2 ^ n * w') ≡ φ w *ω χ w'
unfolding tensor
tensor_joined n φ χ w w' l = rw (joined_low n w w' l, joined_high n w w' l)

-- the join in space is the tensor product
pub in_space : (n m : ℕ) (first second : List Gate) → AllWithin n first → TensorProduct n m first second (first ++ shift_list n second)
unfolding column
in_space n m first second l v w v' w' hv hw hv' hw' =
    ap (λ (ψ : State). ψ (w + 2 ^ n * w'))
    (run-append first (shift_list n second) (basis (v + 2 ^ n * v'))
    ∙ ap (λ (ψ : State). run (shift_list n second) (run first ψ)) (basis_joined n v v' hv)
    ∙ ap (run (shift_list n second)) (run_first n first (basis v) (basis v') l)
    ∙ run_second n second (run first (basis v)) (basis v'))
    ∙ tensor_joined n (run first (basis v)) (run second (basis v')) w w' hw

-- every input of n + m qubits is a joined one
pub every_joined :
    (n m x : ℕ) → x < 2 ^ (n + m) → (x % 2 ^ n < 2 ^ n) × (x / 2 ^ n < 2 ^ m) × (x % 2 ^ n + 2 ^ n * (x / 2 ^ n) ≡ x)
every_joined n m x l = (mod-lt x (pow_pos n), shr_lt m n (rw (add_comm m n) l), mod-add-div x (2 ^ n))
