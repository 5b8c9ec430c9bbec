-- Ready stays ready: every term of odd coefficient keeps to the sets that it may have. In a sum where all variables are ready those
-- are sets of inputs; in a sum without T gates there are none.
-- Assumes nothing.
use mathlib.Core.Path.{◌≡◌, refl, sym, ◌∙◌}
use mathlib.Core.Bool.{Bool, true, false, cond, true≢false, or-true}
use mathlib.Core.List.{List, [], ◌∷◌}
use Prim.Native.Nat.{ℕ, ◌+◌, ◌%◌, ◌≤◌}
use native.Mathlib.Omega.{arith}
use lib.Dec.{eqb}
use lib.ListN.{length}
use borrow.Author.Tests.{eqb-true, eqb-false, eq-eqb}
use Rattle.record_format.specs.Gate.{Gate, one, two, X, Y, Z, S, S†, T, T†, H, CX, CZ, SWAP, one_qubit_kind}
use Rattle.amplitude.specs.Bits.{bit}
use Rattle.amplitude.specs.Circuit.{tally, is_t, t_gates}
use Rattle.phase_sum_meaning.specs.Sets.{single}
use Rattle.phase_sum_meaning.specs.Parity.{Parity, of, ◌⊕◌, replace_in}
use Rattle.phase_sum_meaning.specs.Phase.{Term, Phase, minus, keep, merge, add_term, add_constant, add_phase, rebuild, in_odd}
use Rattle.phase_sum_meaning.specs.Building.{PathSum, initial, wire, set_wire, with_phase, product_by, hadamard_by, gate_by, gate, gates_from, build}
use Rattle.phase_sum_meaning.specs.Stepping.{replace, out_of, take_out, turned}
use Rattle.phase_sum_meaning.proofs.ParityLaws.{replace_in_absent}
use Rattle.phase_sum_meaning.proofs.PhaseLaws.{keep_cases, merge_cases, Every, every_map}

-- every term of odd coefficient has a set with P
abbrev pub OddIn : (ℕ → Type 0) → List Term → Type 0
OddIn P ts = Every (λ t. t.coeff % 2 ≡ 1 → P t.set) ts

-- a set of inputs alone
abbrev pub InputsOnly : ℕ → ℕ → Type 0
InputsOnly n s = (v : ℕ) → n ≤ v → bit v s ≡ false

-- no coefficient is odd
abbrev pub NoOdd : List Term → Type 0
NoOdd ts = OddIn (λ s. ⊥) ts

-- a term kept has an odd coefficient only where the one that was given is odd
odd_in_keep : (P : ℕ → Type 0) (s c : ℕ) (ts : List Term) → OddIn P ts → (c % 2 ≡ 1 → P s) → OddIn P (keep s c ts)
odd_in_keep P s c ts e h = keep_cases (OddIn P) s c ts (λ z. e) (λ z. (λ odd. h (omega arith), e))

-- a merged coefficient is odd only where one of the two at its set is
pub odd_in_merge : (P : ℕ → Type 0) (s c : ℕ) (ts : List Term) → OddIn P ts → (c % 2 ≡ 1 → P s) → OddIn P (merge s c ts)
unfolding merge
odd_in_merge P s c [] e h = odd_in_keep P s c [] e h
odd_in_merge P s c (t ∷ ts) e h =
    merge_cases
    (OddIn P)
    s
    c
    t
    ts
    (λ l. odd_in_keep P s c (t ∷ ts) e h)
    (λ q. odd_in_keep P s (c + t.coeff) ts e.1 (λ odd. go (eqb (c % 2) 1) refl q odd))
    (λ l. (e.0, odd_in_merge P s c ts e.1 h))
  where
    go : (b : Bool) → eqb (c % 2) 1 ≡ b → s ≡ t.set → (c + t.coeff) % 2 ≡ 1 → P s
    go true k q odd = h (eqb-true (c % 2) 1 k)
    go false k q odd = rw q (e.0 (omega (arith, eqb-false (c % 2) 1 k)))

-- the same of a term added
pub odd_in_add_term :
    (P : ℕ → Type 0) (s c : ℕ) (φ : Phase) → OddIn P φ.terms → (c % 2 ≡ 1 → P s) → OddIn P (add_term s c φ).terms
unfolding add_term
odd_in_add_term P s c φ e h = go (eqb s 0)
  where
    go : (b : Bool) → OddIn P (cond b φ.terms (merge s c φ.terms))
    go true = e
    go false = odd_in_merge P s c φ.terms e h

-- the same of a phase added on a parity: minus a coefficient is odd where the coefficient is
pub odd_in_add_phase :
    (P : ℕ → Type 0) (c : ℕ) (p : Parity) (φ : Phase) →
    OddIn P φ.terms →
    (c % 2 ≡ 1 → P p.vars) →
    OddIn P (add_phase c p φ).terms
unfolding add_phase add_constant
odd_in_add_phase P c p φ e h = go p.flipped
  where
    go : (b : Bool) → OddIn P (cond b (add_term p.vars (minus c) (add_constant c φ)) (add_term p.vars c φ)).terms
    go true = odd_in_add_term P p.vars (minus c) (add_constant c φ) e (λ odd. h (omega arith))
    go false = odd_in_add_term P p.vars c φ e h

-- a phase rebuilt keeps its odd coefficients on sets with P where each set with P is sent to one
pub odd_in_rebuild :
    (P : ℕ → Type 0) (f : ℕ → Parity) (k : ℕ) (ts : List Term) →
    OddIn P ts →
    ((s : ℕ) → P s → P (f s).vars) →
    OddIn P (rebuild f k ts).terms
unfolding rebuild
odd_in_rebuild P f k [] e send = tt
odd_in_rebuild P f k (t ∷ ts) e send =
    odd_in_add_phase P t.coeff (f t.set) (rebuild f k ts) (odd_in_rebuild P f k ts e.1 send) (λ odd. send t.set (e.0 odd))

-- replacing a variable that is no input keeps the odd coefficients on sets of inputs
pub even_replace :
    (n z : ℕ) (p : Parity) (s : PathSum) →
    n ≤ z →
    OddIn (InputsOnly n) s.phase.terms →
    OddIn (InputsOnly n) (replace z p s).phase.terms
unfolding replace
even_replace n z p s l e =
    odd_in_rebuild (InputsOnly n) (λ u. replace_in z p (of u)) s.phase.constant s.phase.terms e
    (λ u h. rw (replace_in_absent z p (of u) (h z l)) h)

-- so does taking one out
pub even_take_out :
    (n y : ℕ) (s : PathSum) → n ≤ y → OddIn (InputsOnly n) s.phase.terms → OddIn (InputsOnly n) (take_out y s).phase.terms
unfolding take_out out_of
even_take_out n y s l e =
    odd_in_rebuild (InputsOnly n) (λ u. of (out_of y u)) s.phase.constant s.phase.terms e (λ u h. rw (h y l) h)

-- so does the phase of a turn, whose coefficient is even
pub even_turned :
    (n k l : ℕ) (s : PathSum) → OddIn (InputsOnly n) s.phase.terms → OddIn (InputsOnly n) (turned k l s).phase.terms
unfolding turned add_constant
even_turned n k l s e = odd_in_add_term (InputsOnly n) l (cond (eqb k 1) 6 2) (add_constant (cond (eqb k 1) 1 7) s.phase) e (go (eqb k 1))
  where
    go : (b : Bool) → cond b 6 2 % 2 ≡ 1 → InputsOnly n l
    go true odd = absurd (omega arith)
    go false odd = absurd (omega arith)

-- where the odd coefficients are on sets of inputs, no other variable is in one of those
pub even_ready : (n v : ℕ) (ts : List Term) → OddIn (InputsOnly n) ts → n ≤ v → in_odd v ts ≡ false
unfolding in_odd
even_ready n v [] e l = refl
even_ready n v (t ∷ ts) e l = go (bit v t.set) (eqb (t.coeff % 2) 1) refl refl (even_ready n v ts e.1 l)
  where
    go : (a b : Bool) → bit v t.set ≡ a → eqb (t.coeff % 2) 1 ≡ b → in_odd v ts ≡ false → in_odd v (t ∷ ts) ≡ false
    go true true h k later = absurd (true≢false (sym h ∙ e.0 (eqb-true (t.coeff % 2) 1 k) v l))
    go true false h k later = rw (h, k) later
    go false b h k later = rw h later

-- and the other way round
pub ready_even : (n : ℕ) (ts : List Term) → ((v : ℕ) → n ≤ v → in_odd v ts ≡ true → ⊥) → OddIn (InputsOnly n) ts
unfolding in_odd
ready_even n [] h = tt
ready_even n (t ∷ ts) h = (λ odd v l. go v l odd (bit v t.set) refl, ready_even n ts (λ v l e. h v l (rw (e, or-true))))
  where
    go : (v : ℕ) → n ≤ v → t.coeff % 2 ≡ 1 → (b : Bool) → bit v t.set ≡ b → bit v t.set ≡ false
    go v l odd true k = absurd (h v l (rw (k, eq-eqb (t.coeff % 2) 1 odd)))
    go v l odd false k = k

-- where no coefficient is odd, there is nothing to show of those that are
pub no_odd_even : (n : ℕ) (ts : List Term) → NoOdd ts → OddIn (InputsOnly n) ts
no_odd_even n ts e = every_map _ _ ts (λ t none odd. absurd (none odd)) e

-- replacing a variable brings no odd coefficient
pub no_odd_replace : (z : ℕ) (p : Parity) (s : PathSum) → NoOdd s.phase.terms → NoOdd (replace z p s).phase.terms
unfolding replace
no_odd_replace z p s e =
    odd_in_rebuild (λ u. ⊥) (λ u. replace_in z p (of u)) s.phase.constant s.phase.terms e (λ u none. none)

-- an even phase on a parity brings none
no_odd_add_phase : (c : ℕ) (p : Parity) (φ : Phase) → c % 2 ≡ 0 → NoOdd φ.terms → NoOdd (add_phase c p φ).terms
no_odd_add_phase c p φ even e = odd_in_add_phase (λ u. ⊥) c p φ e (λ odd. omega arith)

-- nor does 4 on a product of two parities
no_odd_product : (u v : Parity) (s : PathSum) → NoOdd s.phase.terms → NoOdd (product_by add_phase u v s).phase.terms
unfolding with_phase
no_odd_product u v s e = no_odd_add_phase 6 (◌⊕◌ u v) _ refl (no_odd_add_phase 2 v _ refl (no_odd_add_phase 2 u s.phase refl e))

-- nor does a gate other than T and its inverse
no_odd_gate : (n : ℕ) (g : Gate) (s : PathSum) → is_t g ≡ 0 → NoOdd s.phase.terms → NoOdd (gate n g s).phase.terms
unfolding gate_by set_wire with_phase hadamard_by add_constant one_qubit_kind
no_odd_gate n (one X q) s h e = e
no_odd_gate n (one Y q) s h e = no_odd_add_phase 4 (wire q s) s.phase refl e
no_odd_gate n (one Z q) s h e = no_odd_add_phase 4 (wire q s) s.phase refl e
no_odd_gate n (one S q) s h e = no_odd_add_phase 2 (wire q s) s.phase refl e
no_odd_gate n (one S† q) s h e = no_odd_add_phase 6 (wire q s) s.phase refl e
no_odd_gate n (one T q) s h e = absurd (omega arith)
no_odd_gate n (one T† q) s h e = absurd (omega arith)
no_odd_gate n (one H q) s h e = no_odd_product (wire q s) (of (single (n + length s.live))) s e
no_odd_gate n (two CX a b) s h e = e
no_odd_gate n (two CZ a b) s h e = no_odd_product (wire a s) (wire b s) s e
no_odd_gate n (two SWAP a b) s h e = e

-- nor a list without them
no_odd_gates :
    (n : ℕ) (gs : List Gate) (s : PathSum) →
    t_gates gs ≡ 0 →
    NoOdd s.phase.terms →
    NoOdd (gates_from n gs s).phase.terms
unfolding gates_from tally
no_odd_gates n [] s h e = e
no_odd_gates n (g ∷ gs) s h e = no_odd_gates n gs (gate n g s) (omega arith) (no_odd_gate n g s (omega arith) e)

-- the sum of a list without T gates has no odd coefficient
pub no_odd_build : (scratch n : ℕ) (gs : List Gate) → t_gates gs ≡ 0 → NoOdd (build scratch n gs).phase.terms
unfolding build initial
no_odd_build scratch n gs h = no_odd_gates n gs (initial scratch n) h tt
