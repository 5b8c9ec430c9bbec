-- The sum that a gate list builds is its amplitude, exactly: the sum over the path variables of the powers of ω that the phase
-- gives, over the assignments at which the wires show the output.
-- Assumes nothing.
use mathlib.Core.Path.{◌≡◌, refl, sym, ◌∙◌, ap, ap₂, fun_ext}
use mathlib.Core.Logic.{◌↔◌}
use mathlib.Core.Bool.{Bool, true, false, cond, not, ◌&&◌, xor, and-eq-true_iff, true≢false, false≢true, not-not}
use mathlib.Core.List.{List, [], ◌∷◌, ◌++◌, map}
use Prim.Native.Nat.{ℕ, zero, suc, ◌+◌, ◌*◌, ◌^◌, ◌<◌, ◌≤◌}
use native.Mathlib.Nat.{zero-add, add-zero, add-suc, suc-add, le_of_suc-le-suc}
use native.Mathlib.Numerals.{add-one}
use native.Mathlib.Omega.{arith}
use lib.Dec.{eqb, ltb}
use lib.ListN.{length, get_or, set, length-append, length-set, length-map}
use lib.Seq.{get_or-set_same, get_or-set_other}
use borrow.Author.Tests.{ltb-true, ltb-false, eqb-true, eqb-false, eq-eqb, not-true}
use Rattle.record_format.specs.Gate.{OneQubit, X, Y, Z, S, S†, T, T†, H, Gate, one, two, CX, CZ, SWAP, Within, AllWithin}
use Rattle.amplitude.specs.Number.{Zω, 0ω, 1ω, ◌+ω◌, ω^}
use Rattle.amplitude.specs.Bits.{digit, bit, put, flip}
use Rattle.amplitude.specs.Matrix.{O, ω, rows, matrix, entry, times}
use Rattle.amplitude.specs.Circuit.{State, basis, apply, run, column}
use Rattle.amplitude.proofs.NumberLaws.{+ω_idl, +ω_idr, ω^-0ω, ω^-add, ω^_cong, ω^_eight}
use Rattle.amplitude.proofs.BitLaws.{bit_put_same, bit_put_other, put_bit, put_below, bit_above, bits_ext, bit_zero, bit-power_other, bit-flip_same}
use Rattle.phase_sum_meaning.specs.Sets.{◌△◌, single, from, Clear}
use Rattle.phase_sum_meaning.specs.Parity.{Parity, value, of, ◌⊕◌, complement}
use Rattle.phase_sum_meaning.specs.Phase.{Phase, sum_at, phase_at, add_constant, add_phase}
use Rattle.phase_sum_meaning.specs.Building.{PathSum, input, initial, wire, set_wire, with_phase, phase_by, product_by, hadamard_by, gate_by, gate, gates_from, build}
use Rattle.phase_sum_meaning.specs.Meaning.{sum_over, phasor}
use Rattle.amplitude.proofs.XorLaws.{xor_falseˡ, xor_falseʳ, xor_trueˡ, xor_self, xor_assoc, xor_comm, xor_cancel}
use Rattle.phase_sum_meaning.proofs.SetLaws.{bit-△, parity-single, parity_empty}
use Rattle.phase_sum_meaning.proofs.VariableLaws.{from-length, from_snoc}
use Rattle.phase_sum_meaning.proofs.ParityLaws.{value_of, value-⊕, value-complement, value-flip}
use Rattle.phase_sum_meaning.proofs.PhaseLaws.{Every, Free, every_map, phase_at-add_phase, phase_at-add_constant, sum_at_free, every_add_phase}
use Rattle.phase_sum_meaning.proofs.Summing.{sum_over-ω^, sum_over-+ω, sum_over_snoc, both_pinned}

-- at assignment x the wires of the n qubits show output w, as a test
unfoldable pub reads : ℕ → List Parity → ℕ → ℕ → Bool
reads zero wires w x = true
reads (suc n) wires w x = reads n wires w x && not (xor (value (get_or wires n (of 0)) x) (bit n w))

-- and as a proposition
abbrev pub Reads : ℕ → List Parity → ℕ → ℕ → Type 0
Reads n wires w x = (q : ℕ) → q < n → value (get_or wires q (of 0)) x ≡ bit q w

-- what assignment x adds to the amplitude of output w
abbrev pub path : ℕ → List Parity → Phase → ℕ → ℕ → Zω
path n wires φ w x = cond (reads n wires w x) (phasor φ x) 0ω

-- the state that a sum on n qubits stands for, from input v
unfoldable pub meaning : ℕ → PathSum → ℕ → State
meaning n s v w = sum_over s.live (λ x. path n s.wires s.phase w x) v

-- truth values are equal where each is true as soon as the other is
pub bool_ext : (a b : Bool) → (a ≡ true → b ≡ true) → (b ≡ true → a ≡ true) → a ≡ b
bool_ext true b f g = sym (f refl)
bool_ext false true f g = g refl
bool_ext false false f g = refl

-- the first of two truth values by the second and their exclusive or
pub xor_solve : (a b c : Bool) → xor a b ≡ c → a ≡ xor b c
xor_solve a b c h = sym (xor_cancel b a) ∙ ap (xor b) (xor_comm b a ∙ h)

-- what holds of one number and of every other number holds of all
pub one_or_others : (P : ℕ → Type 0) (a : ℕ) → P a → ((i : ℕ) → (i ≡ a → ⊥) → P i) → (i : ℕ) → P i
one_or_others P a at_a others i = go (eqb i a) refl
  where
    go : (t : Bool) → eqb i a ≡ t → P i
    go true e = rw (eqb-true i a e) at_a
    go false e = others i (eqb-false i a e)

-- so does what holds of two numbers and of every other number
pub two_or_others : (P : ℕ → Type 0) (a b : ℕ) → P a → P b → ((i : ℕ) → (i ≡ a → ⊥) → (i ≡ b → ⊥) → P i) → (i : ℕ) → P i
two_or_others P a b at_a at_b others =
    one_or_others P a at_a (λ i na. one_or_others (λ j. (j ≡ a → ⊥) → P j) b (λ k. at_b) (λ j nb k. others j k nb) i na)

-- where the test holds, the proposition does
pub reads_every : (n : ℕ) (wires : List Parity) (w x : ℕ) → reads n wires w x ≡ true → Reads n wires w x
unfolding reads
reads_every zero wires w x h q l = absurd (omega arith)
reads_every (suc n) wires w x h q l =
    let parts : (reads n wires w x ≡ true) × (not (xor (value (get_or wires n (of 0)) x) (bit n w)) ≡ true) = (and-eq-true_iff _ _).0 h in
    one_or_others (λ i. i < suc n → value (get_or wires i (of 0)) x ≡ bit i w) n
    (λ m. xor_solve _ _ false (not-true _ parts.1) ∙ xor_falseʳ (bit n w))
    (λ i ne m. reads_every n wires w x parts.0 i (omega arith)) q l

-- and only then
pub every_reads : (n : ℕ) (wires : List Parity) (w x : ℕ) → Reads n wires w x → reads n wires w x ≡ true
unfolding reads
every_reads zero wires w x h = refl
every_reads (suc n) wires w x h =
    rw (every_reads n wires w x (λ q l. h q (omega arith)), h n (omega arith), xor_self (bit n w))

-- two tests agree where either output is shown as soon as the other is
pub reads_same : (n : ℕ) (ps qs : List Parity) (w u x y : ℕ) → (Reads n ps w x → Reads n qs u y) → (Reads n qs u y → Reads n ps w x) →
    reads n ps w x ≡ reads n qs u y
reads_same n ps qs w u x y f g =
    bool_ext _ _ (λ h. every_reads n qs u y (f (reads_every n ps w x h))) (λ h. every_reads n ps w x (g (reads_every n qs u y h)))

-- a phase c on a parity turns the power where the parity is 1
pub phasor_turn : (c : ℕ) (p : Parity) (φ : Phase) (x : ℕ) → phasor (add_phase c p φ) x ≡ ω^ (c * digit (value p x)) (phasor φ x)
unfolding phasor
phasor_turn c p φ x =
    ω^_cong (phase_at (add_phase c p φ) x) (c * digit (value p x) + phase_at φ x) 1ω (phase_at-add_phase c p φ x)
    ∙ ω^-add (c * digit (value p x)) (phase_at φ x) 1ω

-- a constant turns it everywhere
pub phasor_constant : (k : ℕ) (φ : Phase) (x : ℕ) → phasor (add_constant k φ) x ≡ ω^ k (phasor φ x)
unfolding phasor
phasor_constant k φ x =
    ω^_cong (phase_at (add_constant k φ) x) (k + phase_at φ x) 1ω (phase_at-add_constant k φ x) ∙ ω^-add k (phase_at φ x) 1ω

-- 2 on each of two bits and 6 on their exclusive or are 4 on their product
pub product_turns : (a b : Bool) (z : Zω) → ω^ (6 * digit (xor a b)) (ω^ (2 * digit b) (ω^ (2 * digit a) z)) ≡ ω^ (4 * digit (a && b)) z
unfolding xor ω^
product_turns true true z = refl
product_turns true false z = ω^_eight z
product_turns false true z = ω^_eight z
product_turns false false z = refl

-- so the phase on the product of two parities negates the power where both are 1
pub phasor_product : (p q : Parity) (φ : Phase) (x : ℕ) →
    phasor (add_phase 6 (◌⊕◌ p q) (add_phase 2 q (add_phase 2 p φ))) x ≡ ω^ (4 * digit (value p x && value q x)) (phasor φ x)
phasor_product p q φ x = simp (phasor_turn, value-⊕) (product_turns (value p x) (value q x) (phasor φ x))

-- what a diagonal gate makes of a state
pub apply_diagonal : (u : OneQubit) (c q : ℕ) (ψ : State) (w : ℕ) → matrix u ≡ rows (ω 0) O O (ω c) →
    apply (one u q) ψ w ≡ ω^ (c * digit (bit q w)) (ψ w)
unfolding apply entry times ω^
apply_diagonal u c q ψ w e = rw e (go (bit q w) refl)
  where
    go : (t : Bool) → bit q w ≡ t →
        times (entry (rows (ω 0) O O (ω c)) t false) (ψ (put q false w)) +ω times (entry (rows (ω 0) O O (ω c)) t true) (ψ (put q true w))
        ≡ ω^ (c * digit t) (ψ w)
    go true h =
        let same : put q true w ≡ w = rw h at (put_bit q w) in
        let once : c * 1 ≡ c = omega arith in
        rw (same, once) (+ω_idl (ω^ c (ψ w)))
    go false h =
        let same : put q false w ≡ w = rw h at (put_bit q w) in
        let none : c * 0 ≡ 0 = omega arith in
        rw (same, none) (+ω_idr (ψ w))

-- what a gate that exchanges the two values of its qubit makes of it
pub apply_crossing : (u : OneQubit) (f : Bool → ℕ) (q : ℕ) (ψ : State) (w : ℕ) → matrix u ≡ rows O (ω (f false)) (ω (f true)) O →
    apply (one u q) ψ w ≡ ω^ (f (bit q w)) (ψ (put q (not (bit q w)) w))
unfolding apply entry times
apply_crossing u f q ψ w e = rw e (go (bit q w))
  where
    go : (t : Bool) →
        times (entry (rows O (ω (f false)) (ω (f true)) O) t false) (ψ (put q false w))
        +ω times (entry (rows O (ω (f false)) (ω (f true)) O) t true) (ψ (put q true w))
        ≡ ω^ (f t) (ψ (put q (not t) w))
    go true = +ω_idr (ω^ (f true) (ψ (put q false w)))
    go false = +ω_idl (ω^ (f false) (ψ (put q true w)))

-- what H makes of it
pub apply_H : (q : ℕ) (ψ : State) (w : ℕ) → apply (one H q) ψ w ≡ ψ (put q false w) +ω ω^ (4 * digit (bit q w)) (ψ (put q true w))
unfolding apply matrix entry times ω^
apply_H q ψ w = go (bit q w)
  where
    go : (t : Bool) →
        times (entry (matrix H) t false) (ψ (put q false w)) +ω times (entry (matrix H) t true) (ψ (put q true w))
        ≡ ψ (put q false w) +ω ω^ (4 * digit t) (ψ (put q true w))
    go true = refl
    go false = refl

-- a phase that turns every assignment shown alike multiplies the state by that power of ω
pub meaning_phase : (n k : ℕ) (φ : Phase) (s : PathSum) (v w : ℕ) →
    ((x : ℕ) → Reads n s.wires w x → phasor φ x ≡ ω^ k (phasor s.phase x)) →
    meaning n (with_phase φ s) v w ≡ ω^ k (meaning n s v w)
unfolding meaning with_phase
meaning_phase n k φ s v w h =
    ap (λ (F : ℕ → Zω). sum_over s.live F v) (fun_ext (λ x. go x (reads n s.wires w x) refl))
    ∙ sum_over-ω^ k s.live (path n s.wires s.phase w) v
  where
    go : (x : ℕ) (t : Bool) → reads n s.wires w x ≡ t → cond t (phasor φ x) 0ω ≡ ω^ k (cond t (phasor s.phase x) 0ω)
    go x true e = h x (reads_every n s.wires w x e)
    go x false e = sym (ω^-0ω k)

-- a phase c on a wire turns where the output's bit is 1
pub meaning_turn : (n c q : ℕ) (s : PathSum) (v w : ℕ) → q < n →
    meaning n (phase_by add_phase c (wire q s) s) v w ≡ ω^ (c * digit (bit q w)) (meaning n s v w)
meaning_turn n c q s v w l =
    meaning_phase n (c * digit (bit q w)) (add_phase c (wire q s) s.phase) s v w
    (λ x r. phasor_turn c (wire q s) s.phase x ∙ ap (λ (t : Bool). ω^ (c * digit t) (phasor s.phase x)) (r q l))

-- 4 on the product of two wires negates where both of the output's bits are 1
pub meaning_product : (n a b : ℕ) (s : PathSum) (v w : ℕ) → a < n → b < n →
    meaning n (product_by add_phase (wire a s) (wire b s) s) v w ≡ ω^ (4 * digit (bit a w && bit b w)) (meaning n s v w)
unfolding with_phase
meaning_product n a b s v w la lb =
    meaning_phase n (4 * digit (bit a w && bit b w)) (product_by add_phase (wire a s) (wire b s) s).phase s v w
    (λ x r.
    phasor_product (wire a s) (wire b s) s.phase x
    ∙ ap₂ (λ (t u : Bool). ω^ (4 * digit (t && u)) (phasor s.phase x)) (r a la) (r b lb))

-- at assignment x the wires but that of q show output w
abbrev pub OthersRead : ℕ → ℕ → List Parity → ℕ → ℕ → Type 0
OthersRead n q wires w x = (i : ℕ) → i < n → (i ≡ q → ⊥) → value (get_or wires i (of 0)) x ≡ bit i w

-- a new parity on wire q, which shows the output's bit where the old one shows b, puts that bit to b
pub reads_set : (n q : ℕ) (wires : List Parity) (p : Parity) (b : Bool) (w x : ℕ) → q < n → length wires ≡ n →
    (OthersRead n q wires w x → (value p x ≡ bit q w) ↔ (value (get_or wires q (of 0)) x ≡ b)) →
    reads n (set wires q p) w x ≡ reads n wires (put q b w) x
reads_set n q wires p b w x l long swap =
    reads_same n (set wires q p) wires w (put q b w) x x
    (λ r.
    one_or_others (λ i. i < n → value (get_or wires i (of 0)) x ≡ bit i (put q b w)) q
    (λ m. (swap (λ i k ne. sym (elsewhere i ne) ∙ r i k)).0 (sym at_q ∙ r q l) ∙ sym (bit_put_same q b w))
    (λ i ne m. sym (elsewhere i ne) ∙ (r i m ∙ sym (bit_put_other i q b w ne))))
    (λ r.
    one_or_others (λ i. i < n → value (get_or (set wires q p) i (of 0)) x ≡ bit i w) q
    (λ m. at_q ∙ (swap (λ i k ne. r i k ∙ bit_put_other i q b w ne)).1 (r q l ∙ bit_put_same q b w))
    (λ i ne m. elsewhere i ne ∙ (r i m ∙ bit_put_other i q b w ne)))
  where
    at_q : value (get_or (set wires q p) q (of 0)) x ≡ value p x
    at_q = ap (λ (o : Parity). value o x) (get_or-set_same wires q p (of 0) (omega arith))

    elsewhere : (i : ℕ) → (i ≡ q → ⊥) → value (get_or (set wires q p) i (of 0)) x ≡ value (get_or wires i (of 0)) x
    elsewhere i ne = ap (λ (o : Parity). value o x) (get_or-set_other wires q i p (of 0) ne)

-- other wires that show an output where the old ones show u give it u's amplitude
pub meaning_wires : (n : ℕ) (wires : List Parity) (s : PathSum) (v w u : ℕ) → ((x : ℕ) → reads n wires w x ≡ reads n s.wires u x) →
    meaning n (record { phase = s.phase; wires = wires; live = s.live }) v w ≡ meaning n s v u
unfolding meaning
meaning_wires n wires s v w u h =
    ap (λ (F : ℕ → Zω). sum_over s.live F v) (fun_ext (λ x. ap (λ (t : Bool). cond t (phasor s.phase x) 0ω) (h x)))

-- so the state is read at the output with that bit put
pub meaning_set : (n q : ℕ) (p : Parity) (b : Bool) (s : PathSum) (v w : ℕ) → q < n → length s.wires ≡ n →
    ((x : ℕ) → OthersRead n q s.wires w x → (value p x ≡ bit q w) ↔ (value (wire q s) x ≡ b)) →
    meaning n (set_wire q p s) v w ≡ meaning n s v (put q b w)
unfolding set_wire
meaning_set n q p b s v w l long swap =
    meaning_wires n (set s.wires q p) s v w (put q b w) (λ x. reads_set n q s.wires p b w x l long (swap x))

-- a complemented wire exchanges the two values of its qubit
pub meaning_complement : (n q : ℕ) (s : PathSum) (v w : ℕ) → q < n → length s.wires ≡ n →
    meaning n (set_wire q (complement (wire q s)) s) v w ≡ meaning n s v (put q (not (bit q w)) w)
meaning_complement n q s v w l long =
    meaning_set n q (complement (wire q s)) (not (bit q w)) s v w l long
    (λ x others. (
      λ h. sym (not-not (value (wire q s) x)) ∙ ap not (sym (value-complement (wire q s) x) ∙ h),
      λ h. value-complement (wire q s) x ∙ (ap not h ∙ not-not (bit q w)),
    ))

-- a wire with another one added adds that bit
pub meaning_add : (n a b : ℕ) (s : PathSum) (v w : ℕ) → a < n → b < n → (a ≡ b → ⊥) → length s.wires ≡ n →
    meaning n (set_wire b (◌⊕◌ (wire b s) (wire a s)) s) v w ≡ meaning n s v (put b (xor (bit a w) (bit b w)) w)
meaning_add n a b s v w la lb ne long =
    meaning_set n b (◌⊕◌ (wire b s) (wire a s)) (xor (bit a w) (bit b w)) s v w lb long
    (λ x others.
    rw (value-⊕, others a la ne) (
      xor_solve (value (wire b s) x) (bit a w) (bit b w),
      λ h. xor_comm (value (wire b s) x) (bit a w) ∙ (ap (xor (bit a w)) h ∙ xor_cancel (bit a w) (bit b w)),
    ))

-- two wires exchanged show the output with the two bits exchanged
pub reads_swap : (n a b : ℕ) (wires : List Parity) (w x : ℕ) → a < n → b < n → (a ≡ b → ⊥) → length wires ≡ n →
    reads n (set (set wires a (get_or wires b (of 0))) b (get_or wires a (of 0))) w x ≡ reads n wires (put a (bit b w) (put b (bit a w) w)) x
reads_swap n a b wires w x la lb ne long =
    reads_same n swapped wires w other x x
    (λ r.
    two_or_others (λ i. i < n → value (get_or wires i (of 0)) x ≡ bit i other) a b
    (λ m. sym at_b ∙ (r b lb ∙ sym bit_a))
    (λ m. sym at_a ∙ (r a la ∙ sym bit_b))
    (λ i na nb m. sym (wire_off i na nb) ∙ (r i m ∙ sym (bit_off i na nb))))
    (λ r.
    two_or_others (λ i. i < n → value (get_or swapped i (of 0)) x ≡ bit i w) a b
    (λ m. at_a ∙ (r b lb ∙ bit_b))
    (λ m. at_b ∙ (r a la ∙ bit_a))
    (λ i na nb m. wire_off i na nb ∙ (r i m ∙ bit_off i na nb)))
  where
    middle : List Parity
    middle = set wires a (get_or wires b (of 0))

    swapped : List Parity
    swapped = set middle b (get_or wires a (of 0))

    other : ℕ
    other = put a (bit b w) (put b (bit a w) w)

    en : b ≡ a → ⊥
    en e = ne (sym e)

    at_a : value (get_or swapped a (of 0)) x ≡ value (get_or wires b (of 0)) x
    at_a =
        ap (λ (o : Parity). value o x)
        (get_or-set_other middle b a (get_or wires a (of 0)) (of 0) ne ∙ get_or-set_same wires a (get_or wires b (of 0)) (of 0) (omega arith))

    at_b : value (get_or swapped b (of 0)) x ≡ value (get_or wires a (of 0)) x
    at_b =
        ap (λ (o : Parity). value o x)
        (get_or-set_same middle b (get_or wires a (of 0)) (of 0) (simp length-set (omega arith)))

    wire_off : (i : ℕ) → (i ≡ a → ⊥) → (i ≡ b → ⊥) → value (get_or swapped i (of 0)) x ≡ value (get_or wires i (of 0)) x
    wire_off i na nb =
        ap (λ (o : Parity). value o x)
        (get_or-set_other middle b i (get_or wires a (of 0)) (of 0) nb ∙ get_or-set_other wires a i (get_or wires b (of 0)) (of 0) na)

    bit_a : bit a other ≡ bit b w
    bit_a = bit_put_same a (bit b w) (put b (bit a w) w)

    bit_b : bit b other ≡ bit a w
    bit_b = bit_put_other b a (bit b w) (put b (bit a w) w) en ∙ bit_put_same b (bit a w) w

    bit_off : (i : ℕ) → (i ≡ a → ⊥) → (i ≡ b → ⊥) → bit i other ≡ bit i w
    bit_off i na nb = bit_put_other i a (bit b w) (put b (bit a w) w) na ∙ bit_put_other i b (bit a w) w nb

-- so the state is read there
pub meaning_swap : (n a b : ℕ) (s : PathSum) (v w : ℕ) → a < n → b < n → (a ≡ b → ⊥) → length s.wires ≡ n →
    meaning n (set_wire b (wire a s) (set_wire a (wire b s) s)) v w ≡ meaning n s v (put a (bit b w) (put b (bit a w) w))
unfolding set_wire
meaning_swap n a b s v w la lb ne long =
    meaning_wires n (set (set s.wires a (wire b s)) b (wire a s)) s v w (put a (bit b w) (put b (bit a w) w))
    (λ x. reads_swap n a b s.wires w x la lb ne long)

-- no truth value is its own complement
pub not_own : (b : Bool) → b ≡ not b → ⊥
not_own true e = true≢false e
not_own false e = false≢true e

-- one wire with the wrong value is enough for the output not to be shown
pub reads_misses : (n q : ℕ) (wires : List Parity) (w x : ℕ) → q < n → value (get_or wires q (of 0)) x ≡ not (bit q w) →
    reads n wires w x ≡ false
reads_misses n q wires w x l h = go (reads n wires w x) refl
  where
    go : (t : Bool) → reads n wires w x ≡ t → reads n wires w x ≡ false
    go true e = absurd (not_own (bit q w) (sym (reads_every n wires w x e q l) ∙ h))
    go false e = e

-- the value of a variable alone
pub value-single : (u x : ℕ) → value (of (single u)) x ≡ bit u x
value-single u x = value_of (single u) x ∙ parity-single u x

-- a turn passes a test
pub turn_cond : (t : Bool) (k : ℕ) (z : Zω) → cond t (ω^ k z) 0ω ≡ ω^ k (cond t z 0ω)
turn_cond true k z = refl
turn_cond false k z = sym (ω^-0ω k)

-- where the new variable shows the output's bit, the old wire's two values give the two summands of H
pub path_split : (n u q : ℕ) (wires : List Parity) (φ : Phase) (w x : ℕ) → q < n → length wires ≡ n → bit u x ≡ bit q w →
    path n (set wires q (of (single u)))
    (add_phase 6 (◌⊕◌ (get_or wires q (of 0)) (of (single u))) (add_phase 2 (of (single u)) (add_phase 2 (get_or wires q (of 0)) φ))) w x
    ≡ path n wires φ (put q false w) x +ω ω^ (4 * digit (bit q w)) (path n wires φ (put q true w) x)
unfolding ω^
path_split n u q wires φ w x l long h =
    rw (phasor_product (get_or wires q (of 0)) (of (single u)) φ x, value-single u x, h) (go (value (get_or wires q (of 0)) x) refl)
  where
    shown : (t : Bool) → value (get_or wires q (of 0)) x ≡ t → reads n (set wires q (of (single u))) w x ≡ reads n wires (put q t w) x
    shown t e = reads_set n q wires (of (single u)) t w x l long (λ others. (λ k. e, λ k. value-single u x ∙ h))

    missed : (t : Bool) → value (get_or wires q (of 0)) x ≡ t → reads n wires (put q (not t) w) x ≡ false
    missed t e = reads_misses n q wires (put q (not t) w) x l (e ∙ sym (ap not (bit_put_same q (not t) w) ∙ not-not t))

    go : (t : Bool) → value (get_or wires q (of 0)) x ≡ t →
        cond (reads n (set wires q (of (single u))) w x) (ω^ (4 * digit (t && bit q w)) (phasor φ x)) 0ω
        ≡ path n wires φ (put q false w) x +ω ω^ (4 * digit (bit q w)) (path n wires φ (put q true w) x)
    go true e =
        rw (shown true e, missed true e, turn_cond (reads n wires (put q true w) x) (4 * digit (bit q w)) (phasor φ x)) (sym (+ω_idl _))
    go false e = rw (shown false e, missed false e, ω^-0ω) (sym (+ω_idr _))

-- a set holds no variable from m on
abbrev pub Below : ℕ → ℕ → Type 0
Below m s = (u : ℕ) → m ≤ u → bit u s ≡ false

-- a sum as building leaves it: its path variables are those from n on, and wires and terms hold no later one
pub record Fresh (n : ℕ) (s : PathSum) : Type 0 where
  pub live : s.live ≡ from n (length s.live)
  pub width : length s.wires ≡ n
  pub wires : (q : ℕ) → q < n → Below (n + length s.live) (wire q s).vars
  pub terms : Every (λ t. Below (n + length s.live) t.set) s.phase.terms

-- flipping a variable that no wire holds changes no output shown
pub reads_free : (n u : ℕ) (wires : List Parity) (w x : ℕ) → ((q : ℕ) → q < n → bit u (get_or wires q (of 0)).vars ≡ false) →
    reads n wires w (flip u x) ≡ reads n wires w x
reads_free n u wires w x free =
    reads_same n wires wires w w (flip u x) x (λ r q l. sym (same q l) ∙ r q l) (λ r q l. same q l ∙ r q l)
  where
    same : (q : ℕ) → q < n → value (get_or wires q (of 0)) (flip u x) ≡ value (get_or wires q (of 0)) x
    same q l = value-flip u (get_or wires q (of 0)) x ∙ rw (free q l) (xor_falseˡ (value (get_or wires q (of 0)) x))

-- flipping a variable that no term holds changes no phase
pub phasor_free : (u : ℕ) (φ : Phase) (x : ℕ) → Free u φ.terms → phasor φ (flip u x) ≡ phasor φ x
unfolding phasor phase_at
phasor_free u φ x free = ap (λ (k : ℕ). ω^ (φ.constant + k) 1ω) (sum_at_free u φ.terms x free)

-- flipping a variable that neither holds changes nothing that an assignment adds
pub path_free : (n u : ℕ) (wires : List Parity) (φ : Phase) (w x : ℕ) → ((q : ℕ) → q < n → bit u (get_or wires q (of 0)).vars ≡ false) →
    Free u φ.terms → path n wires φ w (flip u x) ≡ path n wires φ w x
path_free n u wires φ w x out free =
    ap₂ (λ (t : Bool) (z : Zω). cond t z 0ω) (reads_free n u wires w x out) (phasor_free u φ x free)

-- H: the new variable drops out, and leaves the two summands
pub meaning_hadamard : (n q : ℕ) (s : PathSum) (v w : ℕ) → q < n → Fresh n s →
    meaning n (hadamard_by add_phase (n + length s.live) q s) v w
    ≡ meaning n s v (put q false w) +ω ω^ (4 * digit (bit q w)) (meaning n s v (put q true w))
unfolding meaning hadamard_by with_phase
meaning_hadamard n q s v w l fresh =
    ap (λ (D : ℕ → Zω). D v) (sum_over_snoc s.live (n + length s.live) F)
    ∙ (ap (λ (D : ℕ → Zω). sum_over s.live D v) (both_pinned (n + length s.live) c F G turns free off on)
    ∙ (sum_over-+ω s.live (path n s.wires s.phase (put q false w)) _ v
    ∙ ap (λ (z : Zω). sum_over s.live (path n s.wires s.phase (put q false w)) v +ω z)
    (sum_over-ω^ (4 * digit (bit q w)) s.live (path n s.wires s.phase (put q true w)) v)))
  where
    u : ℕ
    u = n + length s.live

    F : ℕ → Zω
    F x = path n (set s.wires q (of (single u))) (product_by add_phase (wire q s) (of (single u)) s).phase w x

    G : ℕ → Zω
    G x = path n s.wires s.phase (put q false w) x +ω ω^ (4 * digit (bit q w)) (path n s.wires s.phase (put q true w) x)

    c : ℕ → Bool
    c x = xor (bit u x) (bit q w)

    keeps : (y x : ℕ) → path n s.wires s.phase y (flip u x) ≡ path n s.wires s.phase y x
    keeps y x =
        path_free n u s.wires s.phase y x (λ i m. fresh.wires i m u (omega arith))
        (every_map _ _ s.phase.terms (λ t below. below u (omega arith)) fresh.terms)

    wrong : (x : ℕ) → c x ≡ true → value (get_or (set s.wires q (of (single u))) q (of 0)) x ≡ not (bit q w)
    wrong x e =
        let inside : q < length s.wires = omega (arith, fresh.width) in
        rw (get_or-set_same s.wires q (of (single u)) (of 0), value-single u x)
        (xor_solve (bit u x) (bit q w) true e ∙ (xor_comm (bit q w) true ∙ xor_trueˡ (bit q w)))

    turns : (x : ℕ) → c (flip u x) ≡ not (c x)
    turns x = rw (bit-flip_same u x) (simp xor_trueˡ at (xor_assoc true (bit u x) (bit q w)))

    free : (x : ℕ) → G (flip u x) ≡ G x
    free x = ap₂ (λ (y z : Zω). y +ω ω^ (4 * digit (bit q w)) z) (keeps (put q false w) x) (keeps (put q true w) x)

    off : (x : ℕ) → c x ≡ false → F x ≡ G x
    off x e = path_split n u q s.wires s.phase w x l fresh.width (xor_solve (bit u x) (bit q w) false e ∙ xor_falseʳ (bit q w))

    on : (x : ℕ) → c x ≡ true → F x ≡ 0ω
    on x e = rw (reads_misses n q (set s.wires q (of (single u))) w x l (wrong x e))

-- what holds of a new parity and of a wire holds of the wire once the new one is set
pub set_holds : (P : Parity → Type 0) (wires : List Parity) (q : ℕ) (p : Parity) (i : ℕ) → q < length wires →
    P p → P (get_or wires i (of 0)) → P (get_or (set wires q p) i (of 0))
set_holds P wires q p i l new old =
    one_or_others (λ j. P (get_or wires j (of 0)) → P (get_or (set wires q p) j (of 0))) q
    (λ k. rw (get_or-set_same wires q p (of 0) l) new)
    (λ j ne k. rw (get_or-set_other wires q j p (of 0) ne) k) i old

-- the exclusive or of two sets brings no variable
pub below-△ : (m s r : ℕ) → Below m s → Below m r → Below m (s △ r)
below-△ m s r hs hr u l = rw (bit-△, hs u l, hr u l) (xor_self false)

-- a variable below m is one that m allows
pub below-single : (m u : ℕ) → u < m → Below m (single u)
below-single m u l i k = bit-power_other i u (omega arith)

-- a new wire that holds no later variable keeps the sum fresh
pub fresh_set : (n q : ℕ) (p : Parity) (s : PathSum) → q < n → Below (n + length s.live) p.vars → Fresh n s → Fresh n (set_wire q p s)
unfolding set_wire
fresh_set n q p s l below fresh =
    record {
      live = fresh.live;
      width = length-set s.wires q p ∙ fresh.width;
      wires =
          λ i k.
          set_holds (λ o. Below (n + length s.live) o.vars) s.wires q p i (omega (arith, fresh.width)) below (fresh.wires i k);
      terms = fresh.terms;
    }

-- so does a phase whose terms hold none
pub fresh_phase : (n : ℕ) (φ : Phase) (s : PathSum) → Every (λ t. Below (n + length s.live) t.set) φ.terms → Fresh n s →
    Fresh n (with_phase φ s)
unfolding with_phase
fresh_phase n φ s below fresh = record { live = fresh.live; width = fresh.width; wires = fresh.wires; terms = below }

-- so does a phase added on a parity that holds none
pub fresh_phase_on : (n c : ℕ) (p : Parity) (s : PathSum) → Below (n + length s.live) p.vars → Fresh n s → Fresh n (phase_by add_phase c p s)
fresh_phase_on n c p s below fresh =
    fresh_phase n (add_phase c p s.phase) s
    (every_add_phase (λ t. Below (n + length s.live) t.set) c p s.phase (λ k. below) fresh.terms) fresh

-- so does a product of two such parities
pub fresh_product : (n : ℕ) (p q : Parity) (s : PathSum) → Below (n + length s.live) p.vars → Below (n + length s.live) q.vars →
    Fresh n s → Fresh n (product_by add_phase p q s)
unfolding with_phase ◌⊕◌
fresh_product n p q s hp hq fresh =
    fresh_phase_on n 6 (◌⊕◌ p q) (phase_by add_phase 2 q (phase_by add_phase 2 p s)) (below-△ (n + length s.live) p.vars q.vars hp hq)
    (fresh_phase_on n 2 q (phase_by add_phase 2 p s) hq (fresh_phase_on n 2 p s hp fresh))

-- H brings the next path variable
pub fresh_hadamard : (n q : ℕ) (s : PathSum) → q < n → Fresh n s → Fresh n (hadamard_by add_phase (n + length s.live) q s)
unfolding hadamard_by with_phase ◌⊕◌
fresh_hadamard n q s l fresh =
    record {
      live = rw longer (rw from_snoc (ap (λ (zs : List ℕ). zs ++ u ∷ []) fresh.live));
      width = length-set s.wires q (of (single u)) ∙ fresh.width;
      wires =
          λ i k.
          rw longer
          (set_holds (λ o. Below (n + suc (length s.live)) o.vars) s.wires q (of (single u)) i (omega (arith, fresh.width)) new
          (old (wire i s).vars (fresh.wires i k)));
      terms =
          rw longer
          (add 6 (◌⊕◌ (wire q s) (of (single u))) _ (below-△ (n + suc (length s.live)) (wire q s).vars (single u) wire-below new)
          (add 2 (of (single u)) _ new
          (add 2 (wire q s) s.phase wire-below (every_map _ _ s.phase.terms (λ t h. old t.set h) fresh.terms))));
    }
  where
    u : ℕ
    u = n + length s.live

    longer : length (s.live ++ u ∷ []) ≡ suc (length s.live)
    longer = length-append s.live (u ∷ []) ∙ add-one (length s.live)

    new : Below (n + suc (length s.live)) (single u)
    new = below-single (n + suc (length s.live)) u (omega arith)

    old : (r : ℕ) → Below u r → Below (n + suc (length s.live)) r
    old r h i k = h i (omega arith)

    wire-below : Below (n + suc (length s.live)) (wire q s).vars
    wire-below = old (wire q s).vars (fresh.wires q l)

    add : (c : ℕ) (p : Parity) (φ : Phase) → Below (n + suc (length s.live)) p.vars →
        Every (λ t. Below (n + suc (length s.live)) t.set) φ.terms →
        Every (λ t. Below (n + suc (length s.live)) t.set) (add_phase c p φ).terms
    add c p φ h e = every_add_phase (λ t. Below (n + suc (length s.live)) t.set) c p φ (λ k. h) e

-- a gate keeps a sum fresh
pub fresh_gate : (n : ℕ) (g : Gate) (s : PathSum) → Within n g → Fresh n s → Fresh n (gate n g s)
unfolding gate_by complement ◌⊕◌ with_phase set_wire add_constant
fresh_gate n (one X q) s l fresh = fresh_set n q (complement (wire q s)) s l (fresh.wires q l) fresh
fresh_gate n (one Y q) s l fresh =
    let t = fresh_phase_on n 4 (wire q s) s (fresh.wires q l) fresh in
    fresh_set n q (complement (wire q s)) (with_phase (add_constant 2 (add_phase 4 (wire q s) s.phase)) s) l (fresh.wires q l)
    (fresh_phase n (add_constant 2 (add_phase 4 (wire q s) s.phase)) s t.terms fresh)
fresh_gate n (one Z q) s l fresh = fresh_phase_on n 4 (wire q s) s (fresh.wires q l) fresh
fresh_gate n (one S q) s l fresh = fresh_phase_on n 2 (wire q s) s (fresh.wires q l) fresh
fresh_gate n (one S† q) s l fresh = fresh_phase_on n 6 (wire q s) s (fresh.wires q l) fresh
fresh_gate n (one T q) s l fresh = fresh_phase_on n 1 (wire q s) s (fresh.wires q l) fresh
fresh_gate n (one T† q) s l fresh = fresh_phase_on n 7 (wire q s) s (fresh.wires q l) fresh
fresh_gate n (one H q) s l fresh = fresh_hadamard n q s l fresh
fresh_gate n (two CX a b) s l fresh =
    fresh_set n b (◌⊕◌ (wire b s) (wire a s)) s l.1
    (below-△ (n + length s.live) (wire b s).vars (wire a s).vars (fresh.wires b l.1) (fresh.wires a l.0)) fresh
fresh_gate n (two CZ a b) s l fresh =
    fresh_product n (wire a s) (wire b s) s (fresh.wires a l.0) (fresh.wires b l.1) fresh
fresh_gate n (two SWAP a b) s l fresh =
    fresh_set n b (wire a s) (set_wire a (wire b s) s) l.1 (fresh.wires a l.0)
    (fresh_set n a (wire b s) s l.0 (fresh.wires b l.1) fresh)

-- the wires of the start, by qubit
pub wire-initial : (f : ℕ → Parity) (a n q : ℕ) → q < n → get_or (map f (from a n)) q (of 0) ≡ f (a + q)
unfolding from
wire-initial f a zero q l = absurd (omega arith)
wire-initial f a (suc n) zero l = ap f (sym (add-zero a))
wire-initial f a (suc n) (suc q) l =
    wire-initial f (suc a) n q (le_of_suc-le-suc l) ∙ ap f (suc-add a q ∙ sym (add-suc a q))

-- an input that is clear of the scratch qubits has the values of its own bits
pub value-input : (scratch v q : ℕ) → Clear scratch v → value (input scratch q) v ≡ bit q v
unfolding input
value-input scratch v q clear = go (bit q scratch) refl
  where
    go : (t : Bool) → bit q scratch ≡ t → value (cond t (of 0) (of (single q))) v ≡ bit q v
    go true e = value_of 0 v ∙ (parity_empty v ∙ sym (clear q e))
    go false e = value-single q v

-- numbers below 2^n with the same lowest n bits are equal
pub bits_below : (n v w : ℕ) → v < 2 ^ n → w < 2 ^ n → ((q : ℕ) → q < n → bit q v ≡ bit q w) → v ≡ w
bits_below n v w lv lw same = bits_ext v w (λ q. go q (ltb q n) refl)
  where
    go : (q : ℕ) (t : Bool) → ltb q n ≡ t → bit q v ≡ bit q w
    go q true e = same q (ltb-true q n e)
    go q false e = bit_above n q v lv (ltb-false q n e) ∙ sym (bit_above n q w lw (ltb-false q n e))

-- the start stands for the state of its input
pub meaning_initial : (scratch n v w : ℕ) → v < 2 ^ n → w < 2 ^ n → Clear scratch v → basis v w ≡ meaning n (initial scratch n) v w
unfolding meaning initial basis sum_over phasor phase_at sum_at ω^
meaning_initial scratch n v w lv lw clear =
    ap (λ (t : Bool). cond t 1ω 0ω)
    (bool_ext (eqb v w) (reads n (map (input scratch) (from 0 n)) w v)
    (λ h. every_reads n (map (input scratch) (from 0 n)) w v (λ q l. shows q l ∙ ap (bit q) (eqb-true v w h)))
    (λ h. eq-eqb v w (bits_below n v w lv lw (λ q l. sym (shows q l) ∙ reads_every n (map (input scratch) (from 0 n)) w v h q l))))
  where
    shows : (q : ℕ) → q < n → value (get_or (map (input scratch) (from 0 n)) q (of 0)) v ≡ bit q v
    shows q l = rw (wire-initial (input scratch) 0 n q l, zero-add) (value-input scratch v q clear)

-- the start is fresh
pub fresh_initial : (scratch n : ℕ) → Fresh n (initial scratch n)
unfolding initial from input
fresh_initial scratch n =
    record {
      live = refl;
      width = length-map (from 0 n) (input scratch) ∙ from-length 0 n;
      wires = λ q l. rw (wire-initial (input scratch) 0 n q l, zero-add) (go q l (bit q scratch));
      terms = tt;
    }
  where
    go : (q : ℕ) → q < n → (t : Bool) → Below (n + 0) (cond t (of 0) (of (single q))).vars
    go q l true = λ u k. bit_zero u
    go q l false = below-single (n + 0) q (omega arith)

-- a state agrees with what a sum stands for, from input v, over the outputs of n qubits
abbrev pub Agrees : ℕ → ℕ → State → PathSum → Type 0
Agrees n v ψ s = (w : ℕ) → w < 2 ^ n → ψ w ≡ meaning n s v w

-- a diagonal gate, as a phase on its wire
pub diagonal_step : (n v : ℕ) (u : OneQubit) (c q : ℕ) (ψ : State) (s : PathSum) → matrix u ≡ rows (ω 0) O O (ω c) → q < n →
    Agrees n v ψ s → Agrees n v (apply (one u q) ψ) (phase_by add_phase c (wire q s) s)
diagonal_step n v u c q ψ s e l same w lw =
    apply_diagonal u c q ψ w e ∙ (ap (ω^ (c * digit (bit q w))) (same w lw) ∙ sym (meaning_turn n c q s v w l))

-- Y, as Z, X and a turn by 2
pub Y_step : (n v q : ℕ) (ψ : State) (s : PathSum) → q < n → length s.wires ≡ n → Agrees n v ψ s →
    Agrees n v (apply (one Y q) ψ) (gate n (one Y q) s)
unfolding gate_by matrix with_phase
Y_step n v q ψ s l long same w lw =
    apply_crossing Y (λ t. 2 + 4 * digit (not t)) q ψ w refl
    ∙ (ω^-add 2 (4 * digit (not (bit q w))) (ψ other)
    ∙ (ap (ω^ 2) inner
    ∙ (sym (meaning_phase n 2 (add_constant 2 (add_phase 4 (wire q s) s.phase)) (phase_by add_phase 4 (wire q s) s) v other
    (λ x r. phasor_constant 2 (add_phase 4 (wire q s) s.phase) x))
    ∙ sym (meaning_complement n q (with_phase (add_constant 2 (add_phase 4 (wire q s) s.phase)) s) v w l long))))
  where
    other : ℕ
    other = put q (not (bit q w)) w

    inner : ω^ (4 * digit (not (bit q w))) (ψ other) ≡ meaning n (phase_by add_phase 4 (wire q s) s) v other
    inner =
        ap₂ (λ (t : Bool) (z : Zω). ω^ (4 * digit t) z) (sym (bit_put_same q (not (bit q w)) w)) (same other (put_below n q _ w l lw))
        ∙ sym (meaning_turn n 4 q s v other l)

-- one gate on the state and on the sum
pub gate_step : (n v : ℕ) (g : Gate) (ψ : State) (s : PathSum) → Within n g → Fresh n s → Agrees n v ψ s →
    Agrees n v (apply g ψ) (gate n g s)
unfolding gate_by matrix apply ω^
gate_step n v (one X q) ψ s l fresh same w lw =
    apply_crossing X (λ t. 0) q ψ w refl
    ∙ (same (put q (not (bit q w)) w) (put_below n q (not (bit q w)) w l lw) ∙ sym (meaning_complement n q s v w l fresh.width))
gate_step n v (one Y q) ψ s l fresh same w lw = Y_step n v q ψ s l fresh.width same w lw
gate_step n v (one Z q) ψ s l fresh same w lw = diagonal_step n v Z 4 q ψ s refl l same w lw
gate_step n v (one S q) ψ s l fresh same w lw = diagonal_step n v S 2 q ψ s refl l same w lw
gate_step n v (one S† q) ψ s l fresh same w lw = diagonal_step n v S† 6 q ψ s refl l same w lw
gate_step n v (one T q) ψ s l fresh same w lw = diagonal_step n v T 1 q ψ s refl l same w lw
gate_step n v (one T† q) ψ s l fresh same w lw = diagonal_step n v T† 7 q ψ s refl l same w lw
gate_step n v (one H q) ψ s l fresh same w lw =
    apply_H q ψ w
    ∙ (ap₂ (λ (y z : Zω). y +ω ω^ (4 * digit (bit q w)) z)
    (same (put q false w) (put_below n q false w l lw))
    (same (put q true w) (put_below n q true w l lw))
    ∙ sym (meaning_hadamard n q s v w l fresh))
gate_step n v (two CX a b) ψ s l fresh same w lw =
    same (put b (xor (bit a w) (bit b w)) w) (put_below n b (xor (bit a w) (bit b w)) w l.1 lw)
    ∙ sym (meaning_add n a b s v w l.0 l.1 l.2 fresh.width)
gate_step n v (two CZ a b) ψ s l fresh same w lw =
    negated (bit a w && bit b w) (ψ w)
    ∙ (ap (ω^ (4 * digit (bit a w && bit b w))) (same w lw) ∙ sym (meaning_product n a b s v w l.0 l.1))
  where
    negated : (t : Bool) (z : Zω) → cond t (ω^ 4 z) z ≡ ω^ (4 * digit t) z
    negated true z = refl
    negated false z = refl
gate_step n v (two SWAP a b) ψ s l fresh same w lw =
    same (put a (bit b w) (put b (bit a w) w)) (put_below n a (bit b w) (put b (bit a w) w) l.0 (put_below n b (bit a w) w l.1 lw))
    ∙ sym (meaning_swap n a b s v w l.0 l.1 l.2 fresh.width)

-- the gates of a list, one after another
pub gates_step : (n v : ℕ) (gs : List Gate) (ψ : State) (s : PathSum) → AllWithin n gs → Fresh n s → Agrees n v ψ s →
    Agrees n v (run gs ψ) (gates_from n gs s)
unfolding run gates_from
gates_step n v [] ψ s within fresh same = same
gates_step n v (g ∷ gs) ψ s within fresh same =
    gates_step n v gs (apply g ψ) (gate n g s) within.1 (fresh_gate n g s within.0 fresh)
    (gate_step n v g ψ s within.0 fresh same)

-- the built sum is the amplitude, exactly, from every input that is clear of the scratch qubits
pub built : (scratch n : ℕ) (gs : List Gate) → AllWithin n gs → (v w : ℕ) → v < 2 ^ n → w < 2 ^ n → Clear scratch v →
    column gs v w ≡ meaning n (build scratch n gs) v w
unfolding column build
built scratch n gs within v w lv lw clear =
    gates_step n v gs (basis v) (initial scratch n) within (fresh_initial scratch n)
    (λ u lu. meaning_initial scratch n v u lv lu clear) w lw
