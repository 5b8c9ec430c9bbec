-- What counting the gates of a list by chunks of three bytes comes to.
-- Assumes nothing.
use Rattle.std.proofs.Common.{◌≡◌, refl, ℕ, zero, suc, ◌+◌, ◌/◌, ◌≤◌, cond, List, [], ◌∷◌, length, arith, ◌∙◌}
use Rattle.std.proofs.Common.{eqb, sym}
use Rattle.std.specs.List.{count_by}
use Rattle.std.proofs.lemmas.List.Recursion.{is_count_by}
use Rattle.std.specs.Simd.{first_chunks}
use Rattle.record_format.specs.Gate.{Gate, one, two, X, Y, Z, S, S†, T, T†, H, CX, CZ, SWAP, gate_of_three}
use Rattle.record_format.specs.Reading.{gates_in}
use Rattle.record_format.proofs.Chunks.{gates_of, gates_of_chunks}
use Rattle.amplitude.specs.Circuit.{tally, is_h, is_t, h_gates}

-- a gate is at most one H gate, and at most one T gate
one_or_none : (g : Gate) → (is_h g ≤ 1) × (is_t g ≤ 1)
one_or_none (one X q) = (omega arith, omega arith)
one_or_none (one Y q) = (omega arith, omega arith)
one_or_none (one Z q) = (omega arith, omega arith)
one_or_none (one S q) = (omega arith, omega arith)
one_or_none (one S† q) = (omega arith, omega arith)
one_or_none (one T q) = (omega arith, omega arith)
one_or_none (one T† q) = (omega arith, omega arith)
one_or_none (one H q) = (omega arith, omega arith)
one_or_none (two CX a b) = (omega arith, omega arith)
one_or_none (two CZ a b) = (omega arith, omega arith)
one_or_none (two SWAP a b) = (omega arith, omega arith)

pub one_h : (g : Gate) → is_h g ≤ 1
one_h g = (one_or_none g).0

pub one_t : (g : Gate) → is_t g ≤ 1
one_t g = (one_or_none g).1

-- so a list has at most as many H gates as gates
pub h_gates_few : (gs : List Gate) → h_gates gs ≤ length gs
unfolding tally
h_gates_few [] = omega arith
h_gates_few (g ∷ gs) = omega (arith, one_h g, h_gates_few gs)

-- a weight of at most 1 counts or does not
weighed : (k n : ℕ) → k ≤ 1 → k + n ≡ cond (eqb k 1) (1 + n) n
weighed zero n h = omega arith
weighed (suc zero) n h = refl
weighed (suc (suc k)) n h = absurd (omega arith)

-- where no gate weighs more than 1, the chunks that stand for a gate of weight 1, counted, are the weight of the list
pub counted :
    {weight : Gate → ℕ}
    → ((g : Gate) → weight g ≤ 1)
    → (bytes : List ℕ) (chunks : List (List ℕ))
    → chunks ≡ first_chunks 3 (length bytes / 3) bytes
    → count_by (λ chunk. eqb (weight (gate_of_three chunk)) 1) chunks ≡ tally weight (gates_in bytes)
unfolding tally
counted {weight} light bytes chunks e =
    let sum = λ (cs : List (List ℕ)). tally weight (gates_of cs) in
    let step = λ (chunk : List ℕ) (cs : List (List ℕ)). weighed (weight (gate_of_three chunk)) (sum cs) (light (gate_of_three chunk)) in
    sym (is_count_by sum (λ chunk. eqb (weight (gate_of_three chunk)) 1) refl step chunks) ∙ rw (e, gates_of_chunks)
