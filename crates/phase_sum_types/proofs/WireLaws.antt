-- Laws for putting gates one behind the other: one wire of a sum under construction, one set anew, and the wires that a sum
-- starts with; terms put behind terms.
-- Assumes nothing.
use mathlib.Core.Path.{◌≡◌, sym, ◌∙◌}
use Prim.Native.Nat.{ℕ, ◌+◌, ◌≤◌, ◌<◌}
use native.Mathlib.Nat.{zero-add}
use native.Mathlib.Numerals.{add-one}
use native.Mathlib.Omega.{arith}
use mathlib.Core.List.{List, ◌++◌, map, map-append}
use lib.ListN.{length, set, take, length-append}
use lib.Seq.{take_all, take-suc-set}
use Rattle.amplitude.proofs.BitLaws.{bit_zero}
use Rattle.phase_sum_meaning.specs.Sets.{single, from}
use Rattle.phase_sum_meaning.specs.Parity.{Parity, of}
use Rattle.phase_sum_meaning.specs.Phase.{Term, Phase as Polynomial}
use Rattle.phase_sum_meaning.specs.Building.{input, initial}
use Rattle.phase_sum_types.specs.Workspace.{held, Stored, phase_of, Phased}
use Rattle.phase_sum_types.specs.Unmerged.{put_behind}
use Rattle.phase_sum_types.specs.declared.Phase.{Phase}
use Rattle.phase_sum_meaning.proofs.VariableLaws.{from_snoc}
use Rattle.phase_sum_types.proofs.Storing.{stored-held, stored_grown, length-held}

-- the parities of the first q inputs, and one more
pub inputs_more :
    (q : ℕ) (wires : List Parity) →
    q < length wires →
    take q wires ≡ map (input 0) (from 0 q) →
    take (q + 1) (set wires q (of (single q))) ≡ map (input 0) (from 0 (q + 1))
unfolding input
inputs_more q wires l e =
    rw (add-one q, take-suc-set wires q (of (single q)) l, from_snoc 0 q, zero-add q, map-append, e, bit_zero q)

-- those of all inputs are the wires that a sum starts with
pub inputs_all : (n : ℕ) (wires : List Parity) → length wires ≡ n → take n wires ≡ map (input 0) (from 0 n) → wires ≡ (initial 0 n).wires
unfolding initial
inputs_all n wires i e = sym (take_all n wires (omega (arith, i))) ∙ e

-- how many terms there are when more are behind the first m
pub stored-count :
    {m r : ℕ} {ss cs ss₁ cs₁ : List ℕ} (us : List Term) →
    m ≤ length ss →
    m ≤ length cs →
    Stored m (held m ss cs ++ us) r ss cs ss₁ cs₁ →
    r ≡ m + length us
stored-count {m = m} {ss = ss} {cs = cs} us l k e =
    e.counted ∙ rw (length-append (held m ss cs) us, length-held m ss cs l k)

-- a phase left, and then one more put behind it
pub put_more :
    {φ : Polynomial} {m : ℕ} {p q : Phase} {ss cs ss₁ cs₁ ss₂ cs₂ : List ℕ} (c : ℕ) (w : Parity) →
    Phased φ m p ss cs ss₁ cs₁ →
    Phased (put_behind c w (phase_of p ss₁ cs₁)) p.count q ss₁ cs₁ ss₂ cs₂ →
    Phased (put_behind c w φ) m q ss cs ss₂ cs₂
unfolding put_behind
put_more c w e f =
    let g = rw (e.constant, stored-held e.terms) at f in
    record {
      constant = g.constant;
      terms = stored_grown e.terms g.terms (rw length-append (omega arith));
    }
