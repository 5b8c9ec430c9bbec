-- Path sums hold only what they may: their terms and wires only inputs and live variables, and their live variables rise above the
-- inputs. Built sums do, and each step of the reduction keeps it.
-- Assumes nothing.
use mathlib.Core.Path.{◌≡◌, refl, sym, ◌∙◌}
use mathlib.Core.Logic.{◌⊎◌, inl, inr, ⊎_elim}
use mathlib.Core.Bool.{Bool, true, false, cond, xor, true≢false}
use mathlib.Core.List.{List, [], ◌∷◌, ◌++◌, map}
use Prim.Native.Nat.{ℕ, zero, suc, ◌+◌, ◌/◌, ◌%◌, ◌<◌, ◌≤◌}
use native.Mathlib.Nat.{add-zero, zero-add, add_assoc}
use native.Mathlib.Numerals.{add-one}
use native.Mathlib.Omega.{arith}
use lib.Dec.{eqb}
use lib.ListN.{length, get_or, set}
use borrow.Author.Tests.{eqb-true, eqb-false}
use Rattle.record_format.specs.Gate.{Gate, one, two, X, Y, Z, S, S†, T, T†, H, CX, CZ, SWAP, AllWithin, one_qubit_kind}
use Rattle.amplitude.specs.Bits.{bit}
use Rattle.amplitude.specs.Circuit.{tally, is_h, h_gates}
use Rattle.amplitude.proofs.BitLaws.{bit_zero, bit-power_other}
use Rattle.phase_sum_meaning.specs.Sets.{◌△◌, single, without, from, Among, here, there, first_in}
use Rattle.phase_sum_meaning.specs.Parity.{Parity, of, ◌⊕◌, complement, rest, replace_in}
use Rattle.phase_sum_meaning.specs.Phase.{Term, Phase, add_constant, add_phase, rebuild, Canonical}
use Rattle.phase_sum_meaning.specs.Building.{PathSum, input, initial, wire, set_wire, with_phase, phase_by, product_by, hadamard_by, gate_by, gate, gates_from, build}
use Rattle.phase_sum_meaning.specs.Stepping.{replace, out_of, odd_halves, take_out, turned}
use Rattle.phase_sum_meaning.proofs.SetLaws.{bit-△}
use Rattle.phase_sum_meaning.proofs.VariableLaws.{Rising, without-among, among-without, rising_without, length_without, from-among, from_rising, from-length, from_snoc, first_such_none, first_such_lowest}
use Rattle.phase_sum_meaning.proofs.ParityLaws.{bit_out_same, rest_free, replace_in_free}
use Rattle.phase_sum_meaning.proofs.PhaseLaws.{Every, every_map, every_add_phase, every_rebuild, constant_below-add_constant, constant_below-add_phase, constant_below-rebuild}
use Rattle.phase_sum_meaning.proofs.Replacing.{wire-replace}
use mathlib.Core.Option.{none, some}
use Rattle.phase_sum_meaning.proofs.CanonicalLaws.{canonical_add_phase, canonical_rebuild}

-- a set holds only inputs and live variables
abbrev pub Holds : ℕ → List ℕ → ℕ → Type 0
Holds n live s = (v : ℕ) → bit v s ≡ true → (v < n) ⊎ Among v live

-- the live variables rise and are no inputs, each term holds only inputs and live variables, and the constant is below 8
pub record Good (n : ℕ) (s : PathSum) : Type 0 where
  pub rising : Rising s.live
  pub above : (v : ℕ) → Among v s.live → n ≤ v
  pub terms : Every (λ t. Holds n s.live t.set) s.phase.terms
  pub below : s.phase.constant < 8
  pub canonical : Canonical s.phase.terms

-- each wire holds only inputs and live variables
abbrev pub GoodWires : ℕ → PathSum → Type 0
GoodWires n s = (q : ℕ) → Holds n s.live (wire q s).vars

-- an exclusive or is true only where one of the two is
either : (a b : Bool) → xor a b ≡ true → (a ≡ true) ⊎ (b ≡ true)
unfolding xor
either true b e = inl refl
either false true e = inr refl
either false false e = absurd (true≢false (sym e))

-- the empty set holds nothing else
pub holds_none : (n : ℕ) (live : List ℕ) → Holds n live 0
holds_none n live v h = absurd (true≢false (sym h ∙ bit_zero v))

-- the exclusive or of two sets holds only what they hold
pub holds_△ : (n : ℕ) (live : List ℕ) (s r : ℕ) → Holds n live s → Holds n live r → Holds n live (s △ r)
holds_△ n live s r hs hr v h = ⊎_elim (hs v) (hr v) (either (bit v s) (bit v r) (sym (bit-△ v s r) ∙ h))

-- the set of one input or live variable holds nothing else
pub holds_single : (n : ℕ) (live : List ℕ) (u : ℕ) → (u < n) ⊎ Among u live → Holds n live (single u)
holds_single n live u h v e = go (eqb v u) refl
  where
    go : (b : Bool) → eqb v u ≡ b → (v < n) ⊎ Among v live
    go true same = rw (eqb-true v u same) h
    go false other = absurd (true≢false (sym e ∙ bit-power_other v u (eqb-false v u other)))

-- with more live variables a set may hold no less
pub holds_more : (n : ℕ) (live more : List ℕ) (s : ℕ) → ((v : ℕ) → Among v live → Among v more) → Holds n live s → Holds n more s
holds_more n live more s grow h v e = ⊎_elim (λ low. inl low) (λ a. inr (grow v a)) (h v e)

-- a phase whose terms hold only inputs and live variables and stand in canonical form, with its constant below 8
abbrev Sound : ℕ → List ℕ → Phase → Type 0
Sound n live φ = Every (λ t. Holds n live t.set) φ.terms × (φ.constant < 8) × Canonical φ.terms

-- adding to the constant keeps a phase sound
sound_add_constant : (n : ℕ) (live : List ℕ) (k : ℕ) (φ : Phase) → Sound n live φ → Sound n live (add_constant k φ)
unfolding add_constant
sound_add_constant n live k φ h = (h.0, constant_below-add_constant k φ, h.2)

-- a phase on a parity of inputs and live variables keeps a phase sound
sound_add_phase :
    (n : ℕ) (live : List ℕ) (c : ℕ) (p : Parity) (φ : Phase) →
    Holds n live p.vars →
    Sound n live φ →
    Sound n live (add_phase c p φ)
sound_add_phase n live c p φ hp h =
    (every_add_phase (λ t. Holds n live t.set) c p φ (λ k. hp) h.0, constant_below-add_phase c p φ h.1, canonical_add_phase c p φ h.2)

-- so does 4 on a product of two of them
sound_product :
    (n : ℕ) (live : List ℕ) (u v : Parity) (s : PathSum) →
    Holds n live u.vars →
    Holds n live v.vars →
    Sound n live s.phase →
    Sound n live (product_by add_phase u v s).phase
unfolding with_phase ◌⊕◌
sound_product n live u v s hu hv h =
    sound_add_phase n live 6 (◌⊕◌ u v) _ (holds_△ n live u.vars v.vars hu hv)
    (sound_add_phase n live 2 v _ hv (sound_add_phase n live 2 u _ hu h))

-- a phase rebuilt is sound where each set is sent to inputs and variables live afterwards
sound_rebuild :
    (n : ℕ) (live after : List ℕ) (f : ℕ → Parity) (k : ℕ) (ts : List Term) →
    ((u : ℕ) → Holds n live u → Holds n after (f u).vars) →
    Every (λ t. Holds n live t.set) ts →
    Sound n after (rebuild f k ts)
sound_rebuild n live after f k ts send h =
    (every_rebuild (Holds n after) f k ts (every_map _ _ ts (λ t. send t.set) h), constant_below-rebuild f k ts, canonical_rebuild f k ts)

-- what holds of a parity and of those in a list holds of the list with the parity set in it
set_keeps : (P : Parity → Type 0) (l : List Parity) (i j : ℕ) (a d : Parity) → P a → P (get_or l j d) → P (get_or (set l i a) j d)
set_keeps P [] i j a d new old = old
set_keeps P (x ∷ l) zero zero a d new old = new
set_keeps P (x ∷ l) zero (suc j) a d new old = old
set_keeps P (x ∷ l) (suc i) zero a d new old = old
set_keeps P (x ∷ l) (suc i) (suc j) a d new old = set_keeps P l i j a d new old

-- what holds of the parity made from each variable of a list holds of the list of them
map_keeps :
    (P : Parity → Type 0) (f : ℕ → Parity) (us : List ℕ) (j : ℕ) (d : Parity) →
    ((u : ℕ) → Among u us → P (f u)) →
    P d →
    P (get_or (map f us) j d)
map_keeps P f [] j d all default = default
map_keeps P f (u ∷ us) zero d all default = all u here
map_keeps P f (u ∷ us) (suc j) d all default = map_keeps P f us j d (λ w a. all w (there a)) default

-- the phase is sound and the wires are good: this holds while a list is built
abbrev Held : ℕ → PathSum → Type 0
Held n s = Sound n s.live s.phase × GoodWires n s

-- setting a wire to a parity of inputs and live variables keeps it
held-set_wire : (n q : ℕ) (p : Parity) (s : PathSum) → Holds n s.live p.vars → Held n s → Held n (set_wire q p s)
unfolding set_wire
held-set_wire n q p s hp h = (h.0, λ r. set_keeps (λ w. Holds n s.live w.vars) s.wires q r p (of 0) hp (h.1 r))

-- so does a phase on a wire
held_turn : (n c q : ℕ) (s : PathSum) → Held n s → Held n (phase_by add_phase c (wire q s) s)
unfolding with_phase
held_turn n c q s h = (sound_add_phase n s.live c (wire q s) s.phase (h.1 q) h.0, h.1)

-- a variable of a list stays in it when others are put behind it
among_front : (vs : List ℕ) {v : ℕ} {us : List ℕ} → Among v us → Among v (us ++ vs)
among_front vs here = here
among_front vs (there a) = there (among_front vs a)

-- the last variable is in the list
among_last : (us : List ℕ) (v : ℕ) → Among v (us ++ v ∷ [])
among_last [] v = here
among_last (u ∷ us) v = there (among_last us v)

-- so does an H gate, which brings the live variable v
held_hadamard : (n v q : ℕ) (s : PathSum) → Held n s → Held n (hadamard_by add_phase v q s)
unfolding hadamard_by with_phase
held_hadamard n v q s h = (
  sound_product n live (wire q s) (of (single v)) s (old (wire q s).vars (h.1 q)) new sound,
  λ r. set_keeps (λ w. Holds n live w.vars) s.wires q r (of (single v)) (of 0) new (old (wire r s).vars (h.1 r)),
)
  where
    live : List ℕ
    live = s.live ++ v ∷ []

    old : (u : ℕ) → Holds n s.live u → Holds n live u
    old u hu = holds_more n s.live live u (λ w a. among_front (v ∷ []) a) hu

    new : Holds n live (single v)
    new = holds_single n live v (inr (among_last s.live v))

    sound : Sound n live s.phase
    sound = (every_map _ _ s.phase.terms (λ t. old t.set) h.0.0, h.0.1, h.0.2)

-- so does every gate
held-gate : (n : ℕ) (g : Gate) (s : PathSum) → Held n s → Held n (gate n g s)
unfolding gate_by set_wire with_phase complement ◌⊕◌
held-gate n (one X q) s h = held-set_wire n q (complement (wire q s)) s (h.1 q) h
held-gate n (one Y q) s h =
    let t = phase_by add_phase 4 (wire q s) s in
    let ht : Held n t = held_turn n 4 q s h in
    held-set_wire n q (complement (wire q t)) (with_phase (add_constant 2 t.phase) t) (h.1 q)
    (sound_add_constant n s.live 2 t.phase ht.0, h.1)
held-gate n (one Z q) s h = held_turn n 4 q s h
held-gate n (one S q) s h = held_turn n 2 q s h
held-gate n (one S† q) s h = held_turn n 6 q s h
held-gate n (one T q) s h = held_turn n 1 q s h
held-gate n (one T† q) s h = held_turn n 7 q s h
held-gate n (one H q) s h = held_hadamard n (n + length s.live) q s h
held-gate n (two CX a b) s h =
    held-set_wire n b (◌⊕◌ (wire b s) (wire a s)) s (holds_△ n s.live (wire b s).vars (wire a s).vars (h.1 b) (h.1 a)) h
held-gate n (two CZ a b) s h = (sound_product n s.live (wire a s) (wire b s) s (h.1 a) (h.1 b) h.0, h.1)
held-gate n (two SWAP a b) s h =
    held-set_wire n b (wire a s) (set_wire a (wire b s) s) (h.1 a) (held-set_wire n a (wire b s) s (h.1 b) h)

-- so do the gates of a list
held_gates : (n : ℕ) (gs : List Gate) (s : PathSum) → Held n s → Held n (gates_from n gs s)
unfolding gates_from
held_gates n [] s h = h
held_gates n (g ∷ gs) s h = held_gates n gs (gate n g s) (held-gate n g s h)

-- an input wire holds at most its own input
holds_input : (scratch n : ℕ) (live : List ℕ) (q : ℕ) → q < n → Holds n live (input scratch q).vars
unfolding input
holds_input scratch n live q l = go (bit q scratch)
  where
    go : (b : Bool) → Holds n live (cond b (of 0) (of (single q))).vars
    go true = holds_none n live
    go false = holds_single n live q (inl l)

-- before any gate the phase is sound and the wires are good
held-initial : (scratch n : ℕ) → Held n (initial scratch n)
unfolding initial
held-initial scratch n = (
  (tt, omega arith, tt),
  λ q. map_keeps (λ w. Holds n [] w.vars) (input scratch) (from 0 n) q (of 0) inputs (holds_none n []),
)
  where
    inputs : (u : ℕ) → Among u (from 0 n) → Holds n [] (input scratch u).vars
    inputs u a = holds_input scratch n [] u (omega (arith, from-among 0 n a))

-- a gate brings a live variable where it is an H
live_gate : (n k : ℕ) (g : Gate) (s : PathSum) → s.live ≡ from n k → (gate n g s).live ≡ from n (k + is_h g)
unfolding gate_by hadamard_by set_wire with_phase one_qubit_kind
live_gate n k (one X q) s e = rw add-zero e
live_gate n k (one Y q) s e = rw add-zero e
live_gate n k (one Z q) s e = rw add-zero e
live_gate n k (one S q) s e = rw add-zero e
live_gate n k (one S† q) s e = rw add-zero e
live_gate n k (one T q) s e = rw add-zero e
live_gate n k (one T† q) s e = rw add-zero e
live_gate n k (one H q) s e = rw (add-one, from_snoc, e, from-length)
live_gate n k (two CX a b) s e = rw add-zero e
live_gate n k (two CZ a b) s e = rw add-zero e
live_gate n k (two SWAP a b) s e = rw add-zero e

-- a list brings as many live variables as it has H gates
pub live_gates : (n k : ℕ) (gs : List Gate) (s : PathSum) → s.live ≡ from n k → (gates_from n gs s).live ≡ from n (k + h_gates gs)
unfolding gates_from tally
live_gates n k [] s e = rw add-zero e
live_gates n k (g ∷ gs) s e = rw (← add_assoc) (live_gates n (k + is_h g) gs (gate n g s) (live_gate n k g s e))

-- the live variables of a built sum: n and those behind it, as many as the list has H gates
pub live_build-from : (scratch n : ℕ) (gs : List Gate) → (build scratch n gs).live ≡ from n (h_gates gs)
unfolding build
live_build-from scratch n gs = rw zero-add at (live_gates n 0 gs (initial scratch n) (unfold initial from in refl))

-- so their number is the number of H gates
pub live_build : (scratch n : ℕ) (gs : List Gate) → length (build scratch n gs).live ≡ h_gates gs
live_build scratch n gs = rw (live_build-from scratch n gs) (from-length n (h_gates gs))

-- a built sum is good, and so are its wires
pub good_build : (scratch n : ℕ) (gs : List Gate) → AllWithin n gs → Good n (build scratch n gs) × GoodWires n (build scratch n gs)
good_build scratch n gs within = (
  record {
    rising = rw (live_build-from scratch n gs) (from_rising n (h_gates gs));
    above = λ v a. (from-among n (h_gates gs) (rw (live_build-from scratch n gs) at a)).0;
    terms = held.0.0;
    below = held.0.1;
    canonical = held.0.2;
  },
  held.1,
)
  where
    held : Held n (build scratch n gs)
    held = unfold build in held_gates n gs (initial scratch n) (held-initial scratch n)

-- a set without z that holds only inputs and live variables holds only those other than z
holds_without : (n z : ℕ) (live : List ℕ) (s : ℕ) → bit z s ≡ false → Holds n live s → Holds n (without z live) s
holds_without n z live s free h v e =
    ⊎_elim (λ low. inl low) (λ a. inr (among-without z a (λ same. true≢false (sym e ∙ rw same free)))) (h v e)

-- replacing z in a parity by the rest of one that holds z brings in only what both hold, and takes z out
holds_replace_in :
    (n z : ℕ) (live : List ℕ) (q w : Parity) →
    bit z q.vars ≡ true →
    Holds n live q.vars →
    Holds n live w.vars →
    Holds n (without z live) (replace_in z (rest z q) w).vars
unfolding replace_in rest ◌⊕◌
holds_replace_in n z live q w hz hq hw =
    holds_without n z live (replace_in z (rest z q) w).vars (replace_in_free z (rest z q) w (rest_free z q hz)) (go (bit z w.vars))
  where
    out : (s : ℕ) → Holds n live s → Holds n live (s △ single z)
    out s hs = holds_△ n live s (single z) hs (holds_single n live z (hq z hz))

    go : (b : Bool) → Holds n live (cond b (◌⊕◌ (record { vars = w.vars △ single z; flipped = w.flipped }) (rest z q)) w).vars
    go true = holds_△ n live (w.vars △ single z) (q.vars △ single z) (out w.vars hw) (out q.vars hq)
    go false = hw

-- a good sum that loses the live variable z stays good where its new phase is sound without z
good_without : (n z : ℕ) (s t : PathSum) → Good n s → t.live ≡ without z s.live → Sound n t.live t.phase → Good n t
good_without n z s t g e sound =
    record {
      rising = rw e (rising_without z s.live g.rising);
      above = λ v a. g.above v (without-among z s.live (rw e at a)).0;
      terms = sound.0;
      below = sound.1;
      canonical = sound.2;
    }

-- replacing a live variable keeps a sum good
pub good_replace :
    (n z : ℕ) (q : Parity) (s : PathSum) →
    Good n s →
    Among z s.live →
    bit z q.vars ≡ true →
    Holds n s.live q.vars →
    Good n (replace z (rest z q) s)
unfolding replace
good_replace n z q s g a hz hq =
    good_without n z s (replace z (rest z q) s) g refl
    (sound_rebuild n s.live (without z s.live) (λ u. replace_in z (rest z q) (of u)) s.phase.constant s.phase.terms
    (λ u. holds_replace_in n z s.live q (of u) hz hq) g.terms)

-- replacing a live variable keeps the wires good
pub good_wires_replace :
    (n z : ℕ) (q : Parity) (s : PathSum) →
    Good n s →
    Among z s.live →
    bit z q.vars ≡ true →
    Holds n s.live q.vars →
    GoodWires n s →
    GoodWires n (replace z (rest z q) s)
good_wires_replace n z q s g a hz hq h r =
    rw wire-replace (unfold replace in holds_replace_in n z s.live q (wire r s) hz hq (h r))

-- one live variable is gone then
pub live_replace :
    (n z : ℕ) (p : Parity) (s : PathSum) →
    Good n s →
    Among z s.live →
    suc (length (replace z p s).live) ≡ length s.live
unfolding replace
live_replace n z p s g a = length_without g.rising a

-- a set with y taken out holds only what it held, without y
holds_out_of : (n y : ℕ) (live : List ℕ) (u : ℕ) → Holds n live u → Holds n (without y live) (out_of y u)
unfolding out_of
holds_out_of n y live u h = go (bit y u) refl
  where
    go : (b : Bool) → bit y u ≡ b → Holds n (without y live) (out_of y u)
    go true e =
        rw e
        (holds_without n y live (u △ single y) (bit_out_same y u e) (holds_△ n live u (single y) h (holds_single n live y (h y e))))
    go false e = rw e (holds_without n y live u e h)

-- taking a live variable out keeps a sum good
pub good_take_out : (n y : ℕ) (s : PathSum) → Good n s → Among y s.live → Good n (take_out y s)
unfolding take_out
good_take_out n y s g a =
    good_without n y s (take_out y s) g refl
    (sound_rebuild n s.live (without y s.live) (λ u. of (out_of y u)) s.phase.constant s.phase.terms
    (holds_out_of n y s.live) g.terms)

-- one live variable is gone then too
pub live_take_out : (n y : ℕ) (s : PathSum) → Good n s → Among y s.live → suc (length (take_out y s).live) ≡ length s.live
unfolding take_out
live_take_out n y s g a = length_without g.rising a

-- the phase of a turn on a set of inputs and live variables keeps a sum good
pub good_turned : (k l : ℕ) {n : ℕ} {s : PathSum} → Good n s → Holds n s.live l → Good n (turned k l s)
unfolding turned add_phase
good_turned k l {n} {s} g h =
    record { rising = g.rising; above = g.above; terms = new.0; below = new.1; canonical = new.2 }
  where
    new : Sound n s.live (turned k l s).phase
    new =
        sound_add_phase n s.live (cond (eqb k 1) 6 2) (of l) _ h
        (sound_add_constant n s.live (cond (eqb k 1) 1 7) s.phase (g.terms, g.below, g.canonical))

-- the exclusive or over the terms of odd half coefficient holds only what they hold, without y
holds_halves :
    (n y : ℕ) (live : List ℕ) (ts : List Term) →
    Every (λ t. Holds n live t.set) ts →
    Holds n (without y live) (odd_halves y ts)
unfolding odd_halves
holds_halves n y live [] h = holds_none n (without y live)
holds_halves n y live (t ∷ ts) h =
    holds_△ n (without y live) _ (odd_halves y ts) (go (bit y t.set) (eqb (t.coeff / 2 % 2) 1)) (holds_halves n y live ts h.1)
  where
    go : (a b : Bool) → Holds n (without y live) (cond a (cond b (out_of y t.set) 0) 0)
    go true true = holds_out_of n y live t.set h.0
    go true false = holds_none n (without y live)
    go false b = holds_none n (without y live)

-- L holds only inputs and the live variables other than y
pub holds_odd_halves : (y : ℕ) {n : ℕ} {s : PathSum} → Good n s → Holds n (take_out y s).live (odd_halves y s.phase.terms)
unfolding take_out
holds_odd_halves y {n} {s} g = holds_halves n y s.live s.phase.terms g.terms

-- a wire's mismatch with its input holds only inputs and live variables
pub holds_mismatch :
    (scratch n q : ℕ) (s : PathSum) → q < n → GoodWires n s → Holds n s.live (◌⊕◌ (wire q s) (input scratch q)).vars
unfolding ◌⊕◌
holds_mismatch scratch n q s l h =
    holds_△ n s.live (wire q s).vars (input scratch q).vars (h q) (holds_input scratch n s.live q l)

-- a set of inputs and live variables in which no live variable is found holds only inputs
pub holds_inputs :
    (n : ℕ) (live : List ℕ) (s : ℕ) → Holds n live s → first_in live s ≡ none → (v : ℕ) → bit v s ≡ true → v < n
holds_inputs n live s holds e v h =
    ⊎_elim (λ low. low) (λ a. absurd (true≢false (sym h ∙ first_such_none (λ u. bit u s) live e v a))) (holds v h)

-- and a live variable that is found in it is its lowest path variable
pub holds_lowest :
    (n z : ℕ) (s : PathSum) (u : ℕ) → Good n s → Holds n s.live u → first_in s.live u ≡ some z → (v : ℕ) → n ≤ v → bit v u ≡ true → z ≤ v
holds_lowest n z s u good holds e v above h =
    ⊎_elim (λ low. absurd (omega arith)) (λ a. first_such_lowest (λ w. bit w u) s.live z good.rising e v a h) (holds v h)
