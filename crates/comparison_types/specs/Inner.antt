-- What the layer's private functions do, for their contracts. No contract of a public call cites anything of this file.
-- Assumes nothing.
use Rattle.std.specs.Prelude.{◌≡◌, ℕ, suc, ◌+◌, ◌*◌, ◌≤◌, List, length, take, drop, map, Option as Found, Some, None, Result as Returned, Ok, Err, MatchResult}
use Rattle.std.proofs.Math.Option.{Option, none, some}
use Rattle.record_format.specs.Gate.{Gate}
use Rattle.record_format.specs.Format.{head_size, gate_size}
use Rattle.record_format.specs.Reading.{accepted, read}
use Rattle.phase_sum_meaning.specs.Parity.{Parity, rest}
use Rattle.phase_sum_meaning.specs.Phase.{Phase}
use Rattle.phase_sum_meaning.specs.Building.{PathSum}
use Rattle.phase_sum_meaning.specs.Stepping.{replace, take_out, turned, kind_of, sum, turn, constraint, constrained}
use Rattle.phase_sum_types.specs.Workspace.{set_of, parity_of, Lent, members, sum_of, Sized}
use Rattle.comparison_meaning.specs.Reduction as reduction
use Rattle.comparison_meaning.specs.Verdict.{weight, first_differing}
use Rattle.record_format.specs.Pair.{PairFault}
use Rattle.comparison_types.specs.Call.{fault_of}
use Rattle.phase_sum_types.specs.declared.Sum.{Sum}
use Rattle.phase_sum_types.specs.declared.Parity.{Parity as ParityWord}
use Rattle.comparison_types.specs.declared.Counts.{Counts}
use Rattle.comparison_types.specs.declared.Progress.{Progress}
use Rattle.comparison_types.specs.declared.End.{End}
use Rattle.comparison_types.specs.declared.Outcome.{Outcome}
use Rattle.comparison_types.specs.declared.Refusal.{Refusal}
use Rattle.comparison_types.specs.declared.Pair.{Pair}
use Rattle.comparison_types.specs.declared.Compared.{Compared}

-- the counts that a count of steps stands for
abbrev pub counts_of : Counts → reduction.Counts
counts_of c = record { pins = c.pins; sums = c.sums; turns = c.turns; joins = c.joins }

-- no step yet
abbrev pub no_steps : Counts
no_steps = record { pins = 0; sums = 0; turns = 0; joins = 0 }

-- the parity that blocks, if any does
abbrev pub blocked_by : Found ParityWord → Option Parity
blocked_by None = none
blocked_by (Some w) = some (parity_of w)

-- the end that an end and what is lent stand for
abbrev pub end_of : End → Lent → reduction.End
end_of e l =
    record { blocked_by = blocked_by e.blocked; sum = sum_of e.reached.sum l; counts = counts_of e.reached.counts }

-- it stops at p, which no parity blocks
abbrev pub stops_at : Progress → End
stops_at p = record { blocked = None; reached = p }

-- it stops at p, which the parity w blocks
abbrev pub blocked_at : Progress → ParityWord → End
blocked_at p w = record { blocked = Some w; reached = p }

-- the next sum and counts that p and what is lent stand for
abbrev pub next_of : Progress → Lent → reduction.Next
next_of p l = reduction.goes (sum_of p.sum l) (counts_of p.counts)

-- at most k sums, k turns and k joins so far, and at most 16 pins
pub record CountedTo (k : ℕ) (c : Counts) : Type 0 where
  pub pins : c.pins ≤ 16
  pub sums : c.sums ≤ k
  pub turns : c.turns ≤ k
  pub joins : c.joins ≤ k

-- the step at a ready y, its C and L given, where a join replaces z, or is blocked if there is none
unfoldable pub step_to : ℕ → Option ℕ → ℕ → ℕ → PathSum → reduction.Counts → reduction.Next
step_to y o k l s c =
    elim (kind_of k l) [
      | sum ↦ reduction.goes (take_out y s) (reduction.add_sum c)
      | turn ↦ reduction.goes (turned k l (take_out y s)) (reduction.add_turn c)
      | constraint ↦ elim o [
        | some z ↦ reduction.goes (replace z (rest z (constrained k l)) (take_out y s)) (reduction.add_join c)
        | none ↦ reduction.stuck (constrained k l)
      ]
    ]

-- qubit q pinned takes p to r: what is left to pin is what the definition has left
pub record PinsQubit (q : ℕ) (p r : Progress) (l l' : Lent) : Type 0 where
  pub steps : (m : ℕ) →
      reduction.pin_from 0 (suc m) q (sum_of p.sum l) (counts_of p.counts)
      ≡ reduction.pin_from 0 m (suc q) (sum_of r.sum l') (counts_of r.counts)
  pub sized : Sized r.sum l'
  pub wires : length l'.wires ≡ length l.wires
  pub pins : r.counts.pins ≤ q + 1
  pub others : CountedTo 0 p.counts → CountedTo 0 r.counts

-- the parity w blocks qubit q at p, and nothing has changed
pub record BlocksQubit (q : ℕ) (p : Progress) (w : ParityWord) (l l' : Lent) : Type 0 where
  pub ends : (m : ℕ) →
      reduction.pin_from 0 (suc m) q (sum_of p.sum l) (counts_of p.counts)
      ≡ reduction.blocks (parity_of w) (sum_of p.sum l) (counts_of p.counts)
  pub same : l' ≡ l

-- what pinning qubit q makes of p
abbrev pub PinnedQubit : ℕ → Progress → Returned Progress ParityWord → Lent → Lent → Type 0
PinnedQubit q p r l l' = MatchResult r (λ next. PinsQubit q p next l l') (λ by. BlocksQubit q p by l l')

-- what pinning every qubit of the sum s ends in
pub record PinnedAll (s : Sum) (e : End) (l l' : Lent) : Type 0 where
  pub end : end_of e l' ≡ reduction.pinned 0 (length l.wires) (sum_of s l)
  pub sized : Sized e.reached.sum l'
  pub steps : CountedTo 0 e.reached.counts

-- a step that the definition takes to d goes to r
pub record Steps (d : reduction.Next) (r : Progress) (l' : Lent) : Type 0 where
  pub next : next_of r l' ≡ d
  pub sized : Sized r.sum l'

-- a step that the definition takes to d is blocked by the parity w, and nothing has changed
pub record BlocksStep (d : reduction.Next) (w : ParityWord) (l l' : Lent) : Type 0 where
  pub stuck : reduction.stuck (parity_of w) ≡ d
  pub same : l' ≡ l

-- what a step makes of a sum that the definition takes to d
abbrev pub StepsAs : reduction.Next → Returned Progress ParityWord → Lent → Lent → Type 0
StepsAs d r l l' = MatchResult r (λ next. Steps d next l') (λ by. BlocksStep d by l l')

-- what the step at y makes of p where C is k and L is u, and a join replaces z
abbrev pub StepsTo : ℕ → Option ℕ → ℕ → ℕ → Progress → Returned Progress ParityWord → Lent → Lent → Type 0
StepsTo y z k u p r l l' = StepsAs (step_to y z k u (sum_of p.sum l) (counts_of p.counts)) r l l'

-- what the step at y makes of p
abbrev pub StepsAt : ℕ → Progress → Returned Progress ParityWord → Lent → Lent → Type 0
StepsAt y p r l l' = StepsAs (reduction.step_at y (sum_of p.sum l) (counts_of p.counts)) r l l'

-- what the steps of p end in
pub record ReducedTo (p : Progress) (e : End) (l l' : Lent) : Type 0 where
  pub end : end_of e l' ≡ reduction.reduce_from (length (members (set_of p.sum.live))) (sum_of p.sum l) (counts_of p.counts)
  pub sized : Sized e.reached.sum l'

-- what reducing the end e makes of it
pub record ReducesEnd (e r : End) (l l' : Lent) : Type 0 where
  pub end : end_of r l' ≡ reduction.reduce_end (end_of e l)
  pub sized : Sized r.reached.sum l'

-- the inputs with k of the first n qubits, beside those of w
unfoldable pub beside : ℕ → ℕ → ℕ → List ℕ
beside w k n = map (λ v. w + v) (weight 0 k n)

-- the first of them whose phase differs from that of input 0
unfoldable pub first_beside : Phase → ℕ → ℕ → ℕ → Option ℕ
first_beside φ w k n = first_differing φ (beside w k n)

-- no input of weight 1 or 2 has another phase than input 0
abbrev pub AgreesToTwo : Phase → ℕ → Type 0
AgreesToTwo φ n = (first_differing φ (weight 0 1 n) ≡ none) × (first_differing φ (weight 0 2 n) ≡ none)

-- a list is accepted, on n qubits and with g gates
pub record AcceptedWith (n g : ℕ) (s : List ℕ) : Type 0 where
  pub gates : List Gate
  pub reads : read s ≡ accepted n gates
  pub counted : g ≡ length gates

-- the fault that the checks on a pair found, if any did
abbrev pub found_fault : Returned Pair Refusal → Option PairFault
found_fault (Ok p) = none
found_fault (Err r) = some (fault_of r)

-- a list is accepted, on n qubits, and these are its gate bytes
pub record GatesRead (n : ℕ) (s bytes : List ℕ) : Type 0 where
  pub g : ℕ
  pub list : AcceptedWith n g s
  pub part : bytes ≡ take (gate_size * g) (drop head_size s)

-- a pair that passed was read: both lists are accepted, on its qubits, and it has the gate bytes of each
pub record PairRead (s t : List ℕ) (p : Pair) : Type 0 where
  pub first : GatesRead p.n s p.first.now
  pub second : GatesRead p.n t p.second.now

-- the answer that a comparison gives
abbrev pub answer_of : Returned Compared Refusal → Returned Outcome Refusal
answer_of (Ok c) = Ok c.outcome
answer_of (Err r) = Err r

-- a pair that was compared was read
pub record ComparedRead (s t : List ℕ) (c : Compared) : Type 0 where
  pub n : ℕ
  pub first : GatesRead n s c.first.now
  pub second : GatesRead n t c.second.now
