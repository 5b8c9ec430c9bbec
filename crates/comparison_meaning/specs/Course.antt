-- The course of a comparison as a relation, apart from the functions that compute it: pinning from qubit 0 upwards, steps at the lowest
-- ready variable, joins at the lowest path variable of L, and the verdict on the end. Each line can be held against document 01,
-- "Reducing it". proofs/Course.antt shows that every pair has exactly one result, that of Verdict.compare.
-- Assumes nothing.
use Rattle.std.specs.Prelude.{◌≡◌, ℕ, suc, ◌≤◌, ◌<◌, true, false, List, []}
use Rattle.std.proofs.Math.Option.{none, some}
use Rattle.record_format.specs.Gate.{Gate}
use Rattle.amplitude.specs.Bits.{bit}
use Rattle.phase_sum_meaning.specs.Parity.{Parity, rest}
use Rattle.phase_sum_meaning.specs.Building.{PathSum, build}
use Rattle.phase_sum_meaning.specs.Stepping.{replace}
use Rattle.comparison_meaning.specs.Reduction as reduction
use Rattle.comparison_meaning.specs.Reduction.{Counts, counts, add_pin, End, blocks, is_zero, mismatch}
use Rattle.comparison_meaning.specs.Steps.{Ready, l_of, Step, sums, turns, joins, Blocked}
use Rattle.comparison_meaning.specs.Verdict.{Verdict, equal, different, undecided, turned, Result, result, candidates, first_differing, blocked_input, power, miter}

-- z is the lowest number of a kind
pub record Lowest (P : ℕ → Type 0) (z : ℕ) : Type 0 where
  pub is : P z
  pub least : (v : ℕ) → P v → z ≤ v

-- v is a path variable of a set: not one of the n inputs
abbrev pub PathVariable : ℕ → ℕ → ℕ → Type 0
PathVariable n set v = (n ≤ v) × (bit v set ≡ true)

-- a set holds none
abbrev pub NoPathVariable : ℕ → ℕ → Type 0
NoPathVariable n set = (v : ℕ) → PathVariable n set v → ⊥

-- pinning from qubit q upwards, with its end. Q is the parity of output wire q and input q together: its lowest path variable is replaced;
-- or it has none and is constantly 0, and the next qubit follows; or it is blocked
pub data Pins (scratch n : ℕ) : ℕ → PathSum → Counts → End → Type 0 where
  every_qubit : {s : PathSum} {c : Counts} → Pins scratch n n s c (reduction.stops s c)
  pins :
      {q : ℕ} {s : PathSum} {c : Counts} {e : End} (z : ℕ)
      → q < n
      → Lowest (PathVariable n (mismatch scratch q s).vars) z
      → Pins scratch n (suc q) (replace z (rest z (mismatch scratch q s)) s) (add_pin c) e
      → Pins scratch n q s c e
  agrees :
      {q : ℕ} {s : PathSum} {c : Counts} {e : End}
      → q < n
      → NoPathVariable n (mismatch scratch q s).vars
      → is_zero (mismatch scratch q s) ≡ true
      → Pins scratch n (suc q) s c e
      → Pins scratch n q s c e
  unpinnable :
      {q : ℕ} {s : PathSum} {c : Counts}
      → q < n
      → NoPathVariable n (mismatch scratch q s).vars
      → is_zero (mismatch scratch q s) ≡ false
      → Pins scratch n q s c (blocks (mismatch scratch q s) s c)

-- a step that makes document 01's choices: y is the lowest ready variable, and a join replaces the lowest path variable of L
abbrev pub TakesLowest : ℕ → {s : PathSum} {c : Counts} {t : PathSum} {d : Counts} → Step s c t d → Type 0
TakesLowest n {s} (sums y ready kind) = Lowest (λ v. Ready v s) y
TakesLowest n {s} (turns y ready kind) = Lowest (λ v. Ready v s) y
TakesLowest n {s} (joins y z ready kind live held) = Lowest (λ v. Ready v s) y × Lowest (PathVariable n (l_of y s)) z

-- the steps of a sum on n qubits, with their end: no variable is ready; or the lowest that is ready is blocked, since L has no path
-- variable; or a step is taken and others follow
pub data Reduces (n : ℕ) : PathSum → Counts → End → Type 0 where
  none_ready : {s : PathSum} {c : Counts} → ((y : ℕ) → Ready y s → ⊥) → Reduces n s c (reduction.stops s c)
  obstructed :
      {s : PathSum} {c : Counts} {q : Parity} (b : Blocked s q)
      → Lowest (λ v. Ready v s) b.y
      → NoPathVariable n q.vars
      → Reduces n s c (blocks q s c)
  steps_on :
      {s t : PathSum} {c d : Counts} {e : End} (step : Step s c t d)
      → TakesLowest n step
      → Reduces n t d e
      → Reduces n s c e

-- what follows pinning: the steps, unless a qubit was blocked
pub data Continues (n : ℕ) (p : End) : End → Type 0 where
  further : {e : End} → p.blocked_by ≡ none → Reduces n p.sum p.counts e → Continues n p e
  halted : {q : Parity} → p.blocked_by ≡ some q → Continues n p p

-- the steps have stopped, not blocked, with path variables left and none of them ready
abbrev pub Stuck : End → Type 0
Stuck e = (e.blocked_by ≡ none) × (e.sum.live ≡ [] → ⊥) × ((y : ℕ) → Ready y e.sum → ⊥)

-- not blocked, and no path variable left
abbrev pub Done : End → Type 0
Done e = (e.blocked_by ≡ none) × (e.sum.live ≡ [])

-- the reasons for a verdict on the end e with its two inputs: a parity is blocked; path variables are left; none is, and pins and
-- sums differ, or the phase differs at an input; or it does not, and the power of ω that is left is 1, or it is another one, which is shown
pub data Judged (scratch n : ℕ) (e : End) : Verdict → ℕ → ℕ → Type 0 where
  blocked : {q : Parity} → e.blocked_by ≡ some q → Judged scratch n e different (blocked_input n q) (blocked_input n q)
  unready : e.blocked_by ≡ none → (e.sum.live ≡ [] → ⊥) → Judged scratch n e undecided 0 0
  unsized : Done e → (e.counts.pins ≡ e.counts.sums → ⊥) → Judged scratch n e different 0 0
  found :
      {v : ℕ}
      → Done e
      → e.counts.pins ≡ e.counts.sums
      → first_differing e.sum.phase (candidates scratch n) ≡ some v
      → Judged scratch n e different 0 v
  same :
      Done e
      → e.counts.pins ≡ e.counts.sums
      → first_differing e.sum.phase (candidates scratch n) ≡ none
      → power e ≡ 0
      → Judged scratch n e equal 0 0
  rotated :
      Done e
      → e.counts.pins ≡ e.counts.sums
      → first_differing e.sum.phase (candidates scratch n) ≡ none
      → 0 < power e
      → Judged scratch n e turned (power e) 0

-- a result with such a verdict, and with the counts of the end
pub data Shown (scratch n : ℕ) (e : End) : Result → Type 0 where
  shows : {v : Verdict} {a b : ℕ} → Judged scratch n e v a b → Shown scratch n e (result v a b e)

-- r is what document 01's steps give for a pair of lists on n qubits: the sum of first list and inverse second is pinned from qubit 0
-- upwards, then reduced, and r shows the verdict on the end, with the end's counts
pub record Course (scratch n : ℕ) (first second : List Gate) (r : Result) : Type 0 where
  pub pinning : End
  pub end : End
  pub pins : Pins scratch n 0 (build scratch n (miter first second)) (counts 0 0 0 0) pinning
  pub steps : Continues n pinning end
  pub shown : Shown scratch n end r
