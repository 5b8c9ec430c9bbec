-- `phase_sum_building::run_pair` meets its contract: the first list runs on the sum of no gates, then the second inverted.
-- Assumes nothing.
use mathlib.Core.Path.{refl, ap, ◌∙◌}
use mathlib.Core.List.{List}
use Prim.Native.Nat.{ℕ}
use native.Mathlib.Omega.{arith}
use lib.ListN.{length}
use Rattle.record_format.specs.Reading.{gates_in}
use Rattle.phase_sum_meaning.specs.Parity.{Parity}
use Rattle.phase_sum_meaning.specs.Building.{initial}
use Rattle.phase_sum_types.specs.declared.Run.{Run}
use Rattle.phase_sum_types.specs.Workspace.{sets_at, lent}
use Rattle.phase_sum_types.specs.Unmerged.{miter_in, append_gates, Leaves, Buildable}
use Rattle.phase_sum_types.proofs.TwoWords.{words_long}
use Rattle.phase_sum_types.proofs.Running.{ToRun, start_run, first_fit, some_run, last_run, all_run, all_variables, initial_wires, leaves_wires}
use Rattle.phase_sum_building.proofs.run_pair.Goals as goal

-- once `start` has set the wires, all gates are still to run
begun_run :
    {first second : List ℕ} {wires wires' : List Parity} (ss : List ℕ) {cs : List ℕ} {s : Run} →
    Buildable (length wires) first second (sets_at ss) cs →
    Leaves (initial 0 (length wires)) 0 s (lent wires ss cs) (lent wires' ss cs) →
    ToRun (append_gates (length wires) (miter_in first second) (initial 0 (length wires))) (miter_in first second) 0 s (lent wires ss cs)
    (lent wires' ss cs)
begun_run {first} {second} {wires} ss {s = s} fits begun =
    start_run first second fits s begun (words_long ss ss (ap length begun.wires ∙ initial_wires (length wires)) refl refl)

pub forwards-half-requires : goal.forwards-half-requires
forwards-half-requires c =
    let a = c.args in
    let run = begun_run a.sets.now c.requires.0 (c.start-begun.ensures _ _) in
    (first_fit (gates_in a.first.now) _ run, c.requires.1)

pub backwards-requires : goal.backwards-requires
backwards-requires c =
    let a = c.args in
    let run = begun_run a.sets.now c.requires.0 (c.start-begun.ensures _ _) in
    let kept = c.forwards-half.auto in
    let long = words_long _ _ (leaves_wires _ _ _ c.forwards-half.ensures) kept.sets kept.coeffs in
    let half = some_run (gates_in a.first.now) _ _ run c.forwards-half.ensures long in
    (half.fits, omega arith)

pub returns : goal.returns
returns c =
    let a = c.args in
    let run = begun_run a.sets.now c.requires.0 (c.start-begun.ensures _ _) in
    let kept = c.forwards-half.auto in
    let long = words_long _ _ (leaves_wires _ _ _ c.forwards-half.ensures) kept.sets kept.coeffs in
    let half = some_run (gates_in a.first.now) _ _ run c.forwards-half.ensures long in
    let kept' = c.backwards.auto in
    let long' = words_long _ _ (leaves_wires _ _ _ c.backwards.ensures) kept'.sets kept'.coeffs in
    let whole = last_run _ _ half c.backwards.ensures long' in
    let used = all_variables whole in
    record {
      sum = all_run whole;
      variables = (omega (arith, used.0, whole.long.wires), used.1);
      places = omega (arith, whole.fits.coeffs);
    }
