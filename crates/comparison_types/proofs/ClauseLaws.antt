-- Laws behind `decide` and `compare`: the built sum of a pair is ready to be pinned, the parts of the comparison chain to its
-- definition, and the contract's clauses on the answer follow from the demands.
-- Assumes nothing.
use mathlib.Core.Path.{◌≡◌, refl, sym, ap, ◌∙◌}
use Prim.Native.Nat.{ℕ, ◌+◌, ◌*◌, ◌≤◌}
use native.Mathlib.Nat.{le_refl}
use native.Mathlib.Omega.{arith}
use mathlib.Core.Bool.{Bool, true, false, ◌||◌}
use mathlib.Core.Option.{Option, none, some}
use Rattle.std.specs.Prelude.{Result as Returned, Ok}
use mathlib.Core.List.{List, ◌++◌}
use lib.ListN.{length, take, drop}
use lib.Seq.{length-take-le}
use lib.Dec.{ltb}
use borrow.Author.Tests.{ltb-false}
use Rattle.record_format.specs.Format.{head_size, gate_size}
use Rattle.record_format.specs.Gate.{Gate, inverse_list}
use Rattle.record_format.specs.Reading.{accepted, read, gates_in}
use Rattle.record_format.proofs.Rows.{none_holds}
use Rattle.amplitude.specs.Circuit.{tally, h_gates}
use Rattle.amplitude.proofs.Linear.{tally-append}
use Rattle.phase_sum_meaning.specs.Building.{PathSum, build}
use Rattle.phase_sum_meaning.specs.Room.{room_for, room, most_variables, places, words_each, set_words}
use Rattle.phase_sum_meaning.proofs.Roominess.{room-build, tally-inverse-room}
use Rattle.phase_sum_words.specs.Words.{sets_in}
use Rattle.phase_sum_types.specs.Workspace.{set_of, Level, Lent, members, Sized}
use Rattle.phase_sum_types.specs.Unmerged.{Builds, Buildable}
use Rattle.phase_sum_types.specs.declared.Sum.{Sum}
use Rattle.phase_sum_types.proofs.TwoWords.{level_places}
use Rattle.phase_sum_types.proofs.Acceptance.{buildable}
use Rattle.comparison_meaning.specs.Reduction as reduction
use Rattle.comparison_meaning.specs.Reduction.{pinned, reduce_end}
use Rattle.comparison_meaning.specs.Verdict.{Result, miter, judge, compare}
use Rattle.comparison_meaning.specs.Demands.{Accepted, Demands, OnePower, ByTheSteps, InputsAsSaid, CliffordIsDecided, CountsAddUp, StepsWithinHGates}
use Rattle.comparison_meaning.proofs.Bytes.{demands_pair}
use Rattle.record_format.specs.Pair.{PairFault}
use Rattle.comparison_types.specs.Call.{says, refuses, result_of, said_of, pair_rows, workspace_rows, pair_fault, compare_read, unless_fault, comparison}
use Rattle.comparison_types.specs.Clauses.{ForResult, Right, Sound, Stops, Inputs, Clifford, CountsUp}
use Rattle.comparison_types.specs.Inner.{GatesRead, PairRead}
use Rattle.comparison_types.specs.declared.Outcome.{Outcome}
use Rattle.comparison_types.specs.declared.Refusal.{Refusal}
use Rattle.comparison_types.specs.declared.Pair.{Pair}
use Rattle.phase_sum_types.proofs.Running.{AsLong}
use Rattle.comparison_types.proofs.PairLaws.{part_of, gates_read}

-- a sum that was built of two lists where there is room for them has room to be reduced
pub built_sized :
    (gs hs : List Gate) {r : Sum} {l l' : Lent} →
    Builds (miter gs hs) r l l' →
    AsLong l l' →
    length l.wires ≤ 16 →
    room gs hs ≤ length l.sets →
    room gs hs ≤ length l.coeffs →
    Sized r l'
built_sized gs hs {r} {l} {l'} b long few sets coeffs =
    let n = length l.wires in
    let fits = room-build 0 n (miter gs hs) in
    let rooms : tally room_for (miter gs hs) ≡ room gs hs = tally-append room_for gs (inverse_list hs) ∙ rw (tally-inverse-room hs) in
    let left : length (members (set_of r.live)) ≡ length (build 0 n (miter gs hs)).live = ap (λ t. length t.live) b.sum in
    record {
      few = omega (arith, few, long.wires);
      sets = omega (arith, b.terms.counted, left, fits, rooms, sets, long.sets);
      coeffs = omega (arith, b.terms.counted, left, fits, rooms, coeffs, long.coeffs);
    }

-- building, pinning, reducing and judging one after the other is the comparison
pub decided :
    (n k : ℕ) (gs hs : List Gate) {u : PathSum} {p e : reduction.End} {o : Result} →
    u ≡ build 0 n (miter gs hs) →
    k ≡ n →
    p ≡ pinned 0 k u →
    e ≡ reduce_end p →
    o ≡ judge 0 n e →
    o ≡ compare 0 n gs hs
unfolding compare
decided n k gs hs built same pins reduces judges = rw (judges, reduces, pins, same, built)

-- where the checks answer a refusal, that is said of the pair
pub refusal_said :
    (s t : List ℕ) (w c : ℕ) {f : PairFault} →
    some f ≡ pair_fault (read s) (read t) (workspace_rows w c) →
    refuses f ≡ comparison s t w c
refusal_said s t w c found = rw (← found)

-- a pair that the checks let pass: two accepted lists on n qubits, their gate bytes, no more variables than a pair may have, and
-- workspaces with all their words and bytes
pub record Passed (s t ss cs : List ℕ) (n : ℕ) (part part' : List ℕ) : Type 0 where
  pub first : GatesRead n s part
  pub second : GatesRead n t part'
  pub variables : n + (h_gates first.list.gates + h_gates second.list.gates) ≤ most_variables
  pub sets : set_words ≤ length ss
  pub coeffs : places ≤ length cs
  pub said : comparison s t (length ss) (length cs) ≡ says (compare 0 n first.list.gates second.list.gates)

-- two conditions of which neither holds
neither : (a b : Bool) → (a || b) ≡ false → (a ≡ false) × (b ≡ false)
neither true b e = let z : ◌≡◌ {A = ℕ} 0 1 = cc in absurd (omega arith)
neither false b e = (refl, e)

-- where the checks find no fault, the pair passes
pub pair_passes :
    (s t ss cs : List ℕ) {p : Pair} →
    none ≡ pair_fault (read s) (read t) (workspace_rows (length ss) (length cs)) →
    PairRead s t p →
    Passed s t ss cs p.n p.first.now p.second.now
unfolding pair_fault compare_read
pair_passes s t ss cs {p} found lists =
    let n = p.n in
    let gs = lists.first.list.gates in
    let hs = lists.second.list.gates in
    let below = workspace_rows (length ss) (length cs) in
    let fault : pair_fault (read s) (read t) below ≡ none = sym found in
    let rows = (none_holds (pair_rows n n gs hs ++ below)).0 (rw (lists.first.list.reads, lists.second.list.reads) at fault) in
    let sizes = neither (ltb (length ss) set_words) (ltb (length cs) places) rows.1.1.0 in
    record {
      first = lists.first;
      second = lists.second;
      variables = ltb-false most_variables (n + (h_gates gs + h_gates hs)) rows.1.0;
      sets = ltb-false (length ss) set_words sizes.0;
      coeffs = ltb-false (length cs) places sizes.1;
      said = rw (fault, lists.first.list.reads, lists.second.list.reads);
    }

-- the gate bytes of a pair that passes
module _ {s t ss cs : List ℕ} {n : ℕ} {part part' : List ℕ} (pass : Passed s t ss cs n part part') where
  -- the first words are those of whole sets, as many as there are first bytes
  pub pass_level : Level (take set_words ss) (take places cs)
  pass_level = rw (length-take-le set_words ss pass.sets, length-take-le places cs pass.coeffs)

  -- they can be built in the first places
  pub pass_fits : Buildable n part part' (sets_in words_each (take set_words ss)) (take places cs)
  pass_fits =
      let list = pass.first.list in
      let other = pass.second.list in
      let bytes : length (take places cs) ≡ places = length-take-le places cs pass.coeffs in
      let sets : length (sets_in words_each (take set_words ss)) ≡ places =
      level_places (take set_words ss) (take places cs) pass_level ∙ bytes in
      rw (pass.first.part, pass.second.part, part_of list, part_of other)
      (buildable s t n list.gates other.gates (sets_in words_each (take set_words ss)) (take places cs) list.reads other.reads
      pass.variables (rw sets (le_refl places)) (rw bytes (le_refl places)))

  -- comparing them gives what is said of the pair
  pub pass_said : {o : Result} → o ≡ compare 0 n (gates_in part) (gates_in part') → says o ≡ comparison s t (length ss) (length cs)
  pass_said {o} e = ap says (rw (gates_read pass.first, gates_read pass.second) at e) ∙ sym pass.said

-- the clauses of an answer that says what the comparison of two records says
module _ (s t : List ℕ) (w c : ℕ) (a : Returned Outcome Refusal) (said : said_of a ≡ comparison s t w c) where
  -- the outcome of two accepted records is the result for their gates
  outcome_is :
      (n : ℕ) (first second : List Gate) (o : Outcome) →
      Accepted s t n first second →
      a ≡ Ok o →
      result_of o ≡ compare 0 n first second
  unfolding compare_read
  outcome_is n first second o pair is =
      go (result_of o) (compare 0 n first second) (pair_fault (accepted n first) (accepted n second) (workspace_rows w c))
      (rw (pair.reads_first, pair.reads_second) at (sym (ap said_of is) ∙ said))
    where
      go : (x y : Result) (f : Option PairFault) → says x ≡ unless_fault f (says y) → x ≡ y
      go x y none e = cc
      go x y (some f) e = let z : ◌≡◌ {A = ℕ} 0 1 = cc in absurd (omega arith)

  -- so what holds of that result holds of the outcome
  holds :
      (P : ℕ → List Gate → List Gate → Result → Type 0) →
      ((n : ℕ) (first second : List Gate) → Demands n first second → P n first second (compare 0 n first second)) →
      ForResult s t a P
  holds P proof n first second o pair is =
      rw (outcome_is n first second o pair is) (proof n first second (demands_pair s t n first second pair))

  -- equal, turned and different are said only where that is right
  pub sound_said : Sound s t a
  sound_said =
      holds (λ n first second r. Right n first second r × OnePower n first second)
      (λ n first second d. ((d.equal_is_right, d.turned_is_right, d.different_is_right), d.one_power))

  -- all the clauses
  pub clauses_said : Sound s t a × (Stops s t a × (Inputs s t a × (Clifford s t a × CountsUp s t a)))
  clauses_said = (
    sound_said,
    (
      holds (λ n first second r. ByTheSteps n first second r) (λ n first second d. d.by_the_steps),
      (
        holds (λ n first second r. InputsAsSaid n first second r) (λ n first second d. d.inputs_as_said),
        (
          holds (λ n first second r. CliffordIsDecided n first second r) (λ n first second d. d.clifford_is_decided),
          holds (λ n first second r. CountsAddUp n first second r × StepsWithinHGates n first second r)
              (λ n first second d. (d.counts_add_up, d.steps_within_h_gates)),
        ),
      ),
    ),
  )
