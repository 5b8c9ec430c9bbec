-- The promises of specs/Promises.antt on a fault's index, each proved.
-- Assumes nothing.
use mathlib.Core.Path.{◌≡◌, refl, sym, ap, ◌∙◌}
use Prim.Native.Nat.{ℕ, zero, suc, ◌+◌, ◌≤◌, ◌<◌}
use native.Mathlib.Nat.{sub-zero}
use native.Mathlib.Numerals.{add-one}
use native.Mathlib.Omega.{arith}
use mathlib.Core.Bool.{Bool, true, false}
use mathlib.Core.Option.{Option, none, some, none-ne-some, some-injective}
use mathlib.Core.List.{List, [], ◌∷◌, ◌++◌}
use lib.ListN.{length}
use lib.Dec.{eqb, ltb, leb}
use borrow.Author.Tests.{leb-true, leb-false, eqb-true, eqb-false, ne_eqb}
use Rattle.record_format.specs.Format.{most_gates}
use Rattle.record_format.specs.Gate.{Gate, Raw, gate_of}
use Rattle.record_format.specs.Row.{Fault, fault, Row, row, first}
use Rattle.record_format.specs.Reading.{size, qubits, count, body, raws, raw_at, gates, head_rows, gate_rows, all_gate_rows, record_rows, accepted, refused, read}
use Rattle.record_format.specs.Answer.{refuses}
use Rattle.record_format.specs.Writing.{Outcome, encode, write, start, add, inverse}
use Rattle.record_format.specs.Report.{report_rows, write_report, read_report}
use Rattle.record_format.specs.Promises.{FirstHolds, writer_rows, FirstBadGate, IndexIsFirstBad, AddedGateIndex, RecordsFaultIsKept, IndexedAsAGate, OnlyGatesHaveAnIndex}
use Rattle.record_format.proofs.Rows.{none_holds, first_holds, first_none, first_some, AllFaults, all_both, first_is}
use Rattle.record_format.proofs.Reading.{gates_all, rows_from, rows_from_end, pass_good, stop_bad, whole-body, Accepts, accepts}
use Rattle.record_format.proofs.Theorems.{stopped, read_refused, refused_writer_changes_nothing}
use Rattle.record_format.proofs.Writers.{write_refused, first_to_add}

-- no fault has no index and one
no_index : (f : Fault) (i : ℕ) → f.index ≡ none → f.index ≡ some i → ⊥
no_index f i without with = none-ne-some i (sym without ∙ with)

-- no fault of head and body has an index
head_index : (s : List ℕ) (f : Fault) → first (head_rows s) ≡ some f → f.index ≡ none
head_index s f = first_is (λ f. f.index ≡ none) (head_rows s) f (refl, (refl, (refl, (refl, (refl, tt)))))

-- every fault of a gate has its index
gate_index : (n i : ℕ) (r : Raw) (f : Fault) → first (gate_rows n i r) ≡ some f → f.index ≡ some i
gate_index n i r f = first_is (λ f. f.index ≡ some i) (gate_rows n i r) f (refl, (refl, (refl, tt)))

-- the gates from index k up to i pass, and the one at i, which is below g, has the fault f
record FirstBad (s : List ℕ) (n g k i : ℕ) (f : Fault) : Type 0 where
  pub above : k ≤ i
  pub below : i < g
  pub pass : (j : ℕ) → k ≤ j → j < i → first (gate_rows n j (raw_at s j)) ≡ none
  pub bad : first (gate_rows n i (raw_at s i)) ≡ some f

-- a gate that passes before the first bad one
one_more :
    (s : List ℕ) (n g k i : ℕ) (f : Fault) → first (gate_rows n k (raw_at s k)) ≡ none → FirstBad s n g (k + 1) i f → FirstBad s n g k i f
one_more s n g k i f good later =
    record {
      above = omega (arith, later.above);
      below = later.below;
      pass = λ j from to. go j from to (eqb j k) refl;
      bad = later.bad;
    }
  where
    go : (j : ℕ) → k ≤ j → j < i → (b : Bool) → eqb j k ≡ b → first (gate_rows n j (raw_at s j)) ≡ none
    go j from to true same = rw (eqb-true j k same) good
    go j from to false other = let apart : (j ≡ k → ⊥) = eqb-false j k other in later.pass j (omega arith) to

-- the first fault of a record's gates from index k on, of which so many are left at most, is that of the first bad one
first_bad :
    (s : List ℕ) (n g : ℕ) (f : Fault) → size g ≤ length s → (left k : ℕ) → g ≤ k + left → first (rows_from s n g k) ≡ some f
    → (i : ℕ) × FirstBad s n g k i f
unfolding first
first_bad s n g f whole zero k few h =
    absurd (none-ne-some f (sym (ap first (rows_from_end s n g k (omega arith))) ∙ h))
first_bad s n g f whole (suc left) k few h =
    go (leb g k) refl (first (gate_rows n k (raw_at s k))) refl (first_bad s n g f whole left (k + 1) (omega arith))
  where
    go : (b : Bool) → leb g k ≡ b → (o : Option Fault) → first (gate_rows n k (raw_at s k)) ≡ o
        → (first (rows_from s n g (k + 1)) ≡ some f → (i : ℕ) × FirstBad s n g (k + 1) i f)
        → (i : ℕ) × FirstBad s n g k i f
    go true past o e later = absurd (none-ne-some f (sym (ap first (rows_from_end s n g k (leb-true g k past))) ∙ h))
    go false here none good later =
        let (i, bad) = later (sym (pass_good s n g k (leb-false g k here) whole good) ∙ h) in (i, one_more s n g k i f good bad)
    go false here (some f') bad later =
        let same : f' ≡ f = some-injective f' f (sym (stop_bad s n g k f' (leb-false g k here) whole bad) ∙ h) in (
          k,
          record { above = omega arith; below = leb-false g k here; pass = λ j from to. absurd (omega arith); bad = bad ∙ ap some same },
        )

-- the gates before index i pass
passes :
    (s : List ℕ) (n g i : ℕ) → size g ≤ length s → i ≤ g → ((j : ℕ) → j < i → first (gate_rows n j (raw_at s j)) ≡ none)
    → first (rows_from s n g 0) ≡ first (rows_from s n g i)
passes s n g zero whole few good = refl
passes s n g (suc i) whole few good =
    passes s n g i whole (omega arith) (λ j below. good j (omega arith))
    ∙ pass_good s n g i (omega arith) whole (good i (omega arith))
    ∙ rw (add-one i)

-- a fault of head and body is the record's
of_head : (s : List ℕ) (f : Fault) → first (head_rows s) ≡ some f → first (record_rows s) ≡ some f
unfolding record_rows
of_head s f = first_some (head_rows s) (all_gate_rows (qubits s) 0 (raws (body s))) f

-- behind a head that passes, the first fault of a record is that of its gates
of_gates : (s : List ℕ) → first (head_rows s) ≡ none → first (record_rows s) ≡ first (rows_from s (qubits s) (count s) 0)
unfolding record_rows
of_gates s good = first_none (head_rows s) (all_gate_rows (qubits s) 0 (raws (body s))) good ∙ rw sub-zero

-- the index is that of the first gate that one of its rows applies to
pub index_is_first_bad : IndexIsFirstBad
unfolding read
index_is_first_bad s i f = (λ (is, at). forth at (stopped s f is) (first (head_rows s)) refl, back)
  where
    forth : f.index ≡ some i → first (record_rows s) ≡ some f → (o : Option Fault) → first (head_rows s) ≡ o → FirstBadGate s i f
    forth at stops none good =
        let (k, found) =
        first_bad s (qubits s) (count s) f (whole-body s good) (count s) 0 (omega arith) (sym (of_gates s good) ∙ stops) in
        let same : k ≡ i = some-injective k i (sym (gate_index (qubits s) k (raw_at s k) f found.bad) ∙ at) in
        let gate : FirstBadGate s k f =
        record {
          head = (none_holds (head_rows s)).0 good;
          below = found.below;
          before = λ j below. (none_holds (gate_rows (qubits s) j (raw_at s j))).0 (found.pass j (omega arith) below);
          bad = (first_holds (gate_rows (qubits s) k (raw_at s k)) f).0 found.bad;
        } in
        rw (← same) gate
    forth at stops (some h) bad =
        let same : h ≡ f = some-injective h f (sym (of_head s h bad) ∙ stops) in
        absurd (no_index f i (head_index s f (bad ∙ ap some same)) at)

    back : FirstBadGate s i f → (read s ≡ refused f) × (f.index ≡ some i)
    back gate =
        let good = (none_holds (head_rows s)).1 gate.head in
        let whole = whole-body s good in
        let bad = (first_holds (gate_rows (qubits s) i (raw_at s i)) f).1 gate.bad in
        let pass : (j : ℕ) → j < i → first (gate_rows (qubits s) j (raw_at s j)) ≡ none =
        λ j below. (none_holds (gate_rows (qubits s) j (raw_at s j))).1 (gate.before j below) in
        let below = gate.below in
        let stops : first (record_rows s) ≡ some f =
        of_gates s good
        ∙ passes s (qubits s) (count s) i whole (omega arith) pass
        ∙ stop_bad s (qubits s) (count s) i f below whole bad in
        (rw stops, gate_index (qubits s) i (raw_at s i) f bad)

-- adding to an accepted record
module _ (r : Raw) (l : List ℕ) (n : ℕ) (gs : List Gate) (is : read l ≡ accepted n gs) where
  -- it has n qubits and as many gates as gs
  there : Accepts l n (length gs)
  there = accepts l n (length gs) (rw is)

  -- the record that adding writes
  abbrev new : List ℕ
  new = encode (qubits l) (gates l ++ gate_of r ∷ [])

  -- the rows that are tried before the buffer's
  abbrev rows : List (Row Fault)
  rows = record_rows l ++ row 4 (eqb (count l) most_gates) ∷ gate_rows (qubits l) (count l) r

  -- that of the buffer
  abbrev short : List (Row Fault)
  short = row 11 (ltb (length l) (length new)) ∷ []

  -- a fault with an index is that of the new gate
  of_new_gate :
      (f : Fault) (i : ℕ) → first (rows ++ short) ≡ some f → f.index ≡ some i
      → (length gs < most_gates) × (first (gate_rows n (length gs) r) ≡ some f)
  of_new_gate f i stops at = go (eqb (length gs) most_gates) refl (first (gate_rows n (length gs) r)) refl
    where
      -- f is the fault of the rows before that of the buffer, where these have one
      is_first : (h : Fault) → first rows ≡ some h → h ≡ f
      is_first h bad = some-injective h f (sym (first_some rows short h bad) ∙ stops)

      go : (b : Bool) → eqb (length gs) most_gates ≡ b → (o : Option Fault) → first (gate_rows n (length gs) r) ≡ o
          → (length gs < most_gates) × (first (gate_rows n (length gs) r) ≡ some f)
      go true full o e =
          let same : fault 4 ≡ f = is_first (fault 4) (first_to_add r l n (length gs) there ∙ rw full) in
          absurd (no_index f i (sym (ap (λ (f : Fault). f.index) same)) at)
      go false room (some h) e =
          let apart : (length gs ≡ most_gates → ⊥) = eqb-false (length gs) most_gates room in
          let same : h ≡ f = is_first h (first_to_add r l n (length gs) there ∙ rw (room, e)) in
          (omega (arith, there.head.few_gates, there.g_is), e ∙ ap some same)
      go false room none e =
          let good : first rows ≡ none = first_to_add r l n (length gs) there ∙ rw (room, e) in
          absurd (no_index f i (first_is (λ f. f.index ≡ none) short f (refl, tt) (sym (first_none rows short good) ∙ stops)) at)

-- an added gate's index is g
pub added_gate_index : AddedGateIndex
unfolding add
added_gate_index r l n i gs f is = (forth, back)
  where
    forth : ((add r l).answer ≡ refuses f) × (f.index ≡ some i)
        → (length gs < most_gates) × (i ≡ length gs) × FirstHolds (gate_rows n (length gs) r) f
    forth (answers, at) =
        let stops = (first_holds (writer_rows (rows r l n gs is) (new r l n gs is) l) f).1
        (refused_writer_changes_nothing (rows r l n gs is) (new r l n gs is) l f answers).0 in
        let (room, bad) = of_new_gate r l n gs is f i stops at in
        let same = some-injective i (length gs) (sym at ∙ gate_index n (length gs) r f bad) in
        (room, same, (first_holds (gate_rows n (length gs) r) f).0 bad)

    back : (length gs < most_gates) × (i ≡ length gs) × FirstHolds (gate_rows n (length gs) r) f
        → ((add r l).answer ≡ refuses f) × (f.index ≡ some i)
    back (room, same, holds) =
        let bad = (first_holds (gate_rows n (length gs) r) f).1 holds in
        let apart : (length gs ≡ most_gates → ⊥) = λ full. omega arith in
        let stops : first (rows r l n gs is) ≡ some f =
        first_to_add r l n (length gs) (there r l n gs is) ∙ rw (ne_eqb (length gs) most_gates apart) bad in
        (ap (λ (o : Outcome Fault). o.answer) (write_refused _ _ l f stops), gate_index n (length gs) r f bad ∙ ap some (sym same))

-- a record's own fault is that of every call that reads it
pub records_fault_is_kept : RecordsFaultIsKept
unfolding add inverse
records_fault_is_kept s f is =
    let stops = stopped s f is in (
      rw is,
      λ r. ap (λ (o : Outcome Fault). o.answer) (write_refused _ _ s f (first_some (record_rows s) _ f stops)),
      λ buffer. ap (λ (o : Outcome Fault). o.answer) (write_refused _ _ buffer f stops),
    )

-- the faults of a record have an index exactly where they are a gate's
record_indexed : (s : List ℕ) → AllFaults IndexedAsAGate (record_rows s)
unfolding record_rows
record_indexed s =
    all_both IndexedAsAGate (head_rows s) (all_gate_rows (qubits s) 0 (raws (body s)))
    (refl, (refl, (refl, (refl, (refl, tt)))))
    (gates_all IndexedAsAGate (λ i. (refl, refl, refl)) (qubits s) 0 (raws (body s)))

-- what all faults of a writer's rows are, and 11 is, that its answer is
writer_is :
    (P : Fault → Type 0) (rows : List (Row Fault)) (new buffer : List ℕ) (f : Fault) → AllFaults P rows → P (fault 11)
    → (write rows new buffer).answer ≡ refuses f → P f
writer_is P rows new buffer f all last answers =
    first_is P (writer_rows rows new buffer) f (all_both P rows _ all (last, tt))
    ((first_holds (writer_rows rows new buffer) f).1 (refused_writer_changes_nothing rows new buffer f answers).0)

-- only gates have an index
pub only_gates_have_an_index : OnlyGatesHaveAnIndex
unfolding start add inverse write_report read_report
only_gates_have_an_index =
    record {
      reading = λ s f is. first_is IndexedAsAGate (record_rows s) f (record_indexed s) (stopped s f is);
      starting = λ n l f answers. writer_is IndexedAsAGate _ _ l f (refl, tt) refl answers;
      adding = λ r l f answers. writer_is IndexedAsAGate _ _ l f
          (all_both IndexedAsAGate (record_rows l) _ (record_indexed l) (refl, (refl, (refl, (refl, tt))))) refl answers;
      inverting = λ s l f answers. writer_is IndexedAsAGate _ _ l f (record_indexed s) refl answers;
      writing_reports = λ r l f answers. writer_is (λ f. f.index ≡ none) _ _ l f (refl, tt) refl answers;
      reading_reports = λ s f answers. first_is (λ f. f.index ≡ none) (report_rows s) f (refl, (refl, (refl, tt))) (read_refused _ _ f answers);
    }
