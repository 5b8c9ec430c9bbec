-- The promise of specs/Promises.antt on the path-sum comparison, proved; and what reading shows of the lists of a join with an inverse.
-- Assumes nothing.
use mathlib.Core.Path.{◌≡◌, sym, ap, ◌∙◌}
use Prim.Native.Nat.{ℕ, ◌+◌}
use native.Mathlib.Nat.{add-zero}
use mathlib.Core.List.{List, [], ◌++◌, append-nil}
use Rattle.record_format.specs.Gate.{Gate, inverse_list}
use Rattle.record_format.specs.Row.{Row}
use Rattle.record_format.specs.Reading.{qubits, accepted, read}
use Rattle.record_format.specs.Pair.{PairFault}
use Rattle.record_format.proofs.Theorems.{passed, inverse_reads_back}
use Rattle.amplitude.specs.Circuit.{tally, h_gates}
use Rattle.amplitude.proofs.Linear.{tally-append, h_gates-inverse}
use Rattle.comparison_meaning.specs.Verdict.{compare, miter}
use Rattle.joining_types.proofs.ClauseLaws.{time_written}
use Rattle.comparison_types.specs.Call.{pair_fault, compare_read, workspace_rows}
use Rattle.joined_comparison.specs.Promises.{inverted, joined, BothWritten, JoinedWithInverse}

-- a list followed by the inverse of the empty one is the list
pub miter_empty : (gs : List Gate) → miter gs [] ≡ gs
miter_empty gs = unfold inverse_list in append-nil gs

-- so a pair's own list, the first followed by the second's inverse, has with the empty list what the pair has: the same result
compare_joined : (n : ℕ) (first second : List Gate) → compare 0 n (miter first second) [] ≡ compare 0 n first second
unfolding compare
compare_joined n first second = rw (miter_empty (miter first second))

-- and as many H gates
pub h_joined : (first second : List Gate) → h_gates (miter first second) + h_gates [] ≡ h_gates first + h_gates second
unfolding tally
h_joined first second = add-zero (h_gates (miter first second)) ∙ rw (tally-append, h_gates-inverse)

-- what reading shows of the lists of a join with an inverse
pub record Lists (first second spare buffer : List ℕ) : Type 0 where
  pub n : ℕ
  pub gs : List Gate
  pub hs : List Gate
  pub reads_first : read first ≡ accepted n gs
  pub reads_second : read second ≡ accepted n hs
  pub reads_joined : read (joined first second spare buffer) ≡ accepted n (miter gs hs)

-- the same bytes read as one n and one list
one_list : (s : List ℕ) {n m : ℕ} {gs hs : List Gate} → read s ≡ accepted n gs → read s ≡ accepted m hs → (n ≡ m) × (gs ≡ hs)
one_list s {n} {m} {gs} {hs} e d =
    let (_, same-n, same-gates) = passed s n gs e in
    let (_, same-m, same-hs) = passed s m hs d in
    (sym same-n ∙ same-m, sym same-gates ∙ same-hs)

-- they are the first list, the second, and their own list
pub lists : (first second spare buffer : List ℕ) → BothWritten first second spare buffer → Lists first second spare buffer
lists first second spare buffer both =
    let (m, hs, reads, reads-inverted, _) = inverse_reads_back second spare both.values both.inverts in
    let now = time_written first (inverted first second spare buffer) buffer both.values' both.joins in
    let (same-n, same-list) = one_list (inverted first second spare buffer) now.reads_second reads-inverted in
    record {
      n = now.n;
      gs = now.first;
      hs = hs;
      reads_first = now.reads_first;
      reads_second = reads ∙ ap (λ k. accepted k hs) (sym same-n);
      reads_joined = now.reads_joined ∙ ap (λ xs. accepted now.n (now.first ++ xs)) same-list;
    }

-- the fault of a pair's own list with the empty one is the pair's
pub fault_joined : (n : ℕ) (gs hs : List Gate) (below : List (Row PairFault))
    → pair_fault (accepted n (miter gs hs)) (accepted n []) below ≡ pair_fault (accepted n gs) (accepted n hs) below
unfolding pair_fault
fault_joined n gs hs below = rw (h_joined gs hs)

-- comparing by the join says what comparing the pair says
pub joined_with_inverse : JoinedWithInverse
unfolding compare_read
joined_with_inverse first second spare buffer empty w c both reads-empty =
    let l = lists first second spare buffer both in
    let n_is : qubits first ≡ l.n = (passed first l.n l.gs l.reads_first).1 in
    rw (
      l.reads_first,
      l.reads_second,
      l.reads_joined,
      reads-empty,
      n_is,
      fault_joined l.n l.gs l.hs (workspace_rows w c),
      compare_joined l.n l.gs l.hs,
    )
