-- The promises of specs/Promises.antt, each proved.
-- Assumes nothing.
use mathlib.Core.Path.{◌≡◌, refl, sym, ap, ◌∙◌}
use Prim.Native.Nat.{ℕ}
use native.Mathlib.Omega.{arith}
use mathlib.Core.Bool.{Bool, true, false, cond, true≢false}
use mathlib.Core.Option.{Option, none, some}
use mathlib.Core.List.{List, ◌++◌}
use lib.Dec.{eqb}
use borrow.Author.Tests.{eqb-true, not-false}
use Rattle.record_format.specs.Gate.{Gate}
use Rattle.record_format.specs.Row.{Fault, Row, first}
use Rattle.record_format.specs.Reading.{Reading, qubits, gates, record_rows, accepted, refused, unless, read}
use Rattle.record_format.specs.Promises.{NoneHolds}
use Rattle.record_format.proofs.Rows.{none_holds, first_holds, first_is}
use Rattle.record_format.proofs.Pairs.{both_first, both_second, both_good, both_pass}
use Rattle.record_format.proofs.Theorems.{accepted_by_no_row, refusal_of, refusal_back}
use Rattle.comparison_meaning.specs.Verdict.{Result, compare}
use Rattle.record_format.specs.Pair.{PairFault, in_first, in_second, of_pair}
use Rattle.comparison_types.specs.Call.{fault_of, says, refuses, pair_rows, workspace_rows, pair_fault, compare_read, unless_fault, comparison}
use Rattle.comparison_types.specs.Promises.{pair_table, call_rows, PairRefusedByFirstRow, PairAcceptedByNoRow, FirstListsFault, SecondListsFault, PairFaultTells}
use Rattle.comparison_types.specs.declared.Refusal.{Refusal}
use Rattle.comparison_types.specs.declared.Refusal.TheVariants.{First, Second, QubitsDiffer, TooManyVariables, BlockTooLarge, WorkspaceShort}

module _ (s t : List ℕ) (below : List (Row PairFault)) where
  -- the rows under those of the two lists
  abbrev under : List (Row PairFault)
  under = pair_rows (qubits s) (qubits t) (gates s) (gates t) ++ below

  -- what the checks find is the first row of the whole table that holds
  pub table_is : pair_fault (read s) (read t) below ≡ first (pair_table s t below)
  unfolding read pair_fault
  table_is = go (first (record_rows s)) (first (record_rows t)) refl refl
    where
      go : (o p : Option Fault) → first (record_rows s) ≡ o → first (record_rows t) ≡ p
          → pair_fault (unless o (accepted (qubits s) (gates s))) (unless p (accepted (qubits t) (gates t))) below
          ≡ first (pair_table s t below)
      go (some f) p e d = sym (both_first s t under f e)
      go none (some f) e d = sym (both_second s t under f e d)
      go none none e d = sym (both_good s t under e d)

  -- where no row holds, both lists are accepted, on the same qubits
  module _ (e : first (pair_table s t below) ≡ none) where
    pub first_accepted : read s ≡ accepted (qubits s) (gates s)
    first_accepted = (accepted_by_no_row s).1 ((none_holds (record_rows s)).0 (both_pass s t under e).0)

    pub second_accepted : read t ≡ accepted (qubits t) (gates t)
    second_accepted = (accepted_by_no_row t).1 ((none_holds (record_rows t)).0 (both_pass s t under e).1)

    pub same_qubits : qubits s ≡ qubits t
    same_qubits = eqb-true (qubits s) (qubits t) (not-false _ ((none_holds under).0 (both_pass s t under e).2).0)

module _ (s t : List ℕ) (w c : ℕ) where
  -- the result for the gates of both lists
  abbrev result : Result
  result = compare 0 (qubits s) (gates s) (gates t)

  -- where a row holds, its fault is said
  said_some : (f : PairFault) → first (call_rows s t w c) ≡ some f → comparison s t w c ≡ refuses f
  said_some f e = rw (table_is s t (workspace_rows w c), e)

  -- where none does, the result is
  said_none : first (call_rows s t w c) ≡ none → comparison s t w c ≡ says result
  unfolding compare_read
  said_none e =
      rw (table_is s t (workspace_rows w c), e, first_accepted s t (workspace_rows w c) e, second_accepted s t (workspace_rows w c) e)

-- a pair is refused by the first row that holds for it
pub pair_refused_by_first_row : PairRefusedByFirstRow
pair_refused_by_first_row s t w c f = (
  λ said. (first_holds (call_rows s t w c) f).0 (go (first (call_rows s t w c)) refl said),
  λ holds. said_some s t w c f ((first_holds (call_rows s t w c) f).1 holds),
)
  where
    go : (o : Option PairFault) → first (call_rows s t w c) ≡ o → comparison s t w c ≡ refuses f → o ≡ some f
    go none e said = let z : ◌≡◌ {A = ℕ} 0 1 = cc (said_none s t w c e) in absurd (omega arith)
    go (some h) e said = cc (said_some s t w c h e)

-- a pair is accepted where no row holds for it, and then its result is said
pub pair_accepted_by_no_row : PairAcceptedByNoRow
pair_accepted_by_no_row s t w c r = (
  λ said. go (first (call_rows s t w c)) refl said,
  λ (free, same). said_none s t w c ((none_holds (call_rows s t w c)).1 free) ∙ ap says (sym same),
)
  where
    go : (o : Option PairFault) → first (call_rows s t w c) ≡ o → comparison s t w c ≡ says r
        → NoneHolds (call_rows s t w c) × (r ≡ result s t w c)
    go none e said = ((none_holds (call_rows s t w c)).0 e, cc (said_none s t w c e))
    go (some f) e said = let z : ◌≡◌ {A = ℕ} 0 1 = cc (said_some s t w c f e) in absurd (omega arith)

-- a fault of one of the lists
abbrev in_a_list : PairFault → Bool
in_a_list (in_first f) = true
in_a_list (in_second f) = true
in_a_list (of_pair k) = false

module _ (w c : ℕ) where
  -- two accepted lists have no such fault
  no_lists_fault : (n m : ℕ) (gs hs : List Gate) (f : PairFault) → in_a_list f ≡ true
      → pair_fault (accepted n gs) (accepted m hs) (workspace_rows w c) ≡ some f → ⊥
  unfolding pair_fault
  no_lists_fault n m gs hs f lists e =
      let pairs : in_a_list f ≡ false =
      first_is (λ f. in_a_list f ≡ false) (pair_rows n m gs hs ++ workspace_rows w c) f (refl, (refl, (refl, tt))) e in
      true≢false (sym lists ∙ pairs)

  -- a refusal says the fault that the checks find
  said_fault : (p q : Reading) (f : PairFault) → unless_fault (pair_fault p q (workspace_rows w c)) (compare_read p q) ≡ refuses f
      → pair_fault p q (workspace_rows w c) ≡ some f
  unfolding pair_fault compare_read
  said_fault (refused h) q f said = cc
  said_fault (accepted n gs) (refused h) f said = cc
  said_fault (accepted n gs) (accepted m hs) f said = go (first (pair_rows n m gs hs ++ workspace_rows w c)) said
    where
      go : (o : Option PairFault) → unless_fault o (says (compare 0 n gs hs)) ≡ refuses f → o ≡ some f
      go none said = let z : ◌≡◌ {A = ℕ} 0 1 = cc in absurd (omega arith)
      go (some h) said = cc

  -- a fault of the first list is that of its reading
  in_first_lem : (p q : Reading) (f : Fault) → pair_fault p q (workspace_rows w c) ≡ some (in_first f) → p ≡ refused f
  in_first_lem (refused h) q f e = unfold pair_fault in cc
  in_first_lem (accepted n gs) (refused h) f e = unfold pair_fault in let z : ◌≡◌ {A = ℕ} 0 1 = cc in absurd (omega arith)
  in_first_lem (accepted n gs) (accepted m hs) f e = absurd (no_lists_fault n m gs hs (in_first f) refl e)

  -- one of the second is that of its reading, and the first is accepted
  in_second_lem : (p q : Reading) (f : Fault) → pair_fault p q (workspace_rows w c) ≡ some (in_second f)
      → ((n : ℕ) × (gs : List Gate) × (p ≡ accepted n gs)) × (q ≡ refused f)
  in_second_lem (refused h) q f e = unfold pair_fault in let z : ◌≡◌ {A = ℕ} 0 1 = cc in absurd (omega arith)
  in_second_lem (accepted n gs) (refused h) f e = unfold pair_fault in ((n, gs, refl), cc)
  in_second_lem (accepted n gs) (accepted m hs) f e = absurd (no_lists_fault n m gs hs (in_second f) refl e)

-- the first list's fault
pub first_lists_fault : FirstListsFault
unfolding pair_fault
first_lists_fault s t w c f = (
  λ said. in_first_lem w c (read s) (read t) f (said_fault w c (read s) (read t) (in_first f) said),
  λ is. rw is,
)

-- the second list's fault
pub second_lists_fault : SecondListsFault
unfolding pair_fault
second_lists_fault s t w c f = (
  λ said. in_second_lem w c (read s) (read t) f (said_fault w c (read s) (read t) (in_second f) said),
  λ ((n, gs, is), bad). rw (is, bad),
)

-- the refusal that says a fault
refusing : PairFault → Refusal
refusing (in_first f) = First (refusal_of f)
refusing (in_second f) = Second (refusal_of f)
refusing (of_pair k) = cond (eqb k 8) QubitsDiffer (cond (eqb k 9) TooManyVariables (cond (eqb k 14) BlockTooLarge WorkspaceShort))

-- what a refusal says gives it back
refusing_back : (r : Refusal) → refusing (fault_of r) ≡ r
unfolding refusing
refusing_back (First r) = ap First (refusal_back r)
refusing_back (Second r) = ap Second (refusal_back r)
refusing_back QubitsDiffer = refl
refusing_back TooManyVariables = refl
refusing_back BlockTooLarge = refl
refusing_back WorkspaceShort = refl

-- refusals that say the same are the same
pub pair_fault_tells : PairFaultTells
pair_fault_tells r r' h = sym (refusing_back r) ∙ ap refusing h ∙ refusing_back r'
