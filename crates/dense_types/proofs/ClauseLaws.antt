-- The contract's clauses on the answer, from what the answer says: the theorems of dense_meaning, and for `agrees` those of the path sums.
-- Assumes nothing.
use mathlib.Core.Path.{◌≡◌, refl, sym, ap, subst, ◌∙◌}
use Prim.Native.Nat.{ℕ, zero, suc, ◌≤◌, ◌<◌}
use native.Mathlib.Omega.{arith}
use lib.Pow.{pow_pos}
use mathlib.Core.List.{List}
use Rattle.record_format.specs.Gate.{Gate, AllWithin}
use Rattle.record_format.specs.Reading.{accepted, read, qubits, gates}
use Rattle.record_format.proofs.Rows.{none_holds}
use Rattle.record_format.proofs.Theorems.{passed, accepted_is_sound}
use Rattle.amplitude.specs.Circuit.{Carries}
use Rattle.comparison_meaning.specs.Verdict.{Verdict, Result, equal, different, undecided, turned, number, agreement, compare}
use Rattle.comparison_meaning.specs.Demands.{SomePower, DecidedBy}
use Rattle.comparison_meaning.proofs.Theorems.{decided_by, one_power, decided_unless}
use Rattle.comparison_types.specs.Call as pair
use Rattle.comparison_types.proofs.Theorems.{first_accepted, second_accepted, same_qubits, pair_accepted_by_no_row}
use Rattle.comparison_types.specs.Promises.{pair_table}
use Rattle.dense_meaning.specs.Columns.{Finding, carried_by, unfit_at, finding}
use Rattle.dense_meaning.proofs.Theorems.{found_if_carried, shown_is_first, shown_is_unfit}
use Rattle.dense_types.specs.Call.{Found, found, compare_columns, found_of, said_of, dense_comparison}
use Rattle.dense_types.specs.Clauses.{ExactlyDecided, ShownApart, ShownFirst, ShownAsSaid, ForFound, Exact, Sound, First, Inputs, SameVerdict, Agrees}
use Rattle.dense_types.specs.declared.Outcome.{Outcome}
use Rattle.comparison_types.specs.declared.Refusal.{Refusal}
use Rattle.std.specs.Prelude.{Result as Returned, Ok}
use Rattle.dense_types.proofs.Theorems.{block_accepted_by_no_row}

-- what a verdict says of a power of ω: equal that it is 0, turned that it is not; the others are said of none
abbrev OfPower : Verdict → ℕ → Type 0
OfPower equal j = j ≡ 0
OfPower turned j = 1 ≤ j
OfPower different j = ⊥
OfPower undecided j = ⊥

-- the verdict of a power says what is so of it
of_power : (j : ℕ) {v : Verdict} → agreement j ≡ v → OfPower v j
of_power zero e = rw (← e)
of_power (suc j) e = rw (← e) (omega arith)

-- how the comparison of columns ends: a power carries the pair, or an input is shown
data Ends (n : ℕ) (first second : List Gate) : Finding → Type 0 where
  carried : {j : ℕ} → j < 8 → Carries n j first second → Ends n first second (carried_by j)
  shown : {v : ℕ} → finding n first second ≡ unfit_at v → Ends n first second (unfit_at v)

-- two lists within n qubits
module _ (n : ℕ) (first second : List Gate) (l : AllWithin n first) (r : AllWithin n second) where
  -- so it does
  ends : Ends n first second (finding n first second)
  ends = go (finding n first second) refl
    where
      go : (x : Finding) → finding n first second ≡ x → Ends n first second x
      go (carried_by j) e = let (small, carries) = (found_if_carried n first second l r j).0 e in carried small carries
      go (unfit_at v) e = shown e

  -- no power carries the pair where an input is shown
  not_carried : (v : ℕ) → finding n first second ≡ unfit_at v → SomePower n first second → ⊥
  not_carried v e (j, small, carries) =
      let z : ◌≡◌ {A = ℕ} 0 1 = cc ((found_if_carried n first second l r j).1 (small, carries)) in absurd (omega arith)

  -- the verdict says exactly what carries the pair
  decided : {x : Finding} → Ends n first second x → DecidedBy n first second (found x).verdict (found x).first
  decided (carried {j} small carries) =
      decided_by n first second (one_power n first second l r) _ _
      (λ h. rw (of_power j h) at carries) (λ h. ((of_power j h, small), carries)) (λ h. absurd (of_power j h)) (of_power j)
  decided (shown {v} e) =
      decided_by n first second (one_power n first second l r) _ _
      (λ h. absurd (omega (arith, ap number h))) (λ h. absurd (omega (arith, ap number h))) (λ h. not_carried v e) (λ h. omega (arith, ap number h))

  -- and what is shown with it is right
  first_shown : {x : Finding} → Ends n first second x → ShownFirst n first second (found x)
  first_shown (carried {j} small carries) h = absurd (of_power j h)
  first_shown (shown {v} e) h = let (none-fits, before) = shown_is_first n first second v e in (refl, none-fits, before)

  sound : {x : Finding} → Ends n first second x → ShownApart n first second (found x)
  sound (carried {j} small carries) h = absurd (of_power j h)
  sound (shown {v} e) h = let (inside, none-fits) = shown_is_unfit n first second l r v e in (pow_pos n, inside, none-fits)

  inputs : {x : Finding} → Ends n first second x → ShownAsSaid n first second (found x)
  inputs (carried {j} small carries) = (λ h. (of_power j h, refl), λ h. refl)
  inputs (shown e) = (λ h. absurd (omega (arith, ap number h)), λ h. absurd (omega (arith, ap number h)))

  -- two verdicts that say so are the same, and where that is turned with the same power
  same_verdict :
      (v w : Verdict) (a b : ℕ)
      → DecidedBy n first second v a
      → DecidedBy n first second w b
      → (v ≡ w) × (w ≡ turned → a ≡ b)
  same_verdict v equal a b d e = (d.equal_if.1 (e.equal_if.0 refl), λ h. absurd (omega (arith, ap number h)))
  same_verdict v turned a b d e = let (is, same) = (d.turned_if b).1 ((e.turned_if b).0 (refl, refl)) in (is, λ h. same)
  same_verdict v different a b d e = (d.different_if.1 (e.different_if.0 refl), λ h. absurd (omega (arith, ap number h)))
  same_verdict v undecided a b d e = absurd (e.not_undecided refl)

  -- so that of the columns is that of the path sums
  agrees : ((compare 0 n first second).verdict ≡ undecided → ⊥) → SameVerdict (compare_columns n first second) (compare 0 n first second)
  agrees decides = same_verdict _ _ _ _ (decided ends) (decided_unless n first second l r decides)

-- an accepted record is within its qubits, and n and its gates are its own
pub own : (s : List ℕ) (n : ℕ) (gs : List Gate) → read s ≡ accepted n gs → (qubits s ≡ n) × (gates s ≡ gs) × AllWithin n gs
own s n gs e = ((passed s n gs e).1, (passed s n gs e).2, (accepted_is_sound s n gs e).within)

-- what the path sums compare is a pair of accepted lists on the same qubits
both_accepted : (s t : List ℕ) (w c : ℕ) (r : Result) → pair.comparison s t w c ≡ pair.says r →
    (read s ≡ accepted (qubits s) (gates s)) × (read t ≡ accepted (qubits s) (gates t))
both_accepted s t w c r said =
    let rows = pair.workspace_rows w c in
    let free = (none_holds (pair_table s t rows)).1 ((pair_accepted_by_no_row s t w c r).0 said).0 in
    (first_accepted s t rows free, rw (same_qubits s t rows free) (second_accepted s t rows free))

-- the answer that is said
module _ (s t : List ℕ) (k : ℕ) (a : Returned Outcome Refusal) (steps : said_of a ≡ dense_comparison s t k) where
  -- an outcome is what the columns of both lists show
  outcome : (o : Outcome) → a ≡ Ok o → found_of o ≡ compare_columns (qubits s) (gates s) (gates t)
  outcome o is = ((block_accepted_by_no_row s t k (found_of o)).0 (sym steps ∙ ap said_of is)).1

  -- a demand that holds of what is found for all lists holds of it
  for_found : (Demand : ℕ → List Gate → List Gate → Found → Type 0) →
      ((n : ℕ) (first second : List Gate) → AllWithin n first → AllWithin n second → Demand n first second (compare_columns n first second)) →
      ForFound s t a Demand
  for_found Demand holds n first second o reads is =
      let (same-n, same_first, within) = own s n first reads.reads_first in
      let (_, same_second, within') = own t n second reads.reads_second in
      rw (outcome o is, same-n, same_first, same_second) (holds n first second within within')

  -- the clauses
  pub is_exact : Exact s t a
  is_exact = for_found (λ n first second f. ExactlyDecided n first second f) (λ n first second l r. (decided n first second l r (ends n first second l r), one_power n first second l r))

  pub is_sound : Sound s t a
  is_sound = for_found (λ n first second f. ShownApart n first second f) (λ n first second l r. sound n first second l r (ends n first second l r))

  pub is_first : First s t a
  is_first = for_found (λ n first second f. ShownFirst n first second f) (λ n first second l r. first_shown n first second l r (ends n first second l r))

  pub has_inputs : Inputs s t a
  has_inputs = for_found (λ n first second f. ShownAsSaid n first second f) (λ n first second l r. inputs n first second l r (ends n first second l r))

  pub does_agree : Agrees s t a
  does_agree o w c r is said decided =
      let accepts = both_accepted s t w c r said in
      let l = (own s (qubits s) (gates s) accepts.0).2 in
      let m = (own t (qubits s) (gates t) accepts.1).2 in
      let result = ((pair_accepted_by_no_row s t w c r).0 said).1 in
      subst (λ f. SameVerdict f r) (sym (outcome o is)) (rw result (agrees (qubits s) (gates s) (gates t) l m (rw result at decided)))
