-- What is said of a block that the checks let pass is what the definition says.
-- Assumes nothing.
use mathlib.Core.Path.{◌≡◌, sym, ap, ◌∙◌}
use Prim.Native.Nat.{ℕ}
use mathlib.Core.List.{List}
use mathlib.Core.Option.{none}
use Rattle.std.specs.Prelude.{Result, Err}
use Rattle.record_format.specs.Reading.{read, gates_in}
use Rattle.comparison_types.specs.Call.{pair_fault, fault_of}
use Rattle.comparison_types.specs.declared.Refusal.{Refusal}
use Rattle.comparison_types.proofs.PairLaws.{gates_read}
use Rattle.dense_meaning.specs.Columns.{finding}
use Rattle.dense_types.specs.Call.{found, says, refuses, said_of, block_rows, dense_comparison}
use Rattle.dense_types.specs.Clauses.{Exact, Sound, First, Inputs, Agrees}
use Rattle.dense_types.specs.declared.Outcome.{Outcome}
use Rattle.dense_types.proofs.ClauseLaws.{is_exact, is_sound, is_first, has_inputs, does_agree}
use Rattle.dense_checking.specs.Checking.{found_fault, Passes}
use Rattle.dense_checking.proofs.Rows.{own_n, own_gates}
use Rattle.dense_judging.specs.declared.Lists.{Lists}

-- what the columns of a block show is said
pub shown_said : {s t : List ℕ} {k : ℕ} {b : Lists} (pass : Passes s t k b) →
    none ≡ pair_fault (read s) (read t) (block_rows s t k) →
    says (found (finding b.n (gates_in b.first.now) (gates_in b.second.now))) ≡ dense_comparison s t k
shown_said {s} {t} {k} {b} pass fault =
    let list = pass.first.list in
    let other = pass.second.list in
    rw (gates_read pass.first, gates_read pass.second, ← fault)
    (ap (λ m. says (found (finding m list.gates other.gates))) (sym (own_n list)) ∙ rw (own_gates list, own_gates other))

-- a refusal that the checks found is said
pub refusal_said : (s t : List ℕ) (k : ℕ) {r : Result Lists Refusal} {f : Refusal} → found_fault r ≡ pair_fault (read s) (read t) (block_rows s t k) →
    r ≡ Err f → refuses (fault_of f) ≡ dense_comparison s t k
refusal_said s t k fault refused = rw (← fault, refused)

-- the clauses on an answer that is said
pub clauses : (s t : List ℕ) (k : ℕ) (a : Result Outcome Refusal) → said_of a ≡ dense_comparison s t k →
    Exact s t a × (Sound s t a × (First s t a × (Inputs s t a × Agrees s t a)))
clauses s t k a said = (is_exact s t k a said, (is_sound s t k a said, (is_first s t k a said, (has_inputs s t k a said, does_agree s t k a said))))
