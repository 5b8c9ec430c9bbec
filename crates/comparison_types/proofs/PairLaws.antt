-- What the checks on a pair rest on: what `check` answered says how a record reads, the bytes behind an accepted record's head stand for
-- its gates, and which of the pair's rows is the first that holds.
-- Assumes nothing.
use mathlib.Core.Path.{◌≡◌, refl, sym, ap, ◌∙◌}
use Prim.Native.Nat.{ℕ, ◌+◌, ◌*◌, ◌<◌, ◌≤◌}
use native.Mathlib.Omega.{arith}
use mathlib.Core.Bool.{Bool, cond, ◌||◌}
use mathlib.Core.Option.{none, some, none-ne-some}
use mathlib.Core.List.{List, [], ◌∷◌}
use lib.ListN.{length, take, drop}
use lib.Dec.{ltb}
use borrow.Author.Tests.{lt-ltb, le-ltb, eq-eqb, ne_eqb}
use Rattle.record_format.specs.Format.{head_size, gate_size}
use Rattle.record_format.specs.Row.{Fault, Row, first}
use Rattle.record_format.specs.Reading.{Reading, accepted, refused, read, size, gates_in}
use Rattle.record_format.specs.Answer.{gives, refuses}
use Rattle.record_format.specs.Writing.{check_answer, gate_part}
use Rattle.record_format.proofs.Theorems.{accepted_is_sound}
use Rattle.record_format.proofs.Reading.{Accepts, accepts}
use Rattle.record_format.proofs.Rows.{first_none, first_some}
use Rattle.record_format.proofs.Parts.{gates_of_part}
use Rattle.amplitude.specs.Circuit.{h_gates}
use Rattle.gate_counting.proofs.Tallying.{h_gates_few}
use Rattle.phase_sum_meaning.specs.Room.{most_variables, places, set_words}
use Rattle.record_format.specs.Pair.{PairFault, in_first, in_second, of_pair}
use Rattle.comparison_types.specs.Call.{pair_rows, workspace_rows, pair_fault}
use Rattle.comparison_types.specs.Inner.{AcceptedWith, GatesRead}

-- a check that answered n and g accepts the record, with these
pub accepted_with : (s : List ℕ) {n g : ℕ} → gives (n ∷ g ∷ []) ≡ check_answer (read s) → AcceptedWith n g s
accepted_with s {n} {g} answers = go (read s) refl answers
  where
    go : (q : Reading) → read s ≡ q → gives (n ∷ g ∷ []) ≡ check_answer q → AcceptedWith n g s
    go (accepted m gs) e h = record { gates = gs; reads = cc; counted = cc }
    go (refused f) e h = let z : ◌≡◌ {A = ℕ} 0 1 = cc in absurd (omega arith)

-- an accepted list of g gates
module _ {n g : ℕ} {s : List ℕ} (list : AcceptedWith n g s) where
  -- its head is good, and n and g are its own
  pub head_of : Accepts s n g
  head_of = accepts s n g (rw (list.reads, list.counted))

  -- the bytes have the whole record
  pub whole_of : size g ≤ length s
  whole_of = omega (arith, head_of.head.whole, head_of.g_is)

  -- the 3g bytes behind the head are its gate part
  pub part_of : take (gate_size * g) (drop head_size s) ≡ gate_part s (read s)
  part_of = rw (list.reads, head_of.g_is)

  -- they stand for its gates
  pub gates_of : gates_in (take (gate_size * g) (drop head_size s)) ≡ list.gates
  gates_of = rw part_of (gates_of_part s n list.gates list.reads)

  -- what was counted over them are its H gates
  pub h_counted : {bytes : List ℕ} {k : ℕ} → bytes ≡ take (gate_size * g) (drop head_size s) → k ≡ h_gates (gates_in bytes) → k ≡ h_gates list.gates
  h_counted is counted = counted ∙ ap (λ b. h_gates (gates_in b)) is ∙ ap h_gates gates_of

-- the gate bytes of a list that was read stand for its gates
pub gates_read : {n : ℕ} {s bytes : List ℕ} (it : GatesRead n s bytes) → gates_in bytes ≡ it.list.gates
gates_read it = rw it.part (gates_of it.list)

-- a check that answered a refusal refuses the record, by its fault
refused_by_lem : (s : List ℕ) (f : Fault) → refuses f ≡ check_answer (read s) → read s ≡ refused f
refused_by_lem s f answers = go (read s) answers
  where
    go : (q : Reading) → refuses f ≡ check_answer q → q ≡ refused f
    go (accepted m gs) h = let z : ◌≡◌ {A = ℕ} 0 1 = cc in absurd (omega arith)
    go (refused f) h = cc

-- a fault of the first list is the pair's
pub first_refused :
    (s t : List ℕ) (below : List (Row PairFault)) (f : Fault) → refuses f ≡ check_answer (read s)
    → some (in_first f) ≡ pair_fault (read s) (read t) below
unfolding pair_fault
first_refused s t below f answers = rw (refused_by_lem s f answers)

-- behind an accepted first list a fault of the second is the pair's
pub second_refused :
    (s t : List ℕ) (below : List (Row PairFault)) {n g : ℕ} (f : Fault) → AcceptedWith n g s → refuses f ≡ check_answer (read t)
    → some (in_second f) ≡ pair_fault (read s) (read t) below
unfolding pair_fault
second_refused s t below f list answers = rw (list.reads, refused_by_lem t f answers)

-- an accepted list has at most 16 qubits and 512 H gates
pub small : {n g : ℕ} {s : List ℕ} (list : AcceptedWith n g s) → (n ≤ 16) × (h_gates list.gates ≤ 512)
small {n} {g} {s} list =
    let sound = accepted_is_sound s n list.gates list.reads in
    (sound.few_qubits, omega (arith, h_gates_few list.gates, sound.few_gates))

-- two accepted lists
module _ {n m g h : ℕ} {s t : List ℕ} (below : List (Row PairFault)) (list : AcceptedWith n g s) (other : AcceptedWith m h t) where
  -- on other numbers of qubits
  pub differ : (n ≡ m → ⊥) → some (of_pair 8) ≡ pair_fault (read s) (read t) below
  unfolding pair_fault first
  differ apart = rw (list.reads, other.reads, ne_eqb n m apart)

  -- on as many, with too many variables
  pub too_many : n ≡ m → most_variables < n + (h_gates list.gates + h_gates other.gates)
      → some (of_pair 9) ≡ pair_fault (read s) (read t) below
  unfolding pair_fault first
  too_many same many =
      rw (list.reads, other.reads, eq-eqb n m same, lt-ltb most_variables (n + (h_gates list.gates + h_gates other.gates)) many)

  -- with few enough, the rows below decide
  pub below_decide : n ≡ m → n + (h_gates list.gates + h_gates other.gates) ≤ most_variables
      → pair_fault (read s) (read t) below ≡ first below
  unfolding pair_fault first
  below_decide same few =
      rw (list.reads, other.reads, eq-eqb n m same, le-ltb most_variables (n + (h_gates list.gates + h_gates other.gates)) few)

-- what the checks on two records found, with more rows below
module _ (s t : List ℕ) (below : List (Row PairFault)) where
  -- a fault stays
  pub still_refused : (f : PairFault) → some f ≡ pair_fault (read s) (read t) [] → some f ≡ pair_fault (read s) (read t) below
  unfolding pair_fault
  still_refused f = go (read s) (read t)
    where
      go : (r q : Reading) → some f ≡ pair_fault r q [] → some f ≡ pair_fault r q below
      go (refused f) q e = e
      go (accepted n gs) (refused f) e = e
      go (accepted n gs) (accepted m hs) e = sym (first_some (pair_rows n m gs hs) below f (sym e))

  -- without one the rows below decide
  pub rest_decides : none ≡ pair_fault (read s) (read t) [] → pair_fault (read s) (read t) below ≡ first below
  unfolding pair_fault
  rest_decides = go (read s) (read t)
    where
      go : (r q : Reading) → none ≡ pair_fault r q [] → pair_fault r q below ≡ first below
      go (refused f) q e = absurd (none-ne-some (in_first f) e)
      go (accepted n gs) (refused f) e = absurd (none-ne-some (in_second f) e)
      go (accepted n gs) (accepted m hs) e = first_none (pair_rows n m gs hs) below (sym e)

-- a pair that passed is refused by 10 where a workspace is short
pub call_decides : (s t : List ℕ) (w c : ℕ) → none ≡ pair_fault (read s) (read t) [] →
    (b : Bool) → b ≡ (ltb w set_words || ltb c places) → cond b (some (of_pair 10)) none ≡ pair_fault (read s) (read t) (workspace_rows w c)
unfolding first
call_decides s t w c passes b short = rw (rest_decides s t (workspace_rows w c) passes, short)
