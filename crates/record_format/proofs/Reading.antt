-- What the reader's proofs use: the rows of a record's gates one gate after another, and the answer to a whole record by what
-- the checks on its head and on its gates found.
-- Assumes nothing.
use mathlib.Core.Path.{◌≡◌, refl, sym, ap, ◌∙◌}
use Prim.Native.Nat.{ℕ, suc, ◌+◌, ◌-◌, ◌*◌, ◌≤◌, ◌<◌}
use mathlib.Core.Option.{Option, none, some}
use mathlib.Core.List.{List, [], ◌∷◌, ◌++◌}
use native.Mathlib.Numerals.{add-one}
use native.Mathlib.Omega.{arith}
use lib.ListN.{length, get_or, take, drop}
use borrow.Author.Tests.{ltb-false}
use Rattle.record_format.specs.Gate.{Raw, raw, raw_of_three}
use Rattle.record_format.specs.Row.{Fault, fault_at, Row, first}
use Rattle.record_format.specs.Reading.{qubits, count, size, body, raws, raw_at, gates, head_rows, gate_rows, all_gate_rows, record_rows, accepted, unless, read}
use Rattle.record_format.specs.Chunks.{raws_of}
use Rattle.record_format.specs.Answer.{gives, refuses}
use Rattle.record_format.specs.Writing.{fault_or, check_answer}
use Rattle.record_format.specs.Inner.{head_answer}
use Rattle.record_format.proofs.Rows.{none_holds, first_none, first_some, AllFaults, all_both}
use Rattle.record_format.proofs.Encoding.{GoodHead, good_head, length_gates}
use Rattle.record_format.proofs.Storing.{three_at}
use Rattle.std.proofs.lemmas.List.{at_drop_more, at_drop_all}

-- what all faults of one gate are, those of several gates are
pub gates_all :
    (P : Fault → Type 0) → ((i : ℕ) → P (fault_at i 5) × P (fault_at i 7) × P (fault_at i 6)) → (n i : ℕ) (rs : List Raw)
    → AllFaults P (all_gate_rows n i rs)
unfolding all_gate_rows
gates_all P each n i [] = tt
gates_all P each n i (r ∷ rs) =
    let (five, seven, six) = each i in
    all_both P (gate_rows n i r) (all_gate_rows n (suc i) rs) (five, (seven, (six, tt))) (gates_all P each n (suc i) rs)

-- the first of m + 1 gates from place p on
raws_step : (s : List ℕ) (p m : ℕ) → p + 3 * suc m ≤ length s
    → raws (take (3 * suc m) (drop p s)) ≡ raw (get_or s p 0) (get_or s (p + 1) 0) (get_or s (p + 2) 0) ∷ raws (take (3 * m) (drop (p + 3) s))
unfolding raws
raws_step s p m h =
    let bytes : 3 * suc m ≡ suc (suc (suc (3 * m))) = omega arith in
    rw (bytes, three_at s p (omega arith))

-- the rows of a record's g gates, from the one at index i on
abbrev pub rows_from : List ℕ → ℕ → ℕ → ℕ → List (Row Fault)
rows_from s n g i = all_gate_rows n i (raws (take (3 * (g - i)) (drop (5 + 3 * i) s)))

-- behind the last gate there are none
pub rows_from_end : (s : List ℕ) (n g i : ℕ) → g ≤ i → rows_from s n g i ≡ []
unfolding all_gate_rows raws
rows_from_end s n g i h =
    let e : g - i ≡ 0 = omega arith in
    rw e

-- those of the gate at index i come first
rows_from_step : (s : List ℕ) (n g i : ℕ) → i < g → 5 + 3 * g ≤ length s
    → rows_from s n g i ≡ gate_rows n i (raw_at s i) ++ rows_from s n g (i + 1)
unfolding all_gate_rows
rows_from_step s n g i h whole =
    let left : g - i ≡ suc (g - (i + 1)) = omega arith in
    let next : 5 + 3 * (i + 1) ≡ 5 + 3 * i + 3 = omega arith in
    let inside : 5 + 3 * i + 3 * suc (g - (i + 1)) ≤ length s = omega arith in
    rw (left, raws_step s (5 + 3 * i) (g - (i + 1)) inside, next, add-one i)

-- a good gate is passed
pub pass_good : (s : List ℕ) (n g i : ℕ) → i < g → 5 + 3 * g ≤ length s → first (gate_rows n i (raw_at s i)) ≡ none
    → first (rows_from s n g i) ≡ first (rows_from s n g (i + 1))
pass_good s n g i h whole good =
    rw (rows_from_step s n g i h whole) (first_none (gate_rows n i (raw_at s i)) (rows_from s n g (i + 1)) good)

-- a bad gate's fault is the first
pub stop_bad : (s : List ℕ) (n g i : ℕ) (f : Fault) → i < g → 5 + 3 * g ≤ length s → first (gate_rows n i (raw_at s i)) ≡ some f
    → first (rows_from s n g i) ≡ some f
stop_bad s n g i f h whole bad =
    rw (rows_from_step s n g i h whole) (first_some (gate_rows n i (raw_at s i)) (rows_from s n g (i + 1)) f bad)

-- the rows of gates in chunks of three bytes, from the one at index i on
abbrev pub chunk_rows : ℕ → List (List ℕ) → ℕ → List (Row Fault)
chunk_rows n chunks i = all_gate_rows n i (raws_of (drop i chunks))

-- behind the last gate there are none
pub chunk_rows_end : (n : ℕ) (chunks : List (List ℕ)) (i : ℕ) → length chunks ≤ i → first (chunk_rows n chunks i) ≡ none
unfolding first all_gate_rows
chunk_rows_end n chunks i h = at_drop_all (λ cs. first (all_gate_rows n i (raws_of cs))) chunks i h

module _ (n : ℕ) (chunks : List (List ℕ)) (i : ℕ) (h : i < length chunks) where
  -- those of the gate at index i come first
  chunk_rows_step : first (chunk_rows n chunks i)
      ≡ first (gate_rows n i (raw_of_three (get_or chunks i [])) ++ chunk_rows n chunks (i + 1))
  unfolding all_gate_rows
  chunk_rows_step =
      rw (add-one i) (rw (add-one i) at (at_drop_more (λ cs. first (all_gate_rows n i (raws_of cs))) chunks i [] h))

  -- a good gate is passed
  pub chunk_passed : none ≡ first (gate_rows n i (raw_of_three (get_or chunks i [])))
      → first (chunk_rows n chunks (i + 1)) ≡ first (chunk_rows n chunks i)
  chunk_passed good = sym (chunk_rows_step ∙ first_none (gate_rows n i (raw_of_three (get_or chunks i []))) _ (sym good))

  -- a bad gate's fault is the first
  pub chunk_stopped : {f : Fault} → some f ≡ first (gate_rows n i (raw_of_three (get_or chunks i [])))
      → some f ≡ first (chunk_rows n chunks i)
  chunk_stopped {f} bad = sym (chunk_rows_step ∙ first_some (gate_rows n i (raw_of_three (get_or chunks i []))) _ f (sym bad))

-- where no row stops head and body, the body is whole
pub whole-body : (s : List ℕ) → first (head_rows s) ≡ none → size (count s) ≤ length s
whole-body s good = ltb-false (length s) (size (count s)) ((none_holds (head_rows s)).0 good).1.1.1.1.0

-- a head that is accepted: no row stops it, n and g are its own, and the body is whole
pub record HeadPassed (s : List ℕ) (n g : ℕ) : Type 0 where
  pub good : first (head_rows s) ≡ none
  pub n_is : n ≡ qubits s
  pub g_is : g ≡ count s
  pub whole : size (count s) ≤ length s

-- a head that answers n and g is accepted, and they are its own
pub head_gives : (s : List ℕ) (n g : ℕ) → gives (n ∷ g ∷ []) ≡ head_answer s → HeadPassed s n g
head_gives s n g = go (first (head_rows s)) refl
  where
    go : (o : Option Fault) → first (head_rows s) ≡ o → gives (n ∷ g ∷ []) ≡ fault_or o (gives (qubits s ∷ count s ∷ []))
        → HeadPassed s n g
    go none e h =
        record {
          good = e;
          n_is = cc;
          g_is = cc;
          whole = whole-body s e;
        }
    go (some f) e h = let z : ◌≡◌ {A = ℕ} 0 1 = cc in absurd (omega arith)

-- a record whose head is refused is refused by the same fault
pub head_refuses : (s : List ℕ) (f : Fault) → refuses f ≡ head_answer s → refuses f ≡ check_answer (read s)
unfolding read record_rows
head_refuses s f = go (first (head_rows s)) refl
  where
    go : (o : Option Fault) → first (head_rows s) ≡ o → refuses f ≡ fault_or o (gives (qubits s ∷ count s ∷ []))
        → refuses f ≡ check_answer (read s)
    go none e h = cc
    go (some f) e h = rw (first_some (head_rows s) (all_gate_rows (qubits s) 0 (raws (body s))) f e) h

-- where the head is accepted, the check of the gates decides
pub check_decides : (s : List ℕ) (n g : ℕ) (o : Option Fault) → gives (n ∷ g ∷ []) ≡ head_answer s
    → o ≡ first (all_gate_rows n 0 (raws (take (3 * g) (drop 5 s)))) → fault_or o (gives (n ∷ g ∷ [])) ≡ check_answer (read s)
unfolding read record_rows
check_decides s n g o h found =
    let head = head_gives s n g h in
    rw (found, first_none (head_rows s) (all_gate_rows (qubits s) 0 (raws (body s))) head.good, head.n_is, head.g_is)
    (go head.whole (first (all_gate_rows (qubits s) 0 (raws (body s)))))
  where
    go : size (count s) ≤ length s → (f : Option Fault)
        → fault_or f (gives (qubits s ∷ count s ∷ [])) ≡ check_answer (unless f (accepted (qubits s) (gates s)))
    go whole none = ap (λ (k : ℕ). gives (qubits s ∷ k ∷ [])) (sym (length_gates s whole))
    go whole (some f) = refl

-- so a bad gate refuses the record
pub gates_refuse : (s : List ℕ) (n g : ℕ) (f : Fault) → gives (n ∷ g ∷ []) ≡ head_answer s
    → some f ≡ first (all_gate_rows n 0 (raws (take (3 * g) (drop 5 s)))) → refuses f ≡ check_answer (read s)
gates_refuse s n g f h found = check_decides s n g (some f) h found

-- an accepted record: no row stops it, its head is good, and n and g are its own
pub record Accepts (s : List ℕ) (n g : ℕ) : Type 0 where
  pub good : first (record_rows s) ≡ none
  pub head : GoodHead s
  pub n_is : n ≡ qubits s
  pub g_is : g ≡ count s

-- a check that answers n and g accepts the record, and they are its own
pub accepts : (s : List ℕ) (n g : ℕ) → gives (n ∷ g ∷ []) ≡ check_answer (read s) → Accepts s n g
unfolding read
accepts s n g answers = go (first (record_rows s)) refl answers
  where
    go : (o : Option Fault) → first (record_rows s) ≡ o → gives (n ∷ g ∷ []) ≡ check_answer (unless o (accepted (qubits s) (gates s)))
        → Accepts s n g
    go none good h =
        let head : GoodHead s = good_head s good in
        let length-is : g ≡ length (gates s) = cc in
        record { good = good; head = head; n_is = cc; g_is = length-is ∙ length_gates s head.whole }
    go (some f) bad h = let z : ◌≡◌ {A = ℕ} 0 1 = cc in absurd (omega arith)

-- a check that refuses a record found its fault
pub refuses_by : (s : List ℕ) (f : Fault) → refuses f ≡ check_answer (read s) → first (record_rows s) ≡ some f
unfolding read
refuses_by s f answers = go (first (record_rows s)) answers
  where
    go : (o : Option Fault) → refuses f ≡ check_answer (unless o (accepted (qubits s) (gates s))) → o ≡ some f
    go none h = let z : ◌≡◌ {A = ℕ} 0 1 = cc in absurd (omega arith)
    go (some f') h = cc
