-- Bytes of which only the first are there: cut behind its record a list is read as before, and cut at least one byte later it tells whether
-- bytes follow; and a stream cut behind its two records.
-- Assumes nothing.
use Prim.Native.Nat.{ℕ, ◌+◌, ◌*◌, ◌-◌, ◌≤◌, ◌<◌}
use mathlib.Core.Path.{◌≡◌, refl, sym, ap, ◌∙◌}
use mathlib.Core.Logic.{◌⊎◌, inl, inr, ⊎_elim}
use mathlib.Core.Bool.{Bool, true, false, not, true≢false}
use mathlib.Core.Option.{Option, none, some}
use mathlib.Core.List.{List, [], ◌∷◌}
use native.Mathlib.Omega.{arith}
use lib.Dec.{ltb}
use lib.ListN.{length, take, drop, length-take, length-drop}
use Rattle.std.proofs.lemmas.Bool.Decides.{nat_tests}
use Rattle.std.proofs.lemmas.List.{drop-take}
use lib.Seq.{get_or-take, take-take, take_all}
use borrow.Author.Tests.{ltb-true, ltb-false, lt-ltb, le-ltb}
use Rattle.record_format.specs.Format.{list_mark, head_size, gate_size, most_gates}
use Rattle.record_format.specs.Gate.{Gate}
use Rattle.record_format.specs.Row.{Fault, Row, row, first}
use Rattle.record_format.specs.Reading.{qubits, count, size, body, marked, bad_qubits, record_rows, accepted, read}
use Rattle.record_format.proofs.Rows.{none_holds, first_some}
use Rattle.record_format.proofs.Encoding.{GoodHead, good_head}
use Rattle.record_format.proofs.Theorems.{passed}
use Rattle.pair_bytes.specs.Pair.{goes_on, follow, own_size, first_of, second_of}
use Rattle.pair_bytes.specs.Limits.{input_size, stream_size}

-- two tests of an order that hold and fail together
same_test : (a b c d : ℕ) → (a < b → c < d) → (b ≤ a → d ≤ c) → ltb a b ≡ ltb c d
same_test a b c d f g = go (ltb a b) refl
  where
    go : (t : Bool) → ltb a b ≡ t → ltb a b ≡ ltb c d
    go true e = e ∙ sym (lt-ltb c d (f (ltb-true a b e)))
    go false e = e ∙ sym (le-ltb c d (g (ltb-false a b e)))

-- a record's own bytes are fewer than all where others follow
pub own_is_less : (s : List ℕ) → ltb (own_size s) (length s) ≡ goes_on s
own_is_less s = same_test (own_size s) (length s) (size (count s)) (length s) (λ l. omega arith) (λ l. omega arith)

-- what stands behind n of the first k bytes
behind_cut : (n k : ℕ) (s : List ℕ) → n ≤ k → drop n (take k s) ≡ take (k - n) (drop n s)
behind_cut n k s less = let sum : k ≡ n + (k - n) = omega arith in ap (λ (m : ℕ). drop n (take m s)) sum ∙ drop-take n (k - n) s

-- all that stands behind n bytes
pub all_behind : (n : ℕ) (s : List ℕ) → take (length s - n) (drop n s) ≡ drop n s
all_behind n s = take_all (length s - n) (drop n s) (simp length-drop (omega arith))

-- the rows of the head, up to number 4
abbrev upper : List ℕ → List (Row Fault)
upper s = row 1 (ltb (length s) head_size) ∷ row 2 (not (marked list_mark s)) ∷ row 3 (bad_qubits (qubits s)) ∷ row 4 (ltb most_gates (count s)) ∷ []

module _ (k : ℕ) (s : List ℕ) (head : head_size ≤ k) where
  -- g stands in the first k bytes
  same_count : count (take k s) ≡ count s
  same_count = rw (get_or-take k s 3 0 (omega arith), get_or-take k s 4 0 (omega arith)) refl

  -- so does n
  same_qubits : qubits (take k s) ≡ qubits s
  same_qubits = get_or-take k s 2 0 (omega arith)

  -- and so does the mark
  same_mark : marked list_mark (take k s) ≡ marked list_mark s
  same_mark = rw (get_or-take k s 0 0 (omega arith), get_or-take k s 1 0 (omega arith)) refl

  -- whether there are fewer than n bytes is told by the first k, where n is not above k
  same_length : (n : ℕ) → n ≤ k → ltb (length (take k s)) n ≡ ltb (length s) n
  same_length n below =
      let cut = length-take k s in grind (arith, nat_tests)

  -- so the head's rows are the same
  same_upper : upper (take k s) ≡ upper s
  same_upper = rw (same_length head_size head, same_mark, same_qubits, same_count) refl

  -- a list with too many gates is refused by its head
  cut_too_many : ltb most_gates (count s) ≡ true → read (take k s) ≡ read s
  unfolding read record_rows
  cut_too_many many = go (first (upper s)) refl
    where
      go : (o : Option Fault) → first (upper s) ≡ o → read (take k s) ≡ read s
      go none e = absurd (true≢false (sym many ∙ ((none_holds (upper s)).0 e).1.1.1.0))
      go (some f) e = rw (first_some (upper (take k s)) _ f (ap first same_upper ∙ e), first_some (upper s) _ f e)

  module _ (fits : size (count s) ≤ k) (long : k < length s) where
    -- the gates' bytes of a record that ends before the cut
    same_body : take (gate_size * count s) (drop head_size (take k s)) ≡ body s
    same_body =
        rw (behind_cut head_size k s head)
        (take-take (gate_size * count s) (k - head_size) (drop head_size s) (omega arith))

    -- it has the same rows and the same gates
    cut_behind : read (take k s) ≡ read s
    unfolding read record_rows
    cut_behind =
        rw (same_length head_size head, same_mark, same_qubits, same_count, same_length (size (count s)) fits, same_body) refl

  -- where the cut is behind the record, unless its head says too many gates, the record is read as before
  read_cut : (count s ≤ most_gates → size (count s) ≤ k) → read (take k s) ≡ read s
  read_cut fits = go (ltb k (length s)) refl (ltb most_gates (count s)) refl
    where
      go : (b : Bool) → ltb k (length s) ≡ b → (c : Bool) → ltb most_gates (count s) ≡ c → read (take k s) ≡ read s
      go false e c d = ap read (take_all k s (ltb-false k (length s) e))
      go true e true d = cut_too_many d
      go true e false d = cut_behind (fits (ltb-false most_gates (count s) d)) (ltb-true k (length s) e)

  -- where the cut is at least one byte behind the record, it tells whether bytes follow
  goes_cut : size (count s) < k → goes_on (take k s) ≡ goes_on s
  goes_cut fits =
      let cut = length-take k s in rw same_count (grind (arith, nat_tests))

-- the head of an accepted record
accepted_head : {s : List ℕ} {n : ℕ} {gs : List Gate} → read s ≡ accepted n gs → GoodHead s
accepted_head {s} {n} {gs} e = good_head s (passed s n gs e).0

-- s' tells all that matters of s: what reading finds and, where that is a list, whether bytes follow
pub record Tells (s' s : List ℕ) : Type 0 where
  pub reads : read s' ≡ read s
  pub goes : {n : ℕ} {gs : List Gate} → read s ≡ accepted n gs → goes_on s' ≡ goes_on s

-- all bytes do
pub tells_itself : (s : List ℕ) → Tells s s
tells_itself s = record { reads = refl; goes = λ e. refl }

-- so do as many as those of the longest record, and one more
pub tells_cut : (k : ℕ) (s : List ℕ) → input_size ≤ k → Tells (take k s) s
tells_cut k s enough =
    record {
      reads = read_cut k s (omega arith) (λ few. omega arith);
      goes = λ e. let few = (accepted_head e).few_gates in goes_cut k s (omega arith) (omega arith);
    }

-- a stream's first record is the whole stream or ends in it
whole_or_cut : (s : List ℕ) → (first_of s ≡ s) ⊎ (size (count s) ≤ length s)
whole_or_cut s = go (ltb (length s) (size (count s))) refl
  where
    go : (b : Bool) → ltb (length s) (size (count s)) ≡ b → (first_of s ≡ s) ⊎ (size (count s) ≤ length s)
    go true e = let cut = ltb-true (length s) (size (count s)) e in inl (take_all (own_size s) s (omega arith))
    go false e = inr (ltb-false (length s) (size (count s)) e)

-- it is read as the stream is
pub read_first : (s : List ℕ) → read (first_of s) ≡ read s
read_first s = ⊎_elim (λ same. ap read same) (λ whole. read_cut (own_size s) s (omega arith) (λ few. omega arith)) (whole_or_cut s)

-- nothing follows it: of a stream's two records only the second can have bytes behind it
pub only_the_second : (s : List ℕ) → follow (first_of s) (second_of s) ≡ goes_on (second_of s)
only_the_second s =
    let same : count (first_of s) ≡ count s = ⊎_elim (λ same. ap count same) (λ whole. same_count (own_size s) s (omega arith)) (whole_or_cut s) in
    let cut = length-take (own_size s) s in
    let none-behind : goes_on (first_of s) ≡ false = rw same (le-ltb (size (count s)) (length (first_of s)) (omega arith)) in
    rw none-behind refl

-- as many bytes of a stream as those of two longest records, and one more, have the first record whole, where it is accepted, and of the
-- second as many as matter
pub stream_cut :
    (s : List ℕ) {n : ℕ} {gs : List Gate} → read s ≡ accepted n gs
    → (first_of (take stream_size s) ≡ first_of s) × Tells (second_of (take stream_size s)) (second_of s)
stream_cut s e =
    let head = accepted_head e in
    let k = size (count s) in
    let same = same_count stream_size s (omega arith) in
    let long = length-take stream_size s in
    let own : own_size s ≡ k = omega (arith, head.whole) in
    let own' : own_size (take stream_size s) ≡ k = omega (arith, head.whole, head.few_gates) in
    rw (own, own', behind_cut k stream_size s (omega (arith, head.few_gates))) (
      take-take k stream_size s (omega (arith, head.few_gates)),
      tells_cut (stream_size - k) (drop k s) (omega (arith, head.few_gates)),
    )
