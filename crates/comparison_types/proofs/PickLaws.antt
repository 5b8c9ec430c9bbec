-- What the pick rests on: the sizes of an accepted record, that its own bytes read back as the record, which list the pick takes, and
-- that the part it hands back is right.
-- Assumes nothing.
use mathlib.Core.Path.{◌≡◌, refl, sym, ap, ◌∙◌}
use Prim.Native.Nat.{ℕ, ◌+◌, ◌*◌, ◌/◌, ◌<◌, ◌≤◌}
use native.Mathlib.Omega.{arith}
use mathlib.Core.Bool.{Bool, true, false, cond, ◌&&◌, ◌||◌, and-eq-true_iff}
use mathlib.Core.List.{List, []}
use Rattle.std.specs.Prelude.{Result as Returned, Ok, Err}
use lib.ListN.{length, get_or, take, drop, length-take, length-drop, length-map}
use lib.Seq.{get_or-take, take-take, take-add, drop_at}
use lib.Dec.{ltb, eqb}
use borrow.Author.Tests.{ltb-true, lt-ltb, le-ltb, eqb-true, eq-eqb, ne_eqb}
use Rattle.record_format.specs.Format.{head_size, gate_size}
use Rattle.record_format.specs.Gate.{Gate}
use Rattle.record_format.specs.Row.{first}
use Rattle.record_format.specs.Reading.{Reading, accepted, refused, read, count, size, body, record_rows, gates_in}
use Rattle.record_format.proofs.Encoding.{length-raws}
use Rattle.amplitude.specs.Number.{√2^}
use Rattle.amplitude.specs.Circuit.{h_gates, t_gates, column, Carries}
use Rattle.amplitude.proofs.Linear.{ω^_zero}
use Rattle.comparison_meaning.specs.Demands.{Accepted}
use Rattle.comparison_meaning.specs.Verdict.{Result}
use Rattle.record_format.specs.Pair.{PairFault, of_pair}
use Rattle.phase_sum_meaning.specs.Room.{places, set_words}
use Rattle.comparison_types.specs.Call.{fault_of, Said, says, refuses, verdict_of, result_of, said_of, workspace_rows, pair_fault, compare_read, unless_fault, comparison, left_by, better, Choice, the_first, the_second, nothing, is_equal, choice, picked, own_bytes, picked_part, picked_at}
use Rattle.comparison_types.specs.Clauses.{Sound, PickIsRight, EmptyIfRefused}
use Rattle.comparison_types.specs.Inner.{AcceptedWith, GatesRead, ComparedRead}
use Rattle.comparison_types.specs.declared.Verdict.{Verdict}
use Rattle.comparison_types.specs.declared.Verdict.TheVariants.{Equal, Different, Undecided, Turned}
use Rattle.comparison_types.specs.declared.Refusal.{Refusal}
use Rattle.comparison_types.specs.declared.Outcome.{Outcome}
use Rattle.comparison_types.specs.declared.Compared.{Compared}
use Rattle.comparison_types.proofs.PairLaws.{head_of, whole_of, gates_read}
use Rattle.comparison_types.proofs.ClauseLaws.{sound_said}

-- the record at the start of an accepted list's bytes is its own
own_of : {n g : ℕ} {s : List ℕ} → AcceptedWith n g s → take (size g) s ≡ own_bytes s
own_of list = rw (head_of list).g_is

-- the same, by its gate bytes, with which the record ends
module _ {n : ℕ} {s bytes : List ℕ} (it : GatesRead n s bytes) where
  long_read : head_size + length bytes ≡ size it.g
  long_read =
      let whole = whole_of it.list in
      rw it.part (simp (length-take, length-drop) (omega arith))

  pub whole_read : head_size + length bytes ≤ length s
  whole_read = rw long_read (whole_of it.list)

  own_read : take (head_size + length bytes) s ≡ own_bytes s
  own_read = rw long_read (own_of it.list)

module _ (s : List ℕ) (n : ℕ) (gs : List Gate) (e : read s ≡ accepted n gs) where
  -- an accepted record's bytes have it whole
  whole_in : size (count s) ≤ length s
  whole_in =
      let list : AcceptedWith n (length gs) s = record { gates = gs; reads = e; counted = refl } in
      (head_of list).head.whole

  -- its own bytes are some
  own_some : own_bytes s ≡ [] → ⊥
  own_some none_left =
      let long : length (own_bytes s) ≡ size (count s) = simp length-take (omega (arith, whole_in)) in
      omega (arith, long, ap length none_left)

-- bytes with the same head and gate bytes, with room for them, read as the same
same_reading :
    (s u : List ℕ)
    → ((i : ℕ) → i < 5 → get_or u i 0 ≡ get_or s i 0)
    → take (3 * count s) (drop 5 u) ≡ body s
    → size (count s) ≤ length s
    → size (count s) ≤ length u
    → read u ≡ read s
unfolding read record_rows
same_reading s u head gates long long' =
    rw (head 0 (omega arith), head 1 (omega arith), head 2 (omega arith), head 3 (omega arith), head 4 (omega arith), gates)
    (rw (
      le-ltb (length u) 5 (omega arith),
      le-ltb (length s) 5 (omega arith),
      le-ltb (length u) (size (count s)) long',
      le-ltb (length s) (size (count s)) long,
    ))

-- the bytes behind a head, of bytes cut behind them
take_behind : (k : ℕ) (s : List ℕ) → 5 + k ≤ length s → take k (drop 5 (take (5 + k) s)) ≡ take k (drop 5 s)
take_behind k s long =
    let five : length (take 5 s) ≡ 5 = simp length-take (omega arith) in
    rw (take-add 5 k s, drop_at (take 5 s) (take k (drop 5 s)) 5 five) (take-take k k (drop 5 s) (omega arith))

-- the own bytes of an accepted record read back as the record
own_reads : (s : List ℕ) (n : ℕ) (gs : List Gate) → read s ≡ accepted n gs → read (own_bytes s) ≡ accepted n gs
own_reads s n gs e =
    let whole = whole_in s n gs e in
    let long : size (count s) ≤ length (own_bytes s) = simp length-take (omega arith) in
    same_reading s (own_bytes s)
    (λ i below. get_or-take (size (count s)) s i 0 (omega arith))
    (take_behind (3 * count s) s whole)
    whole
    long
    ∙ e

-- the amplitudes of every list agree with themselves
itself : (n : ℕ) (gs : List Gate) → Carries n 0 gs gs
itself n gs v below w below' = ω^_zero (√2^ (h_gates gs) (column gs v w))

module _ (gs hs : List Gate) where
  -- a list with fewer T gates is better
  pub better_fewer : t_gates hs < t_gates gs → true ≡ better gs hs
  better_fewer less = rw (lt-ltb (t_gates hs) (t_gates gs) less)

  -- one with more is not
  pub better_more : t_gates gs < t_gates hs → false ≡ better gs hs
  better_more more =
      let other : t_gates hs ≡ t_gates gs → ⊥ = λ same. omega arith in
      rw (le-ltb (t_gates hs) (t_gates gs) (omega arith), ne_eqb (t_gates hs) (t_gates gs) other)

  -- a better list has at most as many T gates
  better_few : better gs hs ≡ true → t_gates hs ≤ t_gates gs
  better_few = go (ltb (t_gates hs) (t_gates gs)) refl
    where
      go : (b : Bool) → ltb (t_gates hs) (t_gates gs) ≡ b → (b || (eqb (t_gates hs) (t_gates gs) && ltb (length hs) (length gs))) ≡ true
          → t_gates hs ≤ t_gates gs
      go true less h = omega (arith, ltb-true)
      go false more h =
          let same = eqb-true (t_gates hs) (t_gates gs) ((and-eq-true_iff _ _).0 h).0 in
          omega arith

-- of two with as many, the one with fewer gates, by their bytes, three a gate
pub better_shorter :
    (first second : List ℕ) → t_gates (gates_in second) ≡ t_gates (gates_in first)
    → ltb (length second / gate_size) (length first / gate_size) ≡ better (gates_in first) (gates_in second)
better_shorter first second same =
    rw (
      le-ltb (t_gates (gates_in second)) (t_gates (gates_in first)) (omega arith),
      eq-eqb (t_gates (gates_in second)) (t_gates (gates_in first)) same,
    )
    (simp (length-map, length-raws))

-- what is chosen of a pair that was compared
choice_by :
    (r : Result) (n m : ℕ) (gs hs : List Gate)
    → choice (says r) (accepted n gs) (accepted m hs) ≡ cond (is_equal r.verdict && better gs hs) the_second the_first
unfolding choice
choice_by r n m gs hs = go (is_equal r.verdict)
  where
    go : (b : Bool) → cond b (cond (better gs hs) the_second the_first) the_first ≡ cond (b && better gs hs) the_second the_first
    go true = refl
    go false = refl

-- a verdict that stands for equal is that of the enum
is_equal_lem : (v : Verdict) → is_equal (verdict_of v) ≡ true → v ≡ Equal
is_equal_lem Equal h = refl
is_equal_lem Different h = let z : ◌≡◌ {A = ℕ} 0 1 = cc in absurd (omega arith)
is_equal_lem Undecided h = let z : ◌≡◌ {A = ℕ} 0 1 = cc in absurd (omega arith)
is_equal_lem Turned h = let z : ◌≡◌ {A = ℕ} 0 1 = cc in absurd (omega arith)

-- two lists on other numbers of qubits are refused
other_qubits : (n m w c : ℕ) (gs hs : List Gate) (a : Said) → eqb n m ≡ false
    → unless_fault (pair_fault (accepted n gs) (accepted m hs) (workspace_rows w c)) a ≡ refuses (of_pair 8)
unfolding pair_fault first
other_qubits n m w c gs hs a other = rw other

-- two readings that were compared are accepted, on as many qubits
passed : (p q : Reading) (w c : ℕ) (r : Result) → unless_fault (pair_fault p q (workspace_rows w c)) (compare_read p q) ≡ says r
    → (n : ℕ) × (gs : List Gate) × (hs : List Gate) × (p ≡ accepted n gs) × (q ≡ accepted n hs)
unfolding pair_fault
passed (refused f) q w c r h = let z : ◌≡◌ {A = ℕ} 0 1 = cc in absurd (omega arith)
passed (accepted n gs) (refused f) w c r h = let z : ◌≡◌ {A = ℕ} 0 1 = cc in absurd (omega arith)
passed (accepted n gs) (accepted m hs) w c r h = go (eqb n m) refl
  where
    go : (b : Bool) → eqb n m ≡ b
        → (k : ℕ) × (is : List Gate) × (js : List Gate) × (accepted n gs ≡ accepted k is) × (accepted m hs ≡ accepted k js)
    go true same = (n, gs, hs, refl, ap (λ (k : ℕ). accepted k hs) (sym (eqb-true n m same)))
    go false other =
        let z : ◌≡◌ {A = ℕ} 0 1 = cc (other_qubits n m w c gs hs (compare_read (accepted n gs) (accepted m hs)) other) in
        absurd (omega arith)

module _ (s t : List ℕ) (w c : ℕ) where
  -- two records that were compared are accepted, on as many qubits
  accepted_pair : (r : Result) → comparison s t w c ≡ says r
      → (n : ℕ) × (gs : List Gate) × (hs : List Gate) × Accepted s t n gs hs
  accepted_pair r h =
      let (n, gs, hs, e, f) = passed (read s) (read t) w c r h in
      (n, gs, hs, record { reads_first = e; reads_second = f })

  -- which list the pick takes of such a pair
  picked_by : (n : ℕ) (gs hs : List Gate) (r : Result) (b : Bool) → Accepted s t n gs hs → comparison s t w c ≡ says r
      → b ≡ (is_equal r.verdict && better gs hs) → picked s t w c ≡ cond b the_second the_first
  picked_by n gs hs r b pair compared same =
      rw (compared, pair.reads_first, pair.reads_second, same) (choice_by r n n gs hs)

  -- of a refused pair it takes nothing
  picked_nothing : (f : PairFault) → comparison s t w c ≡ refuses f → picked s t w c ≡ nothing
  unfolding choice
  picked_nothing f refuses-it = rw refuses-it

  module _ (a : Returned Outcome Refusal) (said : said_of a ≡ comparison s t w c) (sound : Sound s t a) where
    -- equal is said only where all amplitudes agree
    amplitudes_agree : (n : ℕ) (gs hs : List Gate) (o : Result) → Accepted s t n gs hs → comparison s t w c ≡ says o
        → is_equal o.verdict ≡ true → Carries n 0 gs hs
    amplitudes_agree n gs hs o pair compared equal = go a refl (said ∙ compared)
      where
        go : (b : Returned Outcome Refusal) → a ≡ b → said_of b ≡ says o → Carries n 0 gs hs
        go (Ok out) is h =
            let whole : result_of out ≡ o = cc in
            let same : verdict_of out.verdict ≡ o.verdict = ap (λ (r : Result). r.verdict) whole in
            (sound n gs hs out pair is).0.0 (ap verdict_of (is_equal_lem out.verdict (rw same equal)))
        go (Err r) is h = let z : ◌≡◌ {A = ℕ} 0 1 = cc in absurd (omega arith)

    -- the part that is handed back is right
    right : PickIsRight s t w c (picked_part (picked s t w c) s t)
    right n gs hs o pair compared =
        rw (picked_by n gs hs o (is_equal o.verdict && better gs hs) pair compared refl)
        (go (is_equal o.verdict) (better gs hs) refl refl)
      where
        go : (p q : Bool) → is_equal o.verdict ≡ p → better gs hs ≡ q
            → (chosen : List Gate)
            × (read (picked_part (cond (p && q) the_second the_first) s t) ≡ accepted n chosen)
            × Carries n 0 gs chosen
            × (t_gates chosen ≤ t_gates gs)
        go true true equal is-better = (
          hs,
          own_reads t n hs pair.reads_second,
          amplitudes_agree n gs hs o pair compared equal,
          better_few gs hs is-better,
        )
        go true false equal is-better = (gs, own_reads s n gs pair.reads_first, itself n gs, omega arith)
        go false q equal is-better = (gs, own_reads s n gs pair.reads_first, itself n gs, omega arith)

  -- of accepted records the pick hands back some bytes
  some_bytes : (n : ℕ) (gs hs : List Gate) → Accepted s t n gs hs → (b : Bool) → picked_part (cond b the_second the_first) s t ≡ [] → ⊥
  some_bytes n gs hs pair true = own_some t n hs pair.reads_second
  some_bytes n gs hs pair false = own_some s n gs pair.reads_first

  -- and empty exactly where the comparison refuses
  empty : EmptyIfRefused s t w c (picked_part (picked s t w c) s t)
  empty = (refusing (comparison s t w c) refl, λ (f, e). rw (picked_nothing f e))
    where
      refusing : (a : Said) → comparison s t w c ≡ a → picked_part (picked s t w c) s t ≡ []
          → (f : PairFault) × (comparison s t w c ≡ refuses f)
      refusing (refuses f) e none_left = (f, e)
      refusing (says r) e none_left =
          let (n, gs, hs, pair) = accepted_pair r e in
          let b = is_equal r.verdict && better gs hs in
          absurd (some_bytes n gs hs pair b (rw (picked_by n gs hs r b pair e refl) at none_left))

-- all that the pick's contract says, of the part that starts at r
pub record PickMet {ℓ} {B : Type ℓ} (s t ss cs ss' cs' : List ℕ) (p q r : B) (part : List ℕ) : Type ℓ where
  pub content : part ≡ picked_part (picked s t (length ss) (length cs)) s t
  pub own : r ≡ picked_at (picked s t (length ss) (length cs)) p q
  pub kept :
      (ss' ≡ left_by set_words (comparison s t (length ss) (length cs)) ss) × (cs' ≡ left_by places (comparison s t (length ss) (length cs)) cs)
  pub right : PickIsRight s t (length ss) (length cs) part
  pub empty : EmptyIfRefused s t (length ss) (length cs) part

module _ {ℓ} {B : Type ℓ} (s t ss cs ss' cs' : List ℕ) (p q : B) where
  -- it holds of the part that is chosen
  picks :
      (a : Returned Outcome Refusal) (x : Choice)
      → said_of a ≡ comparison s t (length ss) (length cs)
      → (ss' ≡ left_by set_words (said_of a) ss) × (cs' ≡ left_by places (said_of a) cs)
      → picked s t (length ss) (length cs) ≡ x
      → PickMet s t ss cs ss' cs' p q (picked_at x p q) (picked_part x s t)
  picks a x said kept is =
      let sound : Sound s t a = sound_said s t (length ss) (length cs) a said in
      record {
        content = rw is;
        own = rw is;
        kept = (rw (← said) kept.0, rw (← said) kept.1);
        right = rw (← is) (right s t (length ss) (length cs) a said sound);
        empty = rw (← is) (empty s t (length ss) (length cs));
      }

  -- of a pair that is refused nothing is handed back
  pub pick_refused :
      (e : Refusal)
      → refuses (fault_of e) ≡ comparison s t (length ss) (length cs)
      → (ss' ≡ ss) × (cs' ≡ cs)
      → PickMet s t ss cs ss' cs' p q p []
  pick_refused e said kept = picks (Err e) nothing said kept (picked_nothing s t (length ss) (length cs) (fault_of e) (sym said))

  -- of a pair that was compared, one list's own bytes
  module _
      (c : Compared)
      (said : says (result_of c.outcome) ≡ comparison s t (length ss) (length cs))
      (kept : (ss' ≡ left_by set_words (says (result_of c.outcome)) ss) × (cs' ≡ left_by places (says (result_of c.outcome)) cs))
      (lists : ComparedRead s t c)
    where
      -- whether the second is taken says which
      taken : {b : Bool} → b ≡ (is_equal (verdict_of c.outcome.verdict) && better (gates_in c.first.now) (gates_in c.second.now))
          → picked s t (length ss) (length cs) ≡ cond b the_second the_first
      taken answer =
          picked_by s t (length ss) (length cs) lists.n lists.first.list.gates lists.second.list.gates (result_of c.outcome) _
          (record { reads_first = lists.first.list.reads; reads_second = lists.second.list.reads })
          (sym said)
          (rw (gates_read lists.first, gates_read lists.second) at answer)

      -- the record that was taken
      pub pick_one : (b : Bool) {r : B} {out : List ℕ}
          → b ≡ (is_equal (verdict_of c.outcome.verdict) && better (gates_in c.first.now) (gates_in c.second.now))
          → out ≡ take (head_size + length (cond b c.second.now c.first.now)) (cond b t s)
          → r ≡ cond b q p
          → PickMet s t ss cs ss' cs' p q r out
      pick_one true answer content own = rw (content, own, own_read lists.second) (picks (Ok c.outcome) the_second said kept (taken answer))
      pick_one false answer content own = rw (content, own, own_read lists.first) (picks (Ok c.outcome) the_first said kept (taken answer))
