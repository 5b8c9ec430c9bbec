-- Gates and their bytes: a record that no row stops is the bytes of its gates, and the bytes of gates within the limits are
-- such a record.
-- Assumes nothing.
use mathlib.Core.Path.{◌≡◌, refl, ◌∙◌}
use mathlib.Core.Logic.{◌↔◌}
use Prim.Native.Nat.{ℕ, zero, suc, ◌+◌, ◌*◌, ◌-◌, ◌/◌, ◌%◌, ◌≤◌, ◌<◌}
use native.Mathlib.Omega.{arith}
use native.Mathlib.Nat.{mod-eq_of_lt}
use mathlib.Core.Bool.{Bool, true, false, ◌&&◌, ◌||◌, true≢false, and-false, and-eq-true_iff}
use mathlib.Core.Option.{none}
use mathlib.Core.List.{List, [], ◌∷◌, ◌++◌, map, append-nil, append_assoc}
use lib.Seq.{take-add, take_at}
use lib.ListN.{length, get_or, take, drop, length-append, length-map, length-take, length-drop}
use lib.Dec.{T as IsSo, ltb, leb, eqb, lit<, lit≤}
use borrow.Author.Tests.{ltb-false, leb-true, leb-false, eqb-true, eqb-false, not-false, le-ltb, lt-leb, lt-ltb, ne_eqb}
use Rattle.record_format.specs.Format.{list_mark, head_size, gate_size, most_qubits, most_gates, last_one_qubit, last_kind, no_qubit, from_bytes, Bytes}
use Rattle.record_format.specs.Gate.{Gate, OneQubit, X, Y, Z, S, S†, T, T†, H, TwoQubit, CX, CZ, SWAP, one, two, Within, AllWithin, one_qubit_kinds, two_qubit_kinds, Raw, raw, gate_of, one_qubit_kind, two_qubit_kind, gate_bytes, body_bytes, inverse_kind, inverse_number, inverse_gate, inverse_list}
use Rattle.record_format.specs.Row.{first}
use Rattle.record_format.specs.Reading.{size, count, qubits, body, raws, gates_in, gates, bad_qubits, marked, head_rows, gate_rows, all_gate_rows, record_rows}
use Rattle.record_format.specs.Writing.{head_bytes, encode}
use Rattle.record_format.specs.Promises.{NoneHolds}
use Rattle.record_format.specs.Inner.{inverse_bytes}
use Rattle.record_format.proofs.GateLaws.{inverse_cons, length-inverse}
use Rattle.record_format.proofs.Rows.{none_holds, none_left, none_right, first_none}

-- three bytes are a gate
pub length-raws : (bs : List ℕ) → length (raws bs) ≡ length bs / gate_size
unfolding raws
length-raws [] = refl
length-raws (k ∷ []) = refl
length-raws (k ∷ a ∷ []) = refl
length-raws (k ∷ a ∷ b ∷ rest) = omega (arith, length-raws rest)

-- bytes as long as the head says hold as many gates as it says
pub length_gates : (s : List ℕ) → size (count s) ≤ length s → length (gates s) ≡ count s
length_gates s long = simp (length-map, length-raws, length-take, length-drop) (omega arith)

-- a gate is three bytes
pub length-gate : (g : Gate) → length (gate_bytes g) ≡ gate_size
unfolding gate_bytes
length-gate (one u a) = refl
length-gate (two v a b) = refl

pub length-body : (gs : List Gate) → length (body_bytes gs) ≡ gate_size * length gs
unfolding body_bytes
length-body [] = refl
length-body (g ∷ gs) = simp length-append (omega (arith, length-gate g, length-body gs))

-- the length of a record
pub length-encode : (n : ℕ) (gs : List Gate) → length (encode n gs) ≡ size (length gs)
unfolding encode
length-encode n gs = omega (arith, length-body gs)

-- a gate's bytes, as they stand in a record
abbrev pub raw_of : Gate → Raw
raw_of (one u a) = raw (one_qubit_kind u) a no_qubit
raw_of (two v a b) = raw (two_qubit_kind v) a b

-- a gate's bytes stand for that gate
gate_back : (g : Gate) → gate_of (raw_of g) ≡ g
unfolding gate_of one_qubit_kind two_qubit_kind
gate_back (one u a) = elim u as (λ k. gate_of (raw_of (one k a)) ≡ one k a) [ X ↦ refl | Y ↦ refl | Z ↦ refl | S ↦ refl | S† ↦ refl | T ↦ refl | T† ↦ refl | H ↦ refl ]
gate_back (two v a b) = elim v as (λ k. gate_of (raw_of (two k a b)) ≡ two k a b) [ CX ↦ refl | CZ ↦ refl | SWAP ↦ refl ]

-- a gate's bytes are read first
pub raws-gate : (g : Gate) (rest : List ℕ) → raws (gate_bytes g ++ rest) ≡ raw_of g ∷ raws rest
unfolding raws gate_bytes
raws-gate (one u a) rest = refl
raws-gate (two v a b) rest = refl

-- the bytes of gates stand for those gates
pub raws-body : (gs : List Gate) → gates_in (body_bytes gs) ≡ gs
unfolding body_bytes raws
raws-body [] = refl
raws-body (g ∷ gs) = rw (raws-gate g (body_bytes gs), gate_back g, raws-body gs)

-- the bytes of gates, then of more gates
pub body-append : (gs hs : List Gate) → body_bytes (gs ++ hs) ≡ body_bytes gs ++ body_bytes hs
unfolding body_bytes
body-append [] hs = refl
body-append (g ∷ gs) hs = rw (append_assoc, body-append gs hs)

-- neither of two tests holds
neither : (p q : Bool) → (p || q) ≡ false → (p ≡ false) × (q ≡ false)
neither true q h = absurd (true≢false h)
neither false q h = (refl, h)

-- f numbers a table's entries one after another, from i on
abbrev Numbers {ℓ} : {A : Type ℓ} → (A → ℕ) → ℕ → List A → Type 0
Numbers f i [] = Unit {0}
Numbers f i (x ∷ xs) = (f x ≡ i) × Numbers f (suc i) xs

-- the number of the entry at k
number_at {ℓ} : {A : Type ℓ} (f : A → ℕ) (i : ℕ) (xs : List A) (k : ℕ) (d : A) → Numbers f i xs → k < length xs → f (get_or xs k d) ≡ i + k
number_at f i [] k d h below = absurd (omega arith)
number_at f i (x ∷ xs) zero d h below = omega arith
number_at f i (x ∷ xs) (suc k) d h below = omega (arith, number_at f (suc i) xs k d h.1 (omega arith))

-- a kind on one qubit has its place's number
one_kind : (k : ℕ) → k ≤ last_one_qubit → one_qubit_kind (get_or one_qubit_kinds k H) ≡ k
unfolding one_qubit_kind
one_kind k h =
    let numbers : Numbers one_qubit_kind 0 one_qubit_kinds = (refl, (refl, (refl, (refl, (refl, (refl, (refl, (refl, tt)))))))) in
    omega (arith, number_at one_qubit_kind 0 one_qubit_kinds k H numbers (omega arith))

-- so has a kind on two, counted from 8
two_kind : (k : ℕ) → last_one_qubit < k → k ≤ last_kind → two_qubit_kind (get_or two_qubit_kinds (k - 8) SWAP) ≡ k
unfolding two_qubit_kind
two_kind k above h = omega (arith, number_at two_qubit_kind 8 two_qubit_kinds (k - 8) SWAP (refl, (refl, (refl, tt))) (omega arith))

-- three bytes that no row stops are a gate within n, and are that gate's bytes
pub good_raw :
    (n i : ℕ) (r : Raw) → first (gate_rows n i r) ≡ none → Within n (gate_of r) × (gate_bytes (gate_of r) ≡ r.kind ∷ r.a ∷ r.b ∷ [])
unfolding gate_of gate_bytes
good_raw n i r h = go (leb r.kind last_one_qubit) refl ((none_holds (gate_rows n i r)).0 h)
  where
    go : (c : Bool) → leb r.kind last_one_qubit ≡ c → NoneHolds (gate_rows n i r)
        → Within n (gate_of r) × (gate_bytes (gate_of r) ≡ r.kind ∷ r.a ∷ r.b ∷ [])
    go true low (known, (spare, (range, end))) =
        let no-spare : r.b ≡ no_qubit = eqb-true r.b no_qubit (not-false (eqb r.b no_qubit) (rw low at spare)) in
        rw low (
          leb-false n r.a (neither _ _ range).0,
          rw (one_kind r.kind (leb-true r.kind last_one_qubit low), no-spare),
        )
    go false high (known, (spare, (range, end))) =
        let above : last_one_qubit < r.kind = leb-false r.kind last_one_qubit high in
        let (a-below, second) = neither (leb n r.a) (ltb last_one_qubit r.kind && (leb n r.b || eqb r.a r.b)) range in
        let (b-below, differ) = neither (leb n r.b) (eqb r.a r.b) (rw (lt-ltb last_one_qubit r.kind above) at second) in
        rw high (
          (leb-false n r.a a-below, leb-false n r.b b-below, eqb-false r.a r.b differ),
          rw (two_kind r.kind above (ltb-false last_kind r.kind known)),
        )

-- kinds on one qubit have numbers up to 7
one_low : (u : OneQubit) → one_qubit_kind u ≤ last_one_qubit
unfolding one_qubit_kind
one_low u = lit≤ (elim u as (λ k. IsSo (leb (one_qubit_kind k) last_one_qubit)) [ X ↦ tt | Y ↦ tt | Z ↦ tt | S ↦ tt | S† ↦ tt | T ↦ tt | T† ↦ tt | H ↦ tt ])

-- kinds on two qubits have numbers from 8 to 10
two_high : (v : TwoQubit) → (last_one_qubit < two_qubit_kind v) × (two_qubit_kind v ≤ last_kind)
unfolding two_qubit_kind
two_high v = (lit≤ (elim v as (λ k. IsSo (leb 8 (two_qubit_kind k))) [ CX ↦ tt | CZ ↦ tt | SWAP ↦ tt ]), lit≤ (elim v as (λ k. IsSo (leb (two_qubit_kind k) last_kind)) [ CX ↦ tt | CZ ↦ tt | SWAP ↦ tt ]))

-- the bytes of a gate within n are stopped by no row
pub good_gate : (n i : ℕ) (g : Gate) → Within n g → first (gate_rows n i (raw_of g)) ≡ none
good_gate n i (one u a) below =
    let low = one_low u in
    (none_holds (gate_rows n i (raw_of (one u a)))).1 (
      le-ltb last_kind (one_qubit_kind u) (omega arith),
      (
        and-false (leb (one_qubit_kind u) last_one_qubit),
        (rw (lt-leb n a below, le-ltb last_one_qubit (one_qubit_kind u) low), tt),
      ),
    )
good_gate n i (two v a b) (a-below, b-below, differ) =
    let (high, known) = two_high v in
    (none_holds (gate_rows n i (raw_of (two v a b)))).1 (
      le-ltb last_kind (two_qubit_kind v) known,
      (
        rw (lt-leb (two_qubit_kind v) last_one_qubit high),
        (rw (lt-leb n a a-below, lt-leb n b b-below, ne_eqb a b differ) (and-false (ltb last_one_qubit (two_qubit_kind v))), tt),
      ),
    )

-- checked bytes are gates within n
pub all_within : (n i : ℕ) (rs : List Raw) → first (all_gate_rows n i rs) ≡ none → AllWithin n (map gate_of rs)
unfolding all_gate_rows
all_within n i [] h = tt
all_within n i (r ∷ rs) h = (
  (good_raw n i r (none_left (gate_rows n i r) (all_gate_rows n (suc i) rs) h)).0,
  all_within n (suc i) rs (none_right (gate_rows n i r) (all_gate_rows n (suc i) rs) h),
)

-- checked bytes are the bytes of their gates
gates_bytes :
    (n i : ℕ) (bs : List ℕ)
    → length bs % gate_size ≡ 0
    → first (all_gate_rows n i (raws bs)) ≡ none
    → body_bytes (gates_in bs) ≡ bs
unfolding all_gate_rows raws body_bytes
gates_bytes n i [] h good = refl
gates_bytes n i (k ∷ []) h good = absurd (omega arith)
gates_bytes n i (k ∷ a ∷ []) h good = absurd (omega arith)
gates_bytes n i (k ∷ a ∷ b ∷ rest) h good =
    let here = none_left (gate_rows n i (raw k a b)) (all_gate_rows n (suc i) (raws rest)) good in
    let later = none_right (gate_rows n i (raw k a b)) (all_gate_rows n (suc i) (raws rest)) good in
    rw ((good_raw n i (raw k a b) here).1, gates_bytes n (suc i) rest (omega arith) later)

-- the bytes of gates within n are stopped by no row
pub good_gates : (n i : ℕ) (gs : List Gate) → AllWithin n gs → first (all_gate_rows n i (raws (body_bytes gs))) ≡ none
unfolding all_gate_rows raws body_bytes first
good_gates n i [] h = refl
good_gates n i (g ∷ gs) (here, later) =
    rw (raws-gate g (body_bytes gs))
    (first_none (gate_rows n i (raw_of g)) (all_gate_rows n (suc i) (raws (body_bytes gs))) (good_gate n i g here)
    ∙ good_gates n (suc i) gs later)

-- a number of qubits is not bad exactly where it is 1 to 16
pub good_qubits : (n : ℕ) → (bad_qubits n ≡ false) ↔ ((1 ≤ n) × (n ≤ most_qubits))
good_qubits n = (limits, allowed)
  where
    limits : bad_qubits n ≡ false → (1 ≤ n) × (n ≤ most_qubits)
    limits h =
        let (less, more) = neither (eqb n 0) (ltb most_qubits n) h in
        let some_qubit : n ≡ 0 → ⊥ = eqb-false n 0 less in
        (omega arith, ltb-false most_qubits n more)

    allowed : (1 ≤ n) × (n ≤ most_qubits) → bad_qubits n ≡ false
    allowed (some_qubit, few) = rw (ne_eqb n 0 (omega arith), le-ltb most_qubits n few)

-- what the checks on head and body establish
pub record GoodHead (s : List ℕ) : Type 0 where
  pub long : head_size ≤ length s
  pub mark : (get_or s 0 0 ≡ get_or list_mark 0 0) × (get_or s 1 0 ≡ get_or list_mark 1 0)
  pub some_qubit : 1 ≤ qubits s
  pub few_qubits : qubits s ≤ most_qubits
  pub few_gates : count s ≤ most_gates
  pub whole : size (count s) ≤ length s

-- a record that no row stops has such a head
pub good_head : (s : List ℕ) → first (record_rows s) ≡ none → GoodHead s
unfolding record_rows
good_head s good = go ((none_holds (head_rows s)).0 (none_left (head_rows s) (all_gate_rows (qubits s) 0 (raws (body s))) good))
  where
    go : NoneHolds (head_rows s) → GoodHead s
    go (long, (mark, (qubit, (few, (whole, end))))) =
        let (first-mark, second-mark) = (and-eq-true_iff _ _).0 (not-false (marked list_mark s) mark) in
        let (some_qubit, few_qubits) = (good_qubits (qubits s)).0 qubit in
        record {
          long = ltb-false (length s) head_size long;
          mark = (eqb-true (get_or s 0 0) (get_or list_mark 0 0) first-mark, eqb-true (get_or s 1 0) (get_or list_mark 1 0) second-mark);
          some_qubit = some_qubit;
          few_qubits = few_qubits;
          few_gates = ltb-false most_gates (count s) few;
          whole = ltb-false (length s) (size (count s)) whole;
        }

-- where no row stops a record, none stops its gates
good_body : (s : List ℕ) → first (record_rows s) ≡ none → first (all_gate_rows (qubits s) 0 (raws (body s))) ≡ none
unfolding record_rows
good_body s = none_right (head_rows s) (all_gate_rows (qubits s) 0 (raws (body s)))

-- the gates of a record that no row stops are within n
pub gates_within : (s : List ℕ) → first (record_rows s) ≡ none → AllWithin (qubits s) (gates s)
gates_within s good = all_within (qubits s) 0 (raws (body s)) (good_body s good)

-- the gate bytes of a record that no row stops are the bytes of its gates
pub body_gates : (s : List ℕ) → first (record_rows s) ≡ none → body_bytes (gates s) ≡ body s
body_gates s good =
    let whole = (good_head s good).whole in
    gates_bytes (qubits s) 0 (body s) (simp (length-take, length-drop) (omega arith)) (good_body s good)

-- the bytes that adding writes: the head with one gate more, the old gates' bytes, the new gate's
abbrev pub appended : ℕ → ℕ → List ℕ → List ℕ → List ℕ
appended n g bytes buffer = head_bytes n (g + 1) ++ take (gate_size * g) (drop head_size buffer) ++ bytes

-- the record with one gate more is the old gate bytes behind a new head, and the new gate's bytes
pub encode-appended : (s : List ℕ) (r : Raw) (i : ℕ)
    → first (record_rows s) ≡ none
    → first (gate_rows (qubits s) i r) ≡ none
    → encode (qubits s) (gates s ++ gate_of r ∷ []) ≡ appended (qubits s) (count s) (r.kind ∷ r.a ∷ r.b ∷ []) s
unfolding encode body_bytes
encode-appended s r i good new =
    let same = length_gates s (good_head s good).whole in
    rw (body-append (gates s) (gate_of r ∷ []), body_gates s good, (good_raw (qubits s) i r new).1)
    (rw (length-append (gates s) (gate_of r ∷ []), same))

-- a gate's inverse, in bytes
inverse-gate : (g : Gate) (rest : List ℕ) → inverse_bytes (gate_bytes g ++ rest) ≡ inverse_bytes rest ++ gate_bytes (inverse_gate g)
unfolding inverse_bytes gate_bytes inverse_gate inverse_number inverse_kind one_qubit_kind two_qubit_kind
inverse-gate (one u a) rest =
    elim u as (λ k. inverse_bytes (gate_bytes (one k a) ++ rest) ≡ inverse_bytes rest ++ gate_bytes (inverse_gate (one k a))) [ X ↦ refl | Y ↦ refl | Z ↦ refl | S ↦ refl | S† ↦ refl | T ↦ refl | T† ↦ refl | H ↦ refl ]
inverse-gate (two v a b) rest = elim v as (λ k. inverse_bytes (gate_bytes (two k a b) ++ rest) ≡ inverse_bytes rest ++ gate_bytes (inverse_gate (two k a b))) [ CX ↦ refl | CZ ↦ refl | SWAP ↦ refl ]

-- the inverse of gates, in bytes
pub inverse-body : (gs : List Gate) → body_bytes (inverse_list gs) ≡ inverse_bytes (body_bytes gs)
unfolding body_bytes inverse_bytes
inverse-body [] = unfold inverse_list in refl
inverse-body (g ∷ gs) =
    rw (inverse_cons g gs, body-append (inverse_list gs) (inverse_gate g ∷ []), append-nil, inverse-body gs, inverse-gate g (body_bytes gs))

-- the inverse record is the old head and the bytes of the inverted gates
pub encode-inverted : (s : List ℕ) → first (record_rows s) ≡ none
    → encode (qubits s) (inverse_list (gates s)) ≡ head_bytes (qubits s) (count s) ++ body_bytes (inverse_list (gates s))
unfolding encode
encode-inverted s good = rw (length-inverse, length_gates s (good_head s good).whole)

-- it is the old head and the inverted gate bytes
pub encode-inverse : (s : List ℕ) → first (record_rows s) ≡ none
    → encode (qubits s) (inverse_list (gates s)) ≡ head_bytes (qubits s) (count s) ++ inverse_bytes (body s)
encode-inverse s good = rw (encode-inverted s good, inverse-body (gates s), body_gates s good)

-- a number below 65536 is the number of its two bytes
pub two_bytes_back : (x : ℕ) → x < 65536 → from_bytes (x % 256) (x / 256 % 256) ≡ x
two_bytes_back x h = omega arith

-- two bytes are the bytes of their number
two_bytes_lem : (low high : ℕ) → low < 256 → high < 256 → (from_bytes low high % 256 ≡ low) × (from_bytes low high / 256 % 256 ≡ high)
two_bytes_lem low high l h =
    let quotient : from_bytes low high / 256 ≡ high = omega arith in
    (omega arith, rw (quotient, mod-eq_of_lt h))

-- an element of bytes is below 256
byte : {s : List ℕ} → Bytes s → (i : ℕ) → get_or s i 0 < 256
byte Bytes.none i = lit< tt
byte (Bytes.more x bytes) zero = x
byte (Bytes.more x bytes) (suc i) = byte bytes i

-- five bytes or more begin with their first five
five : (s : List ℕ) → 5 ≤ length s → take 5 s ≡ get_or s 0 0 ∷ get_or s 1 0 ∷ get_or s 2 0 ∷ get_or s 3 0 ∷ get_or s 4 0 ∷ []
five [] h = absurd (omega arith)
five (a ∷ []) h = absurd (omega arith)
five (a ∷ b ∷ []) h = absurd (omega arith)
five (a ∷ b ∷ c ∷ []) h = absurd (omega arith)
five (a ∷ b ∷ c ∷ d ∷ []) h = absurd (omega arith)
five (a ∷ b ∷ c ∷ d ∷ e ∷ s) h = refl

-- a record of bytes that no row stops is, byte for byte, that of its n and gates
pub encode_gates : (s : List ℕ) → first (record_rows s) ≡ none → Bytes s → take (size (count s)) s ≡ encode (qubits s) (gates s)
unfolding encode
encode_gates s good bytes =
    let head = good_head s good in
    let (low, high) = two_bytes_lem (get_or s 3 0) (get_or s 4 0) (byte bytes 3) (byte bytes 4) in
    rw (take-add head_size (gate_size * count s) s, five s head.long, length_gates s head.whole, body_gates s good)
    (rw (head.mark.0, head.mark.1, low, high))

-- the record of up to 512 gates has their count in its head
encoded_count : (n : ℕ) (gs : List Gate) (rest : List ℕ) → length gs ≤ most_gates → count (encode n gs ++ rest) ≡ length gs
unfolding encode
encoded_count n gs rest few = two_bytes_back (length gs) (omega arith)

-- it has their bytes as its gate bytes
encoded_body : (n : ℕ) (gs : List Gate) (rest : List ℕ) → length gs ≤ most_gates → body (encode n gs ++ rest) ≡ body_bytes gs
unfolding encode
encoded_body n gs rest few =
    rw (encoded_count n gs rest few) (take_at (body_bytes gs) rest (gate_size * length gs) (length-body gs))

-- it has them as its gates
pub encoded_gates : (n : ℕ) (gs : List Gate) (rest : List ℕ) → length gs ≤ most_gates → gates (encode n gs ++ rest) ≡ gs
encoded_gates n gs rest few = rw (encoded_body n gs rest few, raws-body gs)

-- the record of n and gates within the limits is stopped by no row
pub encoded_good :
    (n : ℕ) (gs : List Gate) (rest : List ℕ)
    → 1 ≤ n
    → n ≤ most_qubits
    → length gs ≤ most_gates
    → AllWithin n gs
    → first (record_rows (encode n gs ++ rest)) ≡ none
unfolding record_rows encode
encoded_good n gs rest some_qubit few_qubits few within =
    let s = encode n gs ++ rest in
    let same = encoded_count n gs rest few in
    let long : size (length gs) ≤ length s = omega (arith, length-append (body_bytes gs) rest, length-body gs) in
    let head : NoneHolds (head_rows s) = (
      le-ltb (length s) head_size (omega arith),
      (
        refl,
        (
          (good_qubits n).1 (some_qubit, few_qubits),
          (le-ltb most_gates (count s) (rw same few), (le-ltb (length s) (size (count s)) (rw same long), tt)),
        ),
      ),
    ) in
    first_none (head_rows s) (all_gate_rows n 0 (raws (body s))) ((none_holds (head_rows s)).1 head)
    ∙ rw (encoded_body n gs rest few) (good_gates n 0 gs within)
