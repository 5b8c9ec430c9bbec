-- What the writers answer and leave, from what the checks before them answered and from the buffer's length.
-- Assumes nothing.
use mathlib.Core.Path.{◌≡◌, sym, ◌∙◌}
use Prim.Native.Nat.{ℕ, suc, ◌+◌, ◌*◌, ◌≤◌, ◌<◌}
use native.Mathlib.Nat.{add_assoc}
use native.Mathlib.Omega.{arith}
use mathlib.Core.Logic.{◌≢◌}
use mathlib.Core.Bool.{cond}
use mathlib.Core.Option.{none, some}
use mathlib.Core.List.{List, [], ◌∷◌, ◌++◌, append_assoc}
use lib.ListN.{length, take, drop, length-append, length-take, length-drop, length-map, length-reverse}
use lib.Seq.{take-append-add}
use lib.Dec.{ltb, eqb}
use borrow.Author.Tests.{lt-ltb, le-ltb, eq-eqb, ne_eqb}
use Rattle.record_format.specs.Gate.{Gate, Raw, gate_bytes, body_bytes, inverse_list}
use Rattle.record_format.specs.Row.{Fault, fault, Row, row, first}
use Rattle.record_format.specs.Reading.{size, qubits, count, gates, raws, gate_rows, record_rows, read}
use Rattle.record_format.specs.Chunks.{raws_of, gates_of}
use Rattle.record_format.specs.Answer.{gives, refuses}
use Rattle.record_format.specs.Writing.{Outcome, head_bytes, encode, check_answer, write, add, inverse}
use Rattle.record_format.proofs.Rows.{first_none, first_some}
use Rattle.record_format.proofs.Encoding.{length-gate, length-body, length_gates, length-encode, appended, encode-appended, encode-inverted}
use Rattle.record_format.proofs.Storing.{behind_head, with_left, piece_stored}
use Rattle.record_format.proofs.Chunks.{gates_of_raws}
use Rattle.record_format.proofs.Reading.{Accepts, refuses_by}

-- a gate's bytes stored are the first of those of a list
pub gate_stored : (l bytes : List ℕ) (at : ℕ) (g : Gate) (gs : List Gate) → bytes ≡ gate_bytes g → at + 3 * suc (length gs) ≤ length l
    → with_left (take at l ++ bytes ++ drop (at + 3) l) (at + 3) (body_bytes gs) ≡ with_left l at (body_bytes (g ∷ gs))
unfolding body_bytes
gate_stored l bytes at g gs e h =
    rw e (piece_stored l (gate_bytes g) (body_bytes gs) at 3 (length-gate g) (omega (arith, length-body gs)))

-- a writer that is refused by a fault leaves the buffer l alone
abbrev pub turned_down : {F : Type 0} → F → List ℕ → Outcome F
turned_down f l = record { answer = refuses f; buffer = l }

-- a writer with no row of its own is refused where the buffer is shorter than its k bytes
write_short : (new l : List ℕ) (k : ℕ) → length new ≡ k → length l < k → write [] new l ≡ turned_down (fault 11) l
unfolding write first
write_short new l k e h = rw (e, lt-ltb (length l) k h)

-- and writes them where it is not
write_fits : (new l : List ℕ) (k : ℕ) → length new ≡ k → k ≤ length l
    → write [] new l ≡ record { answer = gives (k ∷ []); buffer = new ++ drop k l }
unfolding write first
write_fits new l k e h = simp (e, le-ltb (length l) k h)

-- rows of which none holds leave the length alone to check
write_on : (rows : List (Row Fault)) (new l : List ℕ) → first rows ≡ none → write rows new l ≡ write [] new l
unfolding write
write_on rows new l good = rw (first_none rows (row 11 (ltb (length l) (length new)) ∷ []) good)

-- the first row that holds turns a writer down
pub write_refused : (rows : List (Row Fault)) (new l : List ℕ) (f : Fault) → first rows ≡ some f
    → write rows new l ≡ turned_down f l
unfolding write
write_refused rows new l f bad = rw (first_some rows (row 11 (ltb (length l) (length new)) ∷ []) f bad)

-- adding to a record that is refused
pub add_unread : (r : Raw) (l : List ℕ) (f : Fault) → refuses f ≡ check_answer (read l) → add r l ≡ turned_down f l
unfolding add
add_unread r l f answers = write_refused _ _ l f (first_some (record_rows l) _ f (refuses_by l f answers))

-- the first fault of a gate to add to a record that was accepted
pub first_to_add : (r : Raw) (l : List ℕ) (n g : ℕ) → Accepts l n g
    → first (record_rows l ++ row 4 (eqb (count l) 512) ∷ gate_rows (qubits l) (count l) r)
    ≡ cond (eqb g 512) (some (fault 4)) (first (gate_rows n g r))
unfolding first
first_to_add r l n g read-l = rw (read-l.n_is, read-l.g_is) (first_none (record_rows l) _ read-l.good)

-- adding to a full record
pub add_full : (r : Raw) (l : List ℕ) (n g : ℕ) → Accepts l n g → g ≡ 512 → add r l ≡ turned_down (fault 4) l
unfolding add
add_full r l n g read-l full = write_refused _ _ l (fault 4) (first_to_add r l n g read-l ∙ rw (eq-eqb g 512 full))

-- adding a bad gate
pub add_bad : (r : Raw) (l : List ℕ) (n g : ℕ) (f : Fault) → Accepts l n g → g ≢ 512 → some f ≡ first (gate_rows n g r)
    → add r l ≡ turned_down f l
unfolding add
add_bad r l n g f read-l room bad = write_refused _ _ l f (first_to_add r l n g read-l ∙ rw (ne_eqb g 512 room) (sym bad))

-- adding a good gate
module _ (r : Raw) (l : List ℕ) (n g : ℕ) (read-l : Accepts l n g) (room : g ≢ 512) (passed : none ≡ first (gate_rows n g r)) where
  -- its bytes
  abbrev bytes : List ℕ
  bytes = r.kind ∷ r.a ∷ r.b ∷ []

  -- leaves the length alone to check
  add_good : add r l ≡ write [] (appended n g bytes l) l
  unfolding add
  add_good =
      let good : first (gate_rows n g r) ≡ none = sym passed in
      write_on _ _ l (first_to_add r l n g read-l ∙ rw (ne_eqb g 512 room) good)
      ∙ rw (read-l.n_is, read-l.g_is, encode-appended l r g read-l.good (rw read-l.n_is at good))

  -- the new record is three bytes longer
  length-appended : length (appended n g bytes l) ≡ size g + 3
  length-appended = simp (length-append, length-take, length-drop) (omega (arith, read-l.head.whole, read-l.g_is))

  -- the gate is not added where the buffer ends before its bytes would
  pub add_short : length l < size g + 3 → add r l ≡ turned_down (fault 11) l
  add_short short = add_good ∙ write_short (appended n g bytes l) l (size g + 3) length-appended short

  -- a new head and then its bytes behind the old gates are what adding writes
  pub add_stored : (m : List ℕ) → size g + 3 ≤ length l → m ≡ head_bytes n (g + 1) ++ drop 5 l
      → add r l ≡ record { answer = gives ((size g + 3) ∷ []); buffer = take (size g) m ++ bytes ++ drop (size g + 3) m }
  add_stored m fits e =
      let h : List ℕ = head_bytes n (g + 1) in
      let old : List ℕ = h ++ take (3 * g) (drop 5 l) in
      add_good
      ∙ write_fits (appended n g bytes l) l (size g + 3) length-appended fits
      ∙ rw (e, take-append-add h (drop 5 l) (3 * g), add_assoc 5 (3 * g) 3, behind_head h l (3 * g + 3), append_assoc old bytes)

-- inverting a record that is refused
pub inverse_unread : (s l : List ℕ) (f : Fault) → refuses f ≡ check_answer (read s) → inverse s l ≡ turned_down f l
unfolding inverse
inverse_unread s l f answers = write_refused (record_rows s) _ l f (refuses_by s f answers)

-- the inverse is as long as the record
length-inverse : (s : List ℕ) (n g : ℕ) → Accepts s n g → length (encode (qubits s) (inverse_list (gates s))) ≡ size g
unfolding inverse_list
length-inverse s n g read-s =
    rw (length-encode, length-reverse, length-map, length_gates s read-s.head.whole, read-s.g_is)

-- inverting into a buffer that is too short
pub inverse_short : (s l : List ℕ) (n g : ℕ) → Accepts s n g → length l < size g → inverse s l ≡ turned_down (fault 11) l
unfolding inverse
inverse_short s l n g read-s short = write_on _ _ l read-s.good ∙ write_short _ l (size g) (length-inverse s n g read-s) short

-- a head and then the inverted gates behind it are what inverting writes
pub inverse_stored : (s l : List ℕ) (n g : ℕ) (m : List ℕ) (chunks : List (List ℕ)) → Accepts s n g → size g ≤ length l
    → m ≡ head_bytes n g ++ drop 5 l
    → raws_of chunks ≡ raws (take (3 * g) (drop 5 s))
    → length chunks ≡ g
    → inverse s l
    ≡ record { answer = gives (size g ∷ []); buffer = take 5 m ++ body_bytes (inverse_list (gates_of chunks)) ++ drop (size (length chunks)) m }
unfolding inverse
inverse_stored s l n g m chunks read-s fits e part many =
    write_on _ _ l read-s.good
    ∙ write_fits _ l (size g) (length-inverse s n g read-s) fits
    ∙ rw (many, e, behind_head (head_bytes n g) l (3 * g), encode-inverted s read-s.good, gates_of_raws chunks _ part, read-s.n_is, read-s.g_is)
