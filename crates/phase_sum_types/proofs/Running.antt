-- Gates run on a sum whose wires and terms stand in lent slices: what each of the functions that run a gate leaves, and what is left to
-- run while a loop or a row of calls goes over a list.
-- Assumes nothing.
use mathlib.Core.Path.{◌≡◌, refl, sym, ap, ◌∙◌}
use Prim.Native.Nat.{ℕ, ◌+◌, ◌-◌, ◌%◌, ◌≤◌}
use native.Mathlib.Omega.{arith}
use mathlib.Core.List.{List, [], ◌∷◌, ◌++◌, append-nil}
use lib.ListN.{length, get_or, set, length-set, length-append, length-map}
use Rattle.record_format.specs.Gate.{Gate, one, two, X, Y, Z, S, S†, T, T†, H, CX, CZ, SWAP, AllWithin, inverse_list}
use Rattle.record_format.specs.Reading.{gates_in}
use Rattle.record_format.proofs.GateLaws.{within_append, within_inverse}
use Rattle.amplitude.specs.Circuit.{tally, is_h, h_gates}
use Rattle.amplitude.proofs.Linear.{tally-append, h_gates-inverse}
use Rattle.phase_sum_meaning.specs.Sets.{single, from}
use Rattle.phase_sum_meaning.specs.Parity.{Parity, of, complement}
use Rattle.phase_sum_meaning.specs.Phase.{Term, Phase as Polynomial, add_constant}
use Rattle.phase_sum_meaning.specs.Building.{PathSum, input, initial, build, wire, set_wire, with_phase, product_by, hadamard_by, gate_by}
use Rattle.phase_sum_meaning.specs.Room.{room_for, room, most_variables}
use Rattle.phase_sum_types.specs.Workspace.{set_of, held, sets_of, coeffs_of, over, Stored, merged, Phased, alone, parity_of, Lent, slices, members}
use Rattle.phase_sum_types.specs.Unmerged.{miter_in, put_behind, append_gate, append_gates, sum_in, Runnable, Leaves, Moves, Builds, Buildable}
use Rattle.phase_sum_types.specs.Inner.{append_phase, on_h}
use Rattle.phase_sum_types.specs.declared.Set.{Set}
use Rattle.phase_sum_types.specs.declared.Phase.{Phase}
use Rattle.phase_sum_types.specs.declared.Parity.{Parity as ParityWord}
use Rattle.phase_sum_types.specs.declared.Run.{Run}
use Rattle.phase_sum_types.proofs.Storing.{length-held, over_grown, stored_same, stored-held, stored_grown, stored_again}
use Rattle.phase_sum_types.proofs.Merging.{merged-build, merged_gates, merged_sum}
use Rattle.phase_sum_meaning.proofs.PhaseLaws.{length-rebuild}
use Rattle.phase_sum_meaning.proofs.Roominess.{tally-inverse-room}
use Rattle.phase_sum_meaning.proofs.VariableLaws.{from-length}
use Rattle.phase_sum_meaning.proofs.Wellformed.{live_gates}

-- as many wires as there were, and as long slices
pub record AsLong (l l' : Lent) : Type 0 where
  pub wires : length l'.wires ≡ length l.wires
  pub sets : length l'.sets ≡ length l.sets
  pub coeffs : length l'.coeffs ≡ length l.coeffs

-- and again
pub long_after : {l l₁ l₂ : Lent} → AsLong l l₁ → AsLong l₁ l₂ → AsLong l l₂
long_after a b =
    record {
      wires = b.wires ∙ a.wires;
      sets = b.sets ∙ a.sets;
      coeffs = b.coeffs ∙ a.coeffs;
    }

-- the phase that was left in the workspaces of a sum under construction
abbrev Put : Polynomial → Run → Phase → Lent → List ℕ → List ℕ → Type 0
Put φ s p l ss' cs' = Phased φ s.phase.count p l.sets l.coeffs ss' cs'

-- the next variable stands behind the live ones
next_behind : (n next : ℕ) → n ≤ next → next ≡ n + length (from n (next - n))
next_behind n next l = rw from-length (omega arith)

-- what a phase on wire q leaves
pub diagonal_leaves :
    (s : Run) (c q : ℕ) (l : Lent) (w : ParityWord) (p : Phase) {ss' cs' : List ℕ} →
    length l.wires ≤ s.next →
    parity_of w ≡ wire q (sum_in s l) →
    Put (put_behind c (parity_of w) (sum_in s l).phase) s p l ss' cs' →
    Leaves (append_phase c q (sum_in s l)) s.phase.count (record { next = s.next; phase = p }) l
    (slices l.wires ss' cs')
unfolding with_phase
diagonal_leaves s c q l w p started e put =
    let φ = rw e at put in
    record {
      next = next_behind (length l.wires) s.next started;
      constant = φ.constant;
      wires = refl;
      terms = φ.terms;
    }

-- what Y leaves
pub y_leaves :
    (s : Run) (q : ℕ) (l : Lent) (wires' : List Parity) (w : ParityWord) (p : Phase) (k : ℕ) {ss' cs' : List ℕ} →
    length l.wires ≤ s.next →
    parity_of w ≡ wire q (sum_in s l) →
    Put (put_behind 4 (parity_of w) (sum_in s l).phase) s p l ss' cs' →
    wires' ≡ set l.wires q (complement (wire q (sum_in s l))) →
    k ≡ (p.constant + 2) % 8 →
    Leaves (append_gate (length l.wires) (one Y q) (sum_in s l)) s.phase.count
    (record { next = s.next; phase = record { constant = k; count = p.count } }) l
    (slices wires' ss' cs')
unfolding gate_by set_wire with_phase add_constant
y_leaves s q l wires' w p k started e put wires turned =
    let φ = rw e at put in
    record {
      next = next_behind (length l.wires) s.next started;
      constant = turned ∙ ap (λ (m : ℕ). (m + 2) % 8) φ.constant;
      wires = wires;
      terms = φ.terms;
    }

-- what H leaves
pub hadamard_leaves :
    (s : Run) (q : ℕ) (l : Lent) (wires' : List Parity) (u v : ParityWord) (p : Phase) (next : ℕ) {ss' cs' : List ℕ} →
    length l.wires ≤ s.next →
    next ≡ s.next + 1 →
    parity_of u ≡ wire q (sum_in s l) →
    parity_of v ≡ of (single s.next) →
    Put (product_by put_behind (parity_of u) (parity_of v) (alone (sum_in s l).phase)).phase s p l ss' cs' →
    wires' ≡ set l.wires q (parity_of v) →
    Leaves (append_gate (length l.wires) (on_h q) (sum_in s l)) s.phase.count (record { next = next; phase = p }) l
    (slices wires' ss' cs')
unfolding gate_by hadamard_by with_phase
hadamard_leaves s q l wires' u v p next started more e f put wires =
    let n = length l.wires in
    let new = next_behind n s.next started in
    let f' : parity_of v ≡ of (single (n + length (from n (s.next - n)))) = f ∙ ap (λ (m : ℕ). of (single m)) new in
    let φ = rw (e, f') at put in
    record {
      next = simp length-append (omega arith);
      constant = φ.constant;
      wires = rw f' at wires;
      terms = φ.terms;
    }

-- what CZ leaves
pub controlled_z_leaves :
    (s : Run) (a b : ℕ) (l : Lent) (u v : ParityWord) (p : Phase) {ss' cs' : List ℕ} →
    length l.wires ≤ s.next →
    parity_of u ≡ wire a (sum_in s l) →
    parity_of v ≡ wire b (sum_in s l) →
    Put (product_by put_behind (parity_of u) (parity_of v) (alone (sum_in s l).phase)).phase s p l ss' cs' →
    Leaves (append_gate (length l.wires) (two CZ a b) (sum_in s l)) s.phase.count (record { next = s.next; phase = p }) l
    (slices l.wires ss' cs')
unfolding gate_by with_phase
controlled_z_leaves s a b l u v p started e f put =
    let φ = rw (e, f) at put in
    record {
      next = next_behind (length l.wires) s.next started;
      constant = φ.constant;
      wires = refl;
      terms = φ.terms;
    }

-- X moves wires
pub x_moves : (q : ℕ) (ws : List Parity) → Moves (one X q) ws (set ws q (complement (get_or ws q (of 0))))
unfolding gate_by set_wire
x_moves q ws n s e = rw (← e)

-- and in this way
pub x_moved :
    (q : ℕ) (ws ws' : List Parity) → Moves (one X q) ws ws' → ws' ≡ set ws q (complement (get_or ws q (of 0)))
unfolding gate_by set_wire
x_moved q ws ws' moves =
    sym (ap (λ (t : PathSum). t.wires) (moves 0 (record { phase = record { constant = 0; terms = [] }; wires = ws; live = [] }) refl))

-- what a gate that only moves wires leaves
pub moves_leaves :
    (s : Run) (g : Gate) (l : Lent) (wires' : List Parity) →
    Runnable s (g ∷ []) l →
    Moves g l.wires wires' →
    Leaves (append_gate (length l.wires) g (sum_in s l)) s.phase.count s l (slices wires' l.sets l.coeffs)
moves_leaves s g l wires' fits moves =
    rw (moves (length l.wires) (sum_in s l) refl)
    (record {
      next = next_behind (length l.wires) s.next fits.started;
      constant = refl;
      wires = refl;
      terms = stored_same s.phase.count l.sets l.coeffs (omega (arith, fits.sets)) (omega (arith, fits.coeffs));
    })

-- more gates run on what gates leave
append_gates_lem : (n : ℕ) (gs hs : List Gate) (s : PathSum) → append_gates n (gs ++ hs) s ≡ append_gates n hs (append_gates n gs s)
unfolding append_gates
append_gates_lem n [] hs s = refl
append_gates_lem n (g ∷ gs) hs s = append_gates_lem n gs hs (append_gate n g s)

-- a gate adds terms, at most its room
terms_gate :
    (n : ℕ) (g : Gate) (s : PathSum) →
    (length s.phase.terms ≤ length (append_gate n g s).phase.terms)
    × (length (append_gate n g s).phase.terms ≤ length s.phase.terms + room_for g)
unfolding gate_by set_wire with_phase hadamard_by add_constant put_behind room_for
terms_gate n (one X q) s = (omega arith, omega arith)
terms_gate n (one Y q) s = simp length-append (omega arith, omega arith)
terms_gate n (one Z q) s = simp length-append (omega arith, omega arith)
terms_gate n (one S q) s = simp length-append (omega arith, omega arith)
terms_gate n (one S† q) s = simp length-append (omega arith, omega arith)
terms_gate n (one T q) s = simp length-append (omega arith, omega arith)
terms_gate n (one T† q) s = simp length-append (omega arith, omega arith)
terms_gate n (one H q) s = simp length-append (omega arith, omega arith)
terms_gate n (two CX a b) s = (omega arith, omega arith)
terms_gate n (two CZ a b) s = simp length-append (omega arith, omega arith)
terms_gate n (two SWAP a b) s = (omega arith, omega arith)

-- a gate leaves as many wires as there were
wires_gate : (n : ℕ) (g : Gate) (s : PathSum) → length (append_gate n g s).wires ≡ length s.wires
unfolding gate_by set_wire with_phase hadamard_by
wires_gate n (one X q) s = length-set _ _ _
wires_gate n (one Y q) s = length-set _ _ _
wires_gate n (one Z q) s = refl
wires_gate n (one S q) s = refl
wires_gate n (one S† q) s = refl
wires_gate n (one T q) s = refl
wires_gate n (one T† q) s = refl
wires_gate n (one H q) s = length-set _ _ _
wires_gate n (two CX a b) s = length-set _ _ _
wires_gate n (two CZ a b) s = refl
wires_gate n (two SWAP a b) s = length-set _ _ _ ∙ length-set _ _ _

-- so do gates
wires_gates : (n : ℕ) (gs : List Gate) (s : PathSum) → length (append_gates n gs s).wires ≡ length s.wires
unfolding append_gates
wires_gates n [] s = refl
wires_gates n (g ∷ gs) s = wires_gates n gs (append_gate n g s) ∙ wires_gate n g s

-- where a gate has run, there are as many wires as before
pub gate_wires :
    (n : ℕ) (g : Gate) (s : Run) {r : Run} {m : ℕ} {l l' : Lent} →
    Leaves (append_gate n g (sum_in s l)) m r l l' →
    length l'.wires ≡ length l.wires
gate_wires n g s {l = l} leaves = ap length leaves.wires ∙ wires_gate n g (sum_in s l)

-- and where gates have run
pub leaves_wires :
    (n : ℕ) (gs : List Gate) (s : Run) {r : Run} {m : ℕ} {l l' : Lent} →
    Leaves (append_gates n gs (sum_in s l)) m r l l' →
    length l'.wires ≡ length l.wires
leaves_wires n gs s {l = l} leaves = ap length leaves.wires ∙ wires_gates n gs (sum_in s l)

-- before any gate there is a wire a qubit
pub initial_wires : (n : ℕ) → length (initial 0 n).wires ≡ n
unfolding initial
initial_wires n = length-map (from 0 n) (input 0) ∙ from-length 0 n

-- so there is in a built sum
pub built_wires : (n : ℕ) (gs : List Gate) → length (build 0 n gs).wires ≡ n
unfolding with_phase
built_wires n gs =
    ap (λ (t : PathSum). length t.wires) (sym (merged-build 0 n gs)) ∙ wires_gates n gs (initial 0 n) ∙ initial_wires n

-- gates within n are so in two parts
within_parts : (n : ℕ) (gs hs : List Gate) → AllWithin n (gs ++ hs) → AllWithin n gs × AllWithin n hs
within_parts n [] hs l = (tt, l)
within_parts n (g ∷ gs) hs l = let later = within_parts n gs hs l.1 in ((l.0, later.0), later.1)

-- gates add terms, at most their room
pub terms_gates :
    (n : ℕ) (gs : List Gate) (s : PathSum) →
    (length s.phase.terms ≤ length (append_gates n gs s).phase.terms)
    × (length (append_gates n gs s).phase.terms ≤ length s.phase.terms + tally room_for gs)
unfolding append_gates tally
terms_gates n [] s = (omega arith, omega arith)
terms_gates n (g ∷ gs) s =
    let later = terms_gates n gs (append_gate n g s) in
    let first = terms_gate n g s in
    (omega arith, omega arith)

-- gates bring as many live variables as they have H gates
live_appended : (n k : ℕ) (gs : List Gate) (s : PathSum) → s.live ≡ from n k → (append_gates n gs s).live ≡ from n (k + h_gates gs)
unfolding with_phase
live_appended n k gs s e = ap (λ (t : PathSum). t.live) (merged_gates n gs s) ∙ live_gates n k gs (merged_sum s) e

-- a sum under construction stands for the path sum that was left, where its live variables are the next ones
leaves_sum :
    {u : PathSum} {m : ℕ} {r : Run} {l l' : Lent} →
    Leaves u m r l l' →
    length l'.wires ≡ length l.wires →
    (k : ℕ) →
    u.live ≡ from (length l.wires) k →
    sum_in r l' ≡ u
leaves_sum {u} {m} {r} {l} {l'} leaves same k live =
    let many : r.next - length l.wires ≡ k =
    omega (arith, leaves.next, ap length live, from-length (length l.wires) k)
    in
    rw (same, many, leaves.constant, stored-held leaves.terms, leaves.wires, ← live)

-- the gates gs are still to run, to make the sum u, and they fit; the first was run on l, of which m places were in use
pub record ToRun (u : PathSum) (gs : List Gate) (m : ℕ) (r : Run) (l l' : Lent) : Type 0 where
  pub makes : append_gates (length l.wires) gs (sum_in r l') ≡ u
  pub terms : Stored m (held r.phase.count l'.sets l'.coeffs) r.phase.count l.sets l.coeffs l'.sets l'.coeffs
  pub fits : Runnable r gs l'
  pub long : AsLong l l'

-- before any gate has run
pub none_run :
    (s : Run) (gs : List Gate) (l : Lent) →
    Runnable s gs l →
    ToRun (append_gates (length l.wires) gs (sum_in s l)) gs s.phase.count s l l
none_run s gs l fits =
    record {
      makes = refl;
      terms = stored_same s.phase.count l.sets l.coeffs (omega (arith, fits.sets)) (omega (arith, fits.coeffs));
      fits = fits;
      long = record { wires = refl; sets = refl; coeffs = refl };
    }

-- after the last gate
pub all_run : {u : PathSum} {m : ℕ} {r : Run} {l l' : Lent} → ToRun u [] m r l l' → Leaves u m r l l'
unfolding append_gates
all_run {r = r} {l' = l'} run =
    rw (← run.makes)
    (record {
      next = rw (← run.long.wires) (next_behind (length l'.wires) r.next run.fits.started);
      constant = refl;
      wires = refl;
      terms = run.terms;
    })

-- what is left to fit after some of the gates
rest_fits :
    (s : Run) (gs hs : List Gate) (l : Lent) {r : Run} {l' : Lent} →
    Runnable s (gs ++ hs) l →
    Leaves (append_gates (length l.wires) gs (sum_in s l)) s.phase.count r l l' →
    AsLong l l' →
    Runnable r hs l'
rest_fits s gs hs l {r} {l'} fits leaves long =
    let n = length l.wires in
    let live = live_appended n (s.next - n) gs (sum_in s l) refl in
    let next : r.next ≡ s.next + h_gates gs =
    omega (arith, leaves.next, ap length live, from-length n (s.next - n + h_gates gs), fits.started)
    in
    let held-many =
    length-held s.phase.count l.sets l.coeffs (omega (arith, fits.sets)) (omega (arith, fits.coeffs))
    in
    let count : r.phase.count ≤ s.phase.count + tally room_for gs =
    omega (arith, leaves.terms.counted, terms_gates n gs (sum_in s l))
    in
    let rooms = tally-append room_for gs hs in
    record {
      few = rw long.wires fits.few;
      started = omega (arith, long.wires, fits.started);
      within = rw long.wires (within_parts n gs hs fits.within).1;
      variables = omega (arith, fits.variables, tally-append is_h gs hs);
      sets = omega (arith, fits.sets, long.sets);
      coeffs = omega (arith, fits.coeffs, long.coeffs);
    }

-- after some of the gates
pub some_run :
    {u : PathSum} (gs hs : List Gate) {m : ℕ} (s : Run) {r : Run} {l l₁ l₂ : Lent} →
    ToRun u (gs ++ hs) m s l l₁ →
    Leaves (append_gates (length l₁.wires) gs (sum_in s l₁)) s.phase.count r l₁ l₂ →
    AsLong l₁ l₂ →
    ToRun u hs m r l l₂
some_run {u} gs hs {m} s {r} {l} {l₁} {l₂} run leaves long =
    let n = length l₁.wires in
    let sum : sum_in r l₂ ≡ append_gates n gs (sum_in s l₁) =
    leaves_sum leaves long.wires (s.next - n + h_gates gs) (live_appended n (s.next - n) gs (sum_in s l₁) refl)
    in
    record {
      makes =
          rw sum
          (ap (λ (k : ℕ). append_gates (length l.wires) hs (append_gates k gs (sum_in s l₁))) run.long.wires
          ∙ sym (append_gates_lem (length l.wires) gs hs (sum_in s l₁))
          ∙ run.makes);
      terms =
          rw (stored-held leaves.terms) (stored_grown run.terms leaves.terms (terms_gates n gs (sum_in s l₁)).0);
      fits = rest_fits s gs hs l₁ run.fits leaves long;
      long = long_after run.long long;
    }

-- after the first gate
pub one_run :
    {u : PathSum} (g : Gate) (gs : List Gate) {m : ℕ} (s : Run) {r : Run} {l l₁ l₂ : Lent} →
    ToRun u (g ∷ gs) m s l l₁ →
    Leaves (append_gate (length l₁.wires) g (sum_in s l₁)) s.phase.count r l₁ l₂ →
    AsLong l₁ l₂ →
    ToRun u gs m r l l₂
unfolding append_gates
one_run g gs s run leaves long = some_run (g ∷ []) gs s run leaves long

-- the first of the gates that are to run fit
pub first_fit :
    {u : PathSum} (gs hs : List Gate) {m : ℕ} {s : Run} {l l' : Lent} → ToRun u (gs ++ hs) m s l l' → Runnable s gs l'
first_fit gs hs {l' = l'} run =
    let fits = run.fits in
    let rooms = tally-append room_for gs hs in
    record {
      few = fits.few;
      started = fits.started;
      within = (within_parts (length l'.wires) gs hs fits.within).0;
      variables = omega (arith, fits.variables, tally-append is_h gs hs);
      sets = omega (arith, fits.sets);
      coeffs = omega (arith, fits.coeffs);
    }

-- before a pair's gates have run, on the sum of no gates, which a call left that was lent l
pub start_run :
    (first second : List ℕ) {l l₁ : Lent} →
    Buildable (length l.wires) first second l.sets l.coeffs →
    (s : Run) →
    Leaves (initial 0 (length l.wires)) 0 s l l₁ →
    AsLong l l₁ →
    ToRun (append_gates (length l.wires) (miter_in first second) (initial 0 (length l.wires))) (miter_in first second) 0 s l l₁
unfolding initial from
start_run first second {l} {l₁} fits s starts long =
    let n = length l.wires in
    let gs = gates_in first in
    let hs = gates_in second in
    let rooms : tally room_for (miter_in first second) ≡ room gs hs =
    tally-append room_for gs (inverse_list hs) ∙ rw (tally-inverse-room hs)
    in
    let variables : h_gates (miter_in first second) ≡ h_gates gs + h_gates hs =
    tally-append is_h gs (inverse_list hs) ∙ rw (h_gates-inverse hs)
    in
    let within = within_append n gs (inverse_list hs) fits.within (within_inverse n hs fits.within') in
    record {
      makes = rw (leaves_sum starts long.wires 0 refl);
      terms = rw (stored-held starts.terms) starts.terms;
      fits =
          record {
            few = rw long.wires fits.few;
            started = omega (arith, long.wires, starts.next);
            within = rw long.wires within;
            variables = omega (arith, starts.next, fits.variables);
            sets = omega (arith, starts.terms.counted, fits.sets, long.sets);
            coeffs = omega (arith, starts.terms.counted, fits.coeffs, long.coeffs);
          };
      long = long;
    }

-- after the last of the gates
pub last_run :
    {u : PathSum} (gs : List Gate) {m : ℕ} (s : Run) {r : Run} {l l₁ l₂ : Lent} →
    ToRun u gs m s l l₁ →
    Leaves (append_gates (length l₁.wires) gs (sum_in s l₁)) s.phase.count r l₁ l₂ →
    AsLong l₁ l₂ →
    ToRun u [] m r l l₂
last_run gs s run leaves long = some_run gs [] s (rw append-nil run) leaves long

-- terms stored where no place was in use, with their own places taken to have been in use
stored_fresh :
    {ts : List Term} {r : ℕ} {ss cs ss' cs' : List ℕ} →
    Stored 0 ts r ss cs ss' cs' →
    Stored (length ts) ts r ss cs ss' cs'
stored_fresh {ts} {r} {ss} {cs} e =
    record {
      counted = e.counted;
      sets = e.sets ∙ same (sets_of ts) ss (omega (arith, length-map ts (λ t. t.set)));
      coeffs = e.coeffs ∙ same (coeffs_of ts) cs (omega (arith, length-map ts (λ t. t.coeff)));
    }
  where
    same : (xs old : List ℕ) → length ts ≤ length xs → over 0 xs old ≡ over (length ts) xs old
    same xs old l = over_grown 0 xs old (omega arith) ∙ sym (over_grown (length ts) xs old l)

-- all gates run on the sum of no gates, and the terms merged, make the built sum
pub built :
    (gs : List Gate) {s : Run} {k : ℕ} {live : Set} {l l₁ : Lent} {ss cs : List ℕ} →
    Leaves (append_gates (length l.wires) gs (initial 0 (length l.wires))) 0 s l l₁ →
    Stored s.phase.count (merged (held s.phase.count l₁.sets l₁.coeffs)) k l₁.sets l₁.coeffs ss cs →
    members (set_of live) ≡ from (length l.wires) (s.next - length l.wires) →
    Builds gs (record { live = live; phase = record { constant = s.phase.constant; count = k } }) l
    (slices l₁.wires ss cs)
unfolding with_phase
built gs {s} {l = l} leaves stored left =
    let n = length l.wires in
    let u = append_gates n gs (initial 0 n) in
    let fewer = length-rebuild of 0 u.phase.terms in
    let again = rw (stored-held leaves.terms) at stored in
    let terms = stored_again (stored_fresh leaves.terms) again (omega arith) fewer in
    let live-from = live_appended n 0 gs (initial 0 n) (unfold initial from in refl) in
    let many : s.next - n ≡ 0 + h_gates gs =
    omega (arith, leaves.next, ap length live-from, from-length n (0 + h_gates gs))
    in
    let all : from n (s.next - n) ≡ u.live = rw many (sym live-from) in
    rw (← merged-build 0 n gs)
    (record {
      sum = rw (leaves.constant, stored-held terms, leaves.wires, left, all);
      terms = terms;
    })

-- how many variables are in use then
pub all_variables : {u : PathSum} {m : ℕ} {s : Run} {l l₁ : Lent} → ToRun u [] m s l l₁ → (length l₁.wires ≤ s.next) × (s.next ≤ most_variables)
unfolding tally
all_variables run = (run.fits.started, omega (arith, run.fits.variables))
