-- A sum that was changed, by its parts; and that the terms and the variables left together never grow.
-- Assumes nothing.
use mathlib.Core.Path.{◌≡◌, refl, ap}
use Prim.Native.Nat.{ℕ, suc, ◌+◌, ◌≤◌, ◌<◌}
use native.Mathlib.Omega.{arith}
use mathlib.Core.Bool.{Bool, true, false, cond}
use mathlib.Core.List.{List, [], ◌∷◌}
use lib.Dec.{eqb}
use lib.ListN.{length, length-map}
use borrow.Author.Tests.{eq-eqb}
use Rattle.amplitude.specs.Bits.{bit}
use Rattle.phase_sum_meaning.specs.Sets.{without, Among, here, there}
use Rattle.phase_sum_meaning.specs.Parity.{Parity, replace_in}
use Rattle.phase_sum_meaning.specs.Building.{PathSum}
use Rattle.phase_sum_meaning.specs.Stepping.{replace, take_out, turned}
use Rattle.phase_sum_meaning.specs.Room.{most_variables}
use Rattle.phase_sum_meaning.proofs.Roominess.{terms_replace, terms_take_out, terms_turned}
use Rattle.phase_sum_types.specs.Workspace.{set_of, Phased, Lent, members, sum_of, Stands, Became, Sized}
use Rattle.phase_sum_types.specs.declared.Sum.{Sum}
use Rattle.phase_sum_types.proofs.Storing.{length-held, stored-held}
use Rattle.phase_sum_types.proofs.Members.{members_hold, some_length}
use Rattle.phase_sum_types.proofs.Running.{AsLong}

-- a sum whose phase, wires and variables left are those of a path sum stands for it
pub became :
    (t : PathSum) {m : ℕ} (r : Sum) (l l' : Lent) →
    Phased t.phase m r.phase l.sets l.coeffs l'.sets l'.coeffs →
    l'.wires ≡ t.wires →
    members (set_of r.live) ≡ t.live →
    Became t m r l l'
became t r l l' p wires live =
    record { sum = rw (p.constant, stored-held p.terms, wires, live); terms = p.terms }

-- a sum with room can be changed
pub sized_stands : {s : Sum} {l : Lent} → Sized s l → Stands s l
sized_stands z = record { sets = omega (arith, z.sets); coeffs = omega (arith, z.coeffs) }

-- the terms of a sum and its variables left, counted together
abbrev pub room_in : PathSum → ℕ
room_in s = length s.phase.terms + length s.live

-- a list without a variable is no longer
without_le : (v : ℕ) (us : List ℕ) → length (without v us) ≤ length us
unfolding without
without_le v [] = omega arith
without_le v (u ∷ us) = go (eqb u v) (without_le v us)
  where
    go : (b : Bool) → length (without v us) ≤ length us → length (cond b (without v us) (u ∷ without v us)) ≤ suc (length us)
    go true later = omega arith
    go false later = omega arith

-- without one of its variables it is shorter
without_less : {v : ℕ} {us : List ℕ} → Among v us → suc (length (without v us)) ≤ length us
unfolding without
without_less {v} (here {us}) = rw (eq-eqb v v refl) (omega (arith, without_le v us))
without_less {v} (there {u} {us} a) = go (eqb u v) (without_less a)
  where
    go :
        (b : Bool) →
        suc (length (without v us)) ≤ length us →
        suc (length (cond b (without v us) (u ∷ without v us))) ≤ suc (length us)
    go true later = omega arith
    go false later = omega arith

-- replacing makes no more of them
pub room-replace : (z : ℕ) (p : Parity) (s : PathSum) → room_in (replace z p s) ≤ room_in s
unfolding replace
room-replace z p s = omega (arith, terms_replace z p s, without_le z s.live)

-- nor does taking a variable out
pub room-take_out : (y : ℕ) (s : PathSum) → room_in (take_out y s) ≤ room_in s
unfolding take_out
room-take_out y s = omega (arith, terms_take_out y s, without_le y s.live)

-- a turn adds a term at most and takes out a variable left
pub room-turned : (k l y : ℕ) (s : PathSum) → Among y s.live → room_in (turned k l (take_out y s)) ≤ room_in s
unfolding take_out turned
room-turned k l y s a = omega (arith, terms_turned k l (take_out y s), terms_take_out y s, without_less a)

-- as many wires stay where a variable is replaced
pub wires-replace : (z : ℕ) (p : Parity) (s : PathSum) → length (replace z p s).wires ≡ length s.wires
unfolding replace
wires-replace z p s = length-map s.wires (replace_in z p)

-- and where one is taken out
pub wires-take_out : (y : ℕ) (s : PathSum) → length (take_out y s).wires ≡ length s.wires
unfolding take_out
wires-take_out y s = refl

-- where a variable is left, the terms leave a place
pub place_left :
    (s : Sum) (y : ℕ) {l : Lent} →
    Sized s l →
    bit y (set_of s.live) ≡ true →
    y < most_variables →
    (s.phase.count < length l.sets) × (s.phase.count < length l.coeffs)
place_left s y z left low =
    let some = some_length (members_hold (set_of s.live) y left low) in
    (omega (arith, some, z.sets), omega (arith, some, z.coeffs))

-- a change that makes no more terms and variables leaves a sum with room
pub still_sized :
    (s : Sum) (t : PathSum) {m : ℕ} (r : Sum) (l l' : Lent) →
    Sized s l →
    room_in t ≤ room_in (sum_of s l) →
    Became t m r l l' →
    AsLong l l' →
    Sized r l'
still_sized s t r l l' z room b long =
    let counted =
    length-held s.phase.count l.sets l.coeffs (omega (arith, z.sets)) (omega (arith, z.coeffs))
    in
    let left = ap (λ (u : PathSum). length u.live) b.sum in
    record {
      few = omega (arith, z.few, long.wires);
      sets = omega (arith, z.sets, long.sets, b.terms.counted, left, counted, room);
      coeffs = omega (arith, z.coeffs, long.coeffs, b.terms.counted, left, counted, room);
    }
