-- What stores leave of a list: a gate's three bytes put in at a place, a head put in at the front, and the buffer of an inverse
-- as a loop fills it from its other end.
-- Assumes nothing.
use mathlib.Core.Path.{◌≡◌, ◌∙◌}
use Prim.Native.Nat.{ℕ, suc, ◌+◌, ◌≤◌, ◌<◌}
use native.Mathlib.Nat.{add-zero}
use native.Mathlib.Numerals.{add-one, add-two, add-three}
use native.Mathlib.Omega.{arith}
use mathlib.Core.List.{List, [], ◌∷◌, ◌++◌, append-nil, append_assoc}
use lib.ListN.{length, get_or, take, drop, length-append, take-append-drop}
use lib.Seq.{length-take-le, drop-cons, drop-append-add, drop-drop, take_at}

-- where h has replaced as many elements at the front, what lies behind it is as it was
pub behind_head : (h l : List ℕ) (m : ℕ) → drop (length h + m) (h ++ drop (length h) l) ≡ drop (length h + m) l
behind_head h l m = drop-append-add h (drop (length h) l) m ∙ drop-drop m (length h) l

-- what stands from a place on begins with three bytes
pub three_at : (s : List ℕ) (at : ℕ) → at + 3 ≤ length s
    → drop at s ≡ get_or s at 0 ∷ get_or s (at + 1) 0 ∷ get_or s (at + 2) 0 ∷ drop (at + 3) s
three_at s at h =
    let h₀ : at < length s = omega arith in
    let h₁ : suc at < length s = omega arith in
    let h₂ : suc (suc at) < length s = omega arith in
    rw (add-one, add-two, add-three) (cc (drop-cons s at 0 h₀, drop-cons s (suc at) 0 h₁, drop-cons s (suc (suc at)) 0 h₂))

-- l with `left` still to be stored at a place
abbrev pub with_left : List ℕ → ℕ → List ℕ → List ℕ
with_left l at left = take at l ++ left ++ drop (at + length left) l

-- storing its first piece leaves the rest to be stored behind that
pub piece_stored : (l piece left : List ℕ) (at k : ℕ) → length piece ≡ k → at + (k + length left) ≤ length l
    → with_left (take at l ++ piece ++ drop (at + k) l) (at + k) left ≡ with_left l at (piece ++ left)
piece_stored l piece left at k e h =
    let front : List ℕ = take at l ++ piece in
    let long : length front ≡ at + k = simp (length-append, length-take-le at l (omega arith)) (omega arith) in
    let rest : drop (at + k + length left) (front ++ drop (at + k) l) ≡ drop (at + k + length left) l =
    rw (← long) (drop-append-add front (drop (length front) l) (length left) ∙ drop-drop (length left) (length front) l) in
    let sum : at + length (piece ++ left) ≡ at + k + length left = simp length-append (omega arith) in
    rw (take_at front (drop (at + k) l) (at + k) long, rest, sum, append_assoc (take at l) piece left)

-- with nothing left it is as it is
pub none_left : (l : List ℕ) (at : ℕ) → with_left l at [] ≡ l
none_left l at = rw (add-zero, append-nil) (take-append-drop at l)
