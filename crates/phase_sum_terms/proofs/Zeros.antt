-- Zeros stored from one place up to another, in the words of whole sets.
-- Assumes nothing.
use mathlib.Core.Path.{◌≡◌}
use mathlib.Core.List.{List, ◌++◌, append_assoc}
use Prim.Native.Nat.{ℕ, ◌-◌, ◌*◌, ◌/◌, ◌<◌, ◌≤◌}
use native.Mathlib.Nat.{mul-sub, mul-div-le, mul-le-mul_left}
use native.Mathlib.Omega.{arith}
use lib.ListN.{length, take, drop, replicate, length-append, length-replicate}
use lib.Seq.{length-take-le}
use borrow.Rule.Slice.PartMut.{mid_of, put_mid, mid_len, Post-is}
use Rattle.phase_sum_words.specs.Words.{sets_in}
use Rattle.phase_sum_words.proofs.Any.{any_width}
use Rattle.phase_sum_types.proofs.Places.{filled}

-- zeros stored in a part of a list
pub zeros_put :
    (a e : ℕ) (xs zeros : List ℕ) → a ≤ e → e ≤ length xs → zeros ≡ replicate (length (mid_of a (e - a) xs)) 0
    → put_mid a (e - a) xs zeros ≡ filled a e xs
zeros_put a e xs zeros l h z = rw (z, mid_len a e xs h, Post-is a e xs l, append_assoc)

-- zeros in the words of the sets from place a up to b are empty sets there
pub sets_filled :
    (k : ℕ) → 0 < k → (ws : List ℕ) (a b : ℕ) → a ≤ b → b ≤ length ws / k → sets_in k (filled (k * a) (k * b) ws) ≡ filled a b (sets_in k ws)
sets_filled k some ws a b l h =
    let w = any_width k in
    let upto : k * a ≤ k * b = mul-le-mul_left k l in
    let most : k * b ≤ k * (length ws / k) = mul-le-mul_left k h in
    let front : length (take (k * a) ws) ≡ k * a = length-take-le (k * a) ws (omega (arith, mul-div-le (length ws) k)) in
    let both : length (take (k * a) ws ++ replicate (k * b - k * a) 0) ≡ k * b = rw (length-append, front, length-replicate) (omega arith) in
    rw (
      w.joined some b (take (k * a) ws ++ replicate (k * b - k * a) 0) (drop (k * b) ws) both,
      w.joined some a (take (k * a) ws) (replicate (k * b - k * a) 0) front,
      w.front some ws a (omega arith),
      w.back some ws b h,
      ← mul-sub k b a,
      w.zeros some (b - a),
    )
