-- The matrix on a pair of places is one turn of its pass.
-- Assumes nothing.
use mathlib.Core.Path.{◌≡◌, ap, ◌∙◌}
use mathlib.Core.List.{List}
use mathlib.Core.Bool.{true, false}
use Prim.Native.Nat.{ℕ, ◌^◌, ◌≤◌}
use lib.ListN.{length}
use lib.IntN.{ℤ}
use Rattle.amplitude.specs.Number.{◌+ω◌, ω^}
use Rattle.amplitude.specs.Matrix.{ω, times}
use Rattle.amplitude.specs.Bits.{bit, put}
use Rattle.amplitude.proofs.BitLaws.{bit_put_same, put_put_same}
use Rattle.dense_columns.specs.Columns.{amplitude_at, stored, Turned}
use Rattle.dense_columns.proofs.Pairs.{Pair, pair_turned}
use Rattle.dense_gates.specs.Gates.{combined}

pub combined-turned : {n q w high : ℕ} (a b c d : ℕ) (xs : List (List ℤ)) → Pair n q w high → 2 ^ n ≤ length xs →
    Turned n (put q false) (combined q (ω a) (ω b) (ω c) (ω d)) w xs
    (stored (stored xs w (ω^ a (amplitude_at xs w) +ω ω^ b (amplitude_at xs high))) high (ω^ c (amplitude_at xs w) +ω ω^ d (amplitude_at xs high)))
combined-turned {n} {q} {w} {high} a b c d xs pair room = pair_turned (combined q (ω a) (ω b) (ω c) (ω d)) _ _ xs pair room at_low at_high
  where
    at_low : ω^ a (amplitude_at xs w) +ω ω^ b (amplitude_at xs high) ≡ combined q (ω a) (ω b) (ω c) (ω d) (amplitude_at xs) w
    at_low = unfold combined times in rw (pair.low, pair.own, pair.is)

    at_high : ω^ c (amplitude_at xs w) +ω ω^ d (amplitude_at xs high) ≡ combined q (ω a) (ω b) (ω c) (ω d) (amplitude_at xs) high
    at_high =
        unfold combined times in
        rw (pair.joined, ap (bit q) pair.is ∙ bit_put_same q true w, ap (put q true) pair.is ∙ put_put_same q true true w, ← pair.is)
