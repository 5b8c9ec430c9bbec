-- A matrix on a column is local to the pairs along its qubit.
-- Assumes nothing.
use Rattle.std.specs.Prelude.{ℕ, ◌<◌, true, false}
use Rattle.amplitude.specs.Bits.{put}
use Rattle.amplitude.specs.Matrix.{Entry}
use Rattle.amplitude.proofs.BitLaws.{put_put_same, put_below}
use Rattle.dense_columns.specs.Columns.{Local}
use Rattle.dense_gates.specs.Gates.{combined}

pub combined_local : (n q : ℕ) (a b c d : Entry) → q < n → Local n (put q false) (combined q a b c d)
unfolding combined
combined_local n q a b c d qn φ ψ w l same =
    rw (same (put q false w) (put_below n q false w qn l) (put_put_same q false false w), same (put q true w) (put_below n q true w qn l) (put_put_same q false true w))
