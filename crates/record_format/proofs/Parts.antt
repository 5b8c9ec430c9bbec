-- The gates that the gate part of an accepted record stands for.
-- Assumes nothing.
use mathlib.Core.Path.{◌≡◌}
use Prim.Native.Nat.{ℕ, ◌%◌}
use native.Mathlib.Omega.{arith}
use mathlib.Core.List.{List}
use lib.ListN.{length, length-take, length-drop}
use Rattle.record_format.specs.Gate.{Gate}
use Rattle.record_format.specs.Reading.{gates_in, accepted, read}
use Rattle.record_format.specs.Writing.{gate_part}
use Rattle.record_format.proofs.Encoding.{good_head}
use Rattle.record_format.proofs.Theorems.{passed}

-- the gates that a record's gate part stands for are those that reading it found
pub gates_of_part : (s : List ℕ) (n : ℕ) (gs : List Gate) → read s ≡ accepted n gs → gates_in (gate_part s (read s)) ≡ gs
gates_of_part s n gs e = rw e (passed s n gs e).2

-- the gate part has three bytes for each gate
pub threes_of_part : (s : List ℕ) (n : ℕ) (gs : List Gate) → read s ≡ accepted n gs → length (gate_part s (read s)) % 3 ≡ 0
threes_of_part s n gs e =
    let head = good_head s (passed s n gs e).0 in
    rw e (simp (length-take, length-drop) (omega arith))
