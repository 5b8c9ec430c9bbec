-- The columns of two lists compared, by the lists' bytes, in two columns of amplitudes.
-- Assumes nothing.
use Rattle.std.specs.Prelude.{◌≡◌, ℕ, ◌+◌, ◌≤◌, List, [], ◌∷◌, ℤ}
use Rattle.std.specs.Coded.{×_prop, Π_prop, Unit-prop, le_prop}
use mathlib.Core.HLevel.{×₃_prop, ⊥_prop}
use native.Mathlib.Nat.{ℕ_set}
use Rattle.record_format.specs.Gate.{Gate, one, two, Within, AllWithin}
use Rattle.record_format.specs.Reading.{gates_in}
use Rattle.amplitude.specs.Circuit.{h_gates}
use Rattle.amplitude.specs.Testing.{scaled_column}
use Rattle.dense_meaning.specs.Limits.{block_qubits}
use Rattle.dense_meaning.specs.Columns.{Finding, carried_by, unfit_at}
use Rattle.dense_numbers.specs.Numbers.{most_doublings}
use Rattle.dense_columns.specs.Columns.{Holds}
use Rattle.dense_judging.specs.declared.Judged.{Judged}
use Rattle.dense_judging.specs.declared.Judged.TheVariants.{Carried, Different}

-- a block: two lists by their bytes, on n qubits, with h and k H gates
pub record Block (n : ℕ) (first second : List ℕ) (h k : ℕ) : Type 0 where
  pub few : n ≤ block_qubits
  pub within_first : AllWithin n (gates_in first)
  pub within_second : AllWithin n (gates_in second)
  pub h_first : h_gates (gates_in first) ≡ h
  pub h_second : h_gates (gates_in second) ≡ k
  pub small : h + k ≤ most_doublings

-- each of these facts holds in one way
Within-prop : (n : ℕ) (g : Gate) → IsProp (Within n g)
Within-prop n (one u a) = le_prop
Within-prop n (two v a b) = ×₃_prop le_prop le_prop (Π_prop λ e. ⊥_prop)

AllWithin-prop : (n : ℕ) (gs : List Gate) → IsProp (AllWithin n gs)
AllWithin-prop n [] = Unit-prop
AllWithin-prop n (g ∷ gs) = ×_prop (Within-prop n g) (AllWithin-prop n gs)

pub Block-prop : (n : ℕ) (first second : List ℕ) (h k : ℕ) → IsProp (Block n first second h k)
Block-prop n first second h k x y i =
    record {
      few = le_prop x.few y.few i;
      within_first = AllWithin-prop n (gates_in first) x.within_first y.within_first i;
      within_second = AllWithin-prop n (gates_in second) x.within_second y.within_second i;
      h_first = ℕ_set _ _ x.h_first y.h_first i;
      h_second = ℕ_set _ _ x.h_second y.h_second i;
      small = le_prop x.small y.small i;
    }

-- two columns hold column v of both lists, each times √2 as often as the other has H gates
pub record BothRun (n : ℕ) (first second : List Gate) (v : ℕ) (xs ys : List (List ℤ)) : Type 0 where
  pub left : Holds n (scaled_column (h_gates second) first v) xs
  pub right : Holds n (scaled_column (h_gates first) second v) ys

-- what is found, as the answer has it
abbrev pub finding_in : Judged → Finding
finding_in (Carried j) = carried_by j
finding_in (Different v) = unfit_at v
