-- Which of the call's own rows is the first that holds, for two accepted lists.
-- Assumes nothing.
use mathlib.Core.Path.{◌≡◌, sym, ap, ◌∙◌}
use Prim.Native.Nat.{ℕ, ◌+◌, ◌<◌, ◌≤◌}
use mathlib.Core.Option.{none, some}
use mathlib.Core.List.{List}
use native.Mathlib.Omega.{arith}
use borrow.Author.Tests.{lt-ltb, le-ltb}
use Rattle.record_format.specs.Gate.{AllWithin}
use Rattle.record_format.specs.Row.{first}
use Rattle.record_format.specs.Reading.{qubits, gates, gates_in}
use Rattle.record_format.proofs.Theorems.{passed, accepted_is_sound}
use Rattle.amplitude.specs.Circuit.{h_gates}
use Rattle.record_format.specs.Pair.{of_pair}
use Rattle.comparison_types.specs.Inner.{AcceptedWith, GatesRead}
use Rattle.comparison_types.proofs.PairLaws.{gates_read, small}
use Rattle.dense_meaning.specs.Limits.{block_qubits, block_h_gates, buffer_size}
use Rattle.dense_types.specs.Call.{block_rows}

-- a list's qubits and gates are its own
pub own_n : {n g : ℕ} {s : List ℕ} (list : AcceptedWith n g s) → qubits s ≡ n
own_n {n} {g} {s} list = (passed s n list.gates list.reads).1

pub own_gates : {n g : ℕ} {s : List ℕ} (list : AcceptedWith n g s) → gates s ≡ list.gates
own_gates {n} {g} {s} list = (passed s n list.gates list.reads).2

-- the gate bytes of a list that was read
module _ {n : ℕ} {s bytes : List ℕ} (it : GatesRead n s bytes) where
  -- their gates are on its qubits
  pub within_read : AllWithin n (gates_in bytes)
  within_read = rw (gates_read it) (accepted_is_sound s n it.list.gates it.list.reads).within

  -- what was counted over them are its H gates
  pub own_counted : {h : ℕ} → h ≡ h_gates (gates_in bytes) → h ≡ h_gates (gates s)
  own_counted counted = counted ∙ ap h_gates (gates_read it ∙ sym (own_gates it.list))

  -- and not many
  pub few_counted : {h : ℕ} → h ≡ h_gates (gates_in bytes) → h ≤ 512
  few_counted counted =
      let same = counted ∙ ap h_gates (gates_read it) in
      omega (arith, same, small it.list)

module _ {n g : ℕ} {s : List ℕ} (list : AcceptedWith n g s) (t : List ℕ) (k : ℕ) where
  -- too many qubits
  pub too_wide : block_qubits < n → some (of_pair 14) ≡ first (block_rows s t k)
  unfolding first
  too_wide wide = rw (own_n list, lt-ltb block_qubits n wide)

  module _ (few : n ≤ block_qubits) where
    -- too many H gates
    pub too_many : block_h_gates < h_gates (gates s) + h_gates (gates t) → some (of_pair 14) ≡ first (block_rows s t k)
    unfolding first
    too_many many = rw (own_n list, le-ltb block_qubits n few, lt-ltb block_h_gates _ many)

    -- within both limits the buffer decides
    module _ (small : h_gates (gates s) + h_gates (gates t) ≤ block_h_gates) where
      pub too_short : k < buffer_size → some (of_pair 10) ≡ first (block_rows s t k)
      unfolding first
      too_short short = rw (own_n list, le-ltb block_qubits n few, le-ltb block_h_gates _ small, lt-ltb k buffer_size short)

      pub nothing_holds : buffer_size ≤ k → none ≡ first (block_rows s t k)
      unfolding first
      nothing_holds long = rw (own_n list, le-ltb block_qubits n few, le-ltb block_h_gates _ small, le-ltb k buffer_size long)
