-- What the contract of a join says of the record that stands in the buffer afterwards: the lists of the bytes s and t joined, its counts, and its
-- amplitudes. `amplitudes` is of unscaled H, as amplitude's Composition says; since `counts` has the H gates added up, the true amplitudes,
-- which are these divided by √2 once for each H gate, fulfil the same equations.
-- Assumes nothing.
use Rattle.std.specs.Prelude.{◌≡◌, ℕ, ◌+◌, List, length, Result, Ok}
use Rattle.record_format.specs.Gate.{Gate}
use Rattle.record_format.specs.Reading.{accepted, read}
use Rattle.amplitude.specs.Circuit.{h_gates, t_gates}
use Rattle.amplitude.specs.Composition.{MatrixProduct, TensorProduct}
use Rattle.joining_types.specs.Call.{list_in_time, list_in_space}
use Rattle.joining_types.specs.declared.Refusal.{Refusal}

-- the gates of two lists joined, their T gates and their H gates are the sums of those of the two
pub record AddsUp (first second joined : List Gate) : Type 0 where
  pub all : length joined ≡ length first + length second
  pub t_gates_added : t_gates joined ≡ t_gates first + t_gates second
  pub h_gates_added : h_gates joined ≡ h_gates first + h_gates second

-- the buffer holds the join in time of the lists of s and t: it reads back as the first list's gates and then the second's, and its amplitudes
-- are the matrix product of theirs
pub record InTime (s t buffer : List ℕ) : Type 0 where
  pub n : ℕ
  pub first : List Gate
  pub second : List Gate
  pub reads_first : read s ≡ accepted n first
  pub reads_second : read t ≡ accepted n second
  pub reads_joined : read buffer ≡ accepted n (list_in_time first second)
  pub counts : AddsUp first second (list_in_time first second)
  pub amplitudes : MatrixProduct n first second (list_in_time first second)

-- the buffer holds the join in space: it reads back, on the qubits of both, as the first list's gates and then the second's on the qubits
-- after the first's, and its amplitudes are the tensor product of theirs
pub record InSpace (s t buffer : List ℕ) : Type 0 where
  pub n : ℕ
  pub m : ℕ
  pub first : List Gate
  pub second : List Gate
  pub reads_first : read s ≡ accepted n first
  pub reads_second : read t ≡ accepted m second
  pub reads_joined : read buffer ≡ accepted (n + m) (list_in_space n first second)
  pub counts : AddsUp first second (list_in_space n first second)
  pub amplitudes : TensorProduct n m first second (list_in_space n first second)

-- so it is where the call answered a length
abbrev pub WhereWritten : Result ℕ Refusal → Type 0 → Type 0
WhereWritten r Claim = (k : ℕ) → r ≡ Ok k → Claim
