-- Rows of document 01's table "Where a call is turned down": a fault and the condition under which a call has it. Checks run top to
-- bottom, so a call is turned down by the first row whose condition holds.
-- Assumes nothing.
use Rattle.std.specs.Prelude.{ℕ, Bool, cond, List, [], ◌∷◌}
use Rattle.std.proofs.Math.Option.{Option, none, some}

-- why a record is refused: the number, and the index of the gate that it is about, if it is about one
pub record Fault : Type 0 where
  pub number : ℕ
  pub index : Option ℕ

-- a fault of no single gate
abbrev pub fault : ℕ → Fault
fault k = record { number = k; index = none }

-- a fault of the gate at index i
abbrev pub fault_at : ℕ → ℕ → Fault
fault_at i k = record { number = k; index = some i }

-- a fault, of records or of another type F, and whether its condition holds
pub record Row (F : Type 0) : Type 0 where
  pub fault : F
  pub when : Bool

-- a row of the table
abbrev pub row : ℕ → Bool → Row Fault
row k c = record { fault = fault k; when = c }

-- a row of the table for the gate at index i
abbrev pub gate_row : ℕ → ℕ → Bool → Row Fault
gate_row i k c = record { fault = fault_at i k; when = c }

-- the same row, its fault told by g
abbrev pub told : {F G : Type 0} → (F → G) → Row F → Row G
told g r = record { fault = g r.fault; when = r.when }

-- the fault of the first row whose condition holds
unfoldable pub first : {F : Type 0} → List (Row F) → Option F
first [] = none
first (r ∷ rs) = cond r.when (some r.fault) (first rs)
