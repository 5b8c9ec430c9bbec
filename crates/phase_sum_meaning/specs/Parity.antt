-- Parities: a set of variables and a constant bit. A wire of document 01 is one; so is what a pin or a join sets to 0.
-- Assumes nothing.
use Rattle.std.specs.Prelude.{ℕ, Bool, true, false, cond}
use Rattle.std.specs.Bool.{xor}
use Rattle.amplitude.specs.Bits.{bit}
use Rattle.phase_sum_meaning.specs.Sets.{◌△◌, single, parity}

infixl 60 ◌⊕◌
-- the parity of the set's variables, complemented where the constant is 1
pub record Parity : Type 0 where
  pub vars : ℕ
  pub flipped : Bool

-- its value at an assignment
unfoldable pub value : Parity → ℕ → Bool
value p x = xor (parity p.vars x) p.flipped

-- the parity of a set
abbrev pub of : ℕ → Parity
of s = record { vars = s; flipped = false }

-- the exclusive or of two parities
unfoldable pub ◌⊕◌ : Parity → Parity → Parity
p ⊕ q = record { vars = p.vars △ q.vars; flipped = xor p.flipped q.flipped }

-- the complement
unfoldable pub complement : Parity → Parity
complement p = record { vars = p.vars; flipped = xor true p.flipped }

-- the rest of q without the variable z that it holds: where q is 0, z has this value
unfoldable pub rest : ℕ → Parity → Parity
rest z q = record { vars = q.vars △ single z; flipped = q.flipped }

-- a parity with the variable z replaced by the parity p
unfoldable pub replace_in : ℕ → Parity → Parity → Parity
replace_in z p w = cond (bit z w.vars) (record { vars = w.vars △ single z; flipped = w.flipped } ⊕ p) w
