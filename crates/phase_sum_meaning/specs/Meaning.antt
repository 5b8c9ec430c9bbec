-- What a path sum means: sums over path variables, by flips of the assignment, of powers of ω.
-- Assumes nothing.
use Rattle.std.specs.Prelude.{ℕ, zero, suc, Bool, true, cond, not, ◌&&◌, List, [], ◌∷◌}
use Rattle.amplitude.specs.Number.{Zω, 0ω, 1ω, ◌+ω◌, ω^}
use Rattle.amplitude.specs.Bits.{flip}
use Rattle.phase_sum_meaning.specs.Parity.{value, ◌⊕◌}
use Rattle.phase_sum_meaning.specs.Phase.{Phase, phase_at}
use Rattle.phase_sum_meaning.specs.Building.{PathSum, wire, input}

-- a function summed over both values of variable z
unfoldable pub both : ℕ → (ℕ → Zω) → ℕ → Zω
both z f x = f x +ω f (flip z x)

-- and over all values of some variables, one after another
unfoldable pub sum_over : List ℕ → (ℕ → Zω) → ℕ → Zω
sum_over [] f = f
sum_over (z ∷ zs) f = sum_over zs (both z f)

-- ω to the phase at an assignment
unfoldable pub phasor : Phase → ℕ → Zω
phasor φ x = ω^ (phase_at φ x) 1ω

-- the first n output wires have the values of their inputs
unfoldable pub closes : ℕ → ℕ → PathSum → ℕ → Bool
closes scratch zero s x = true
closes scratch (suc n) s x = closes scratch n s x && not (value (wire n s ⊕ input scratch n) x)

-- what an assignment adds to the diagonal: ω to its phase where every wire ends as it began
unfoldable pub on_diagonal : ℕ → ℕ → PathSum → ℕ → Zω
on_diagonal scratch n s x = cond (closes scratch n s x) (phasor s.phase x) 0ω

-- the sum that is left: of the phase alone, over the live variables
unfoldable pub remaining : PathSum → ℕ → Zω
remaining s = sum_over s.live (phasor s.phase)
