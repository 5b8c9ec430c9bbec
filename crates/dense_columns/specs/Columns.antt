-- Columns of exact amplitudes in a lent slice, the four coefficients of each at its place: the slice itself is the state.
-- Assumes nothing.
use Rattle.std.specs.Prelude.{◌≡◌, ℕ, ◌^◌, ◌<◌, ◌≤◌, List, [], length, get_or, set, ℤ}
use Rattle.amplitude.specs.Number.{Zω}
use Rattle.amplitude.specs.Circuit.{State}
use Rattle.dense_meaning.specs.Limits.{block_qubits}
use Rattle.dense_numbers.specs.Numbers.{of_coefficients, coefficients, Sized}

-- the amplitude at place w
unfoldable pub amplitude_at : List (List ℤ) → State
amplitude_at xs w = of_coefficients (get_or xs w [])

-- the slice with the amplitude at place w set anew
unfoldable pub stored : List (List ℤ) → ℕ → Zω → List (List ℤ)
stored xs w z = set xs w (coefficients z)

-- two places exchanged
pub record Exchanged (low high : ℕ) (xs ys : List (List ℤ)) : Type 0 where
  pub at_low : amplitude_at ys low ≡ amplitude_at xs high
  pub at_high : amplitude_at ys high ≡ amplitude_at xs low
  pub others : (u : ℕ) → (u ≡ low → ⊥) → (u ≡ high → ⊥) → amplitude_at ys u ≡ amplitude_at xs u

-- two states agree at the places of n qubits
abbrev pub Agree : ℕ → State → State → Type 0
Agree n φ ψ = (w : ℕ) → w < 2 ^ n → φ w ≡ ψ w

-- the slice holds ψ at the places of n qubits
abbrev pub Holds : ℕ → State → List (List ℤ) → Type 0
Holds n ψ xs = Agree n (amplitude_at xs) ψ

-- the amplitudes at the places of n qubits are at most 2^k in size
abbrev pub AllSized : ℕ → ℕ → State → Type 0
AllSized n k ψ = (w : ℕ) → w < 2 ^ n → Sized k (ψ w)

-- a slice with room for the places of n qubits, which are no more than a block has
pub record Room (n : ℕ) (xs : List (List ℤ)) : Type 0 where
  pub few : n ≤ block_qubits
  pub places : 2 ^ n ≤ length xs

-- one turn of a pass over a column: what F makes of it stands at the places of key w, and all others stay. A key gathers the places that
-- are done together: the place itself, or the lowest of those that differ in a gate's qubits alone
pub record Turned (n : ℕ) (key : ℕ → ℕ) (F : State → State) (w : ℕ) (xs ys : List (List ℤ)) : Type 0 where
  pub here : (u : ℕ) → u < 2 ^ n → key u ≡ w → amplitude_at ys u ≡ F (amplitude_at xs) u
  pub others : (u : ℕ) → u < 2 ^ n → (key u ≡ w → ⊥) → amplitude_at ys u ≡ amplitude_at xs u

-- what F makes of a state at a place of n qubits depends on the places of the same key alone
abbrev pub Local : ℕ → (ℕ → ℕ) → (State → State) → Type 0
Local n key F = (φ ψ : State) (u : ℕ) → u < 2 ^ n → ((v : ℕ) → v < 2 ^ n → key v ≡ key u → φ v ≡ ψ v) → F φ u ≡ F ψ u

-- the key of a place of n qubits is one of them
abbrev pub Inside : ℕ → (ℕ → ℕ) → Type 0
Inside n key = (u : ℕ) → u < 2 ^ n → key u < 2 ^ n

-- each place is a key of its own
abbrev pub itself : ℕ → ℕ
itself u = u
