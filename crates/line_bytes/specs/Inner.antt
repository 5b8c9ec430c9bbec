-- What only contracts of functions that programs do not call cite: bytes put into a buffer at a place.
-- Assumes nothing.
use Rattle.std.specs.Prelude.{ℕ, ◌+◌, List, ◌++◌, ◌≡◌, length, take, drop}

-- text over what stood from a place on, and all other bytes as they were
unfoldable pub written : ℕ → List ℕ → List ℕ → List ℕ
written at text old = take at old ++ (text ++ drop (at + length text) old)

-- a text was written into a buffer at a place: the answer r is the place behind it, and new is the buffer afterwards
pub record Wrote (at : ℕ) (text old : List ℕ) (r : ℕ) (new : List ℕ) : Type 0 where
  pub end : r ≡ at + length text
  pub leaves : new ≡ written at text old
