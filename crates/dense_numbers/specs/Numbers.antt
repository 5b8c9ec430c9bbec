-- Exact amplitudes in the machine's numbers: what an amplitude stands for, and how large it may be.
-- Assumes nothing.
use Rattle.std.specs.Prelude.{ℕ, ◌^◌, ◌≤◌, nat_abs, List, [], ◌∷◌, get_or, ℤ, pos}
use Rattle.amplitude.specs.Number.{Zω}
use Rattle.dense_numbers.specs.declared.Amplitude.{Amplitude}

-- the number that an amplitude stands for
abbrev pub number : Amplitude → Zω
number x = record { a = x.a; b = x.b; c = x.c; d = x.d }

-- the number whose four coefficients stand in a list
unfoldable pub of_coefficients : List ℤ → Zω
of_coefficients ns = record { a = get_or ns 0 (pos 0); b = get_or ns 1 (pos 0); c = get_or ns 2 (pos 0); d = get_or ns 3 (pos 0) }

-- the four coefficients of a number
unfoldable pub coefficients : Zω → List ℤ
coefficients z = z.a ∷ z.b ∷ z.c ∷ z.d ∷ []

-- every coefficient is at most 2^k in size
pub record Sized (k : ℕ) (z : Zω) : Type 0 where
  pub a : nat_abs z.a ≤ 2 ^ k
  pub b : nat_abs z.b ≤ 2 ^ k
  pub c : nat_abs z.c ≤ 2 ^ k
  pub d : nat_abs z.d ≤ 2 ^ k

-- numbers of at most 2^60 in size are added and negated without overflow: an H gate and a √2 at most double them, and a pair has at most
-- 60 H gates
abbrev pub most_doublings : ℕ
most_doublings = 60
