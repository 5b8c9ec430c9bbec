-- `dense_judging::first_power` meets its contract: the powers are tried in turn.
-- Assumes nothing.
use mathlib.Core.Path.{◌≡◌}
use mathlib.Core.Bool.{true, false}
use Prim.Native.Nat.{ℕ, ◌<◌, ◌≤◌}
use native.Mathlib.Omega.{arith}
use borrow.Author.Rules.{rules}
use borrow.Author.Tests.{tests}
use Rattle.std.specs.Prelude.{Option, Some, None, MatchOption}
use Rattle.std.proofs.lemmas.Iterator.{serves_from_Range, first_from_Range}
use Rattle.amplitude.specs.Testing.{carries_state}
use Rattle.dense_columns.specs.Columns.{amplitude_at}
use Rattle.dense_judging.proofs.first_power.Goals as goal

-- a range from 0 on
from_zero : (r : Option ℕ) (m : ℕ) (Yes No : ℕ → Type 0) →
    MatchOption r ((k : ℕ) → 0 ≤ k → k < m → No k) (λ i. (0 ≤ i) × (i < m) × Yes i × ((k : ℕ) → 0 ≤ k → k < i → No k)) →
    MatchOption r ((k : ℕ) → k < m → No k) (λ i. (i < m) × Yes i × ((k : ℕ) → k < i → No k))
from_zero None m Yes No none = λ k l. none k (omega arith) l
from_zero (Some i) m Yes No found = (found.1, found.2, λ k l. found.3 k (omega arith) l)

pub find-requires-clause-callable : goal.find-requires-clause-callable
find-requires-clause-callable c = serves_from_Range (λ x q k. search rules) (λ x l h. search rules)

pub returns : goal.returns
returns c =
    let Carried : ℕ → Type 0 = λ j. carries_state c.args.n j (amplitude_at c.args.first.now) (amplitude_at c.args.second.now) ≡ true in
    let Not : ℕ → Type 0 = λ j. carries_state c.args.n j (amplitude_at c.args.first.now) (amplitude_at c.args.second.now) ≡ false in
    from_zero c.find.result 8 Carried Not
    (first_from_Range _ _ _ c.find.result Carried Not c.find.ensures.ran (λ x q k. search (rules, tests)) (λ x q k. search (rules, tests)))
