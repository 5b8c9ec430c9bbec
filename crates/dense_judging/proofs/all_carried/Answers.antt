-- `dense_judging::all_carried` meets its contract: the test is made at every place.
-- Assumes nothing.
use mathlib.Core.Path.{refl, ap, ◌∙◌}
use mathlib.Core.Bool.{Bool}
use Prim.Native.Nat.{ℕ}
use native.Mathlib.Omega.{arith}
use borrow.Author.Rules.{rules}
use borrow.Author.Tests.{tests}
use Rattle.std.proofs.lemmas.Iterator.{YieldsList-from_range}
use Rattle.std.proofs.lemmas.Iterator.Search.{all_from_yields_List}
use Rattle.amplitude.specs.Number.{ω^}
use Rattle.amplitude.specs.Testing.{eqω, below, carries_state}
use Rattle.dense_columns.specs.Columns.{amplitude_at}
use Rattle.dense_judging.proofs.Ranges.{below_range}
use Rattle.dense_judging.proofs.all_carried.Goals as goal

pub returns : goal.returns
unfolding carries_state
returns c =
    let test : ℕ → Bool = λ w. eqω (ω^ c.args.j (amplitude_at c.args.first.now w)) (amplitude_at c.args.second.now w) in
    all_from_yields_List test _ _ c.all.result c.all.ensures.ran (YieldsList-from_range 0 c.power.result c.power.result refl (omega arith))
    (λ x b q k. search (rules, tests))
    ∙ below_range c.power.result test
    ∙ ap (λ m. below m test) c.power.ensures
