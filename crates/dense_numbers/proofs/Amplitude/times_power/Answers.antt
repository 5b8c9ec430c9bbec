-- `dense_numbers::Amplitude::times_power` meets its contract: ω⁸ is 1, and ω⁴ is −1.
-- Assumes nothing.
use mathlib.Core.Path.{sym, ap, ◌∙◌}
use Prim.Native.Nat.{◌%◌, ◌-◌}
use native.Mathlib.Omega.{arith}
use Rattle.amplitude.specs.Number.{ω^}
use Rattle.amplitude.proofs.NumberLaws.{ω^_four, ω^-mod}
use Rattle.amplitude.proofs.Linear.{ω^_zero}
use Rattle.dense_numbers.specs.Numbers.{number, most_doublings}
use Rattle.dense_numbers.proofs.Sizes.{sized_neg, upper_half}
use Rattle.dense_numbers.proofs.Amplitude.times_power.Goals as goal

pub returns-then-k-eq0 : goal.returns-then-k-eq0
returns-then-k-eq0 c =
    let x = number c.args.self in
    sym (ω^_zero x) ∙ ap (λ m. ω^ m x) (sym c.if-k-eq0.true) ∙ ω^-mod c.args.k x

pub returns-then-k-eq4 : goal.returns-then-k-eq4
returns-then-k-eq4 c =
    let x = number c.args.self in
    c.neg.ensures ∙ sym (ω^_four x) ∙ ap (λ m. ω^ m x) (sym c.if-k-eq4.true) ∙ ω^-mod c.args.k x

pub returns-then-k-lt4 : goal.returns-then-k-lt4
returns-then-k-lt4 c = c.times_low_power.ensures ∙ ω^-mod c.args.k (number c.args.self)

pub times_low_power-requires-2-clause-small : goal.times_low_power-requires-2-clause-small
times_low_power-requires-2-clause-small c = rw c.neg-2.ensures (sized_neg most_doublings _ c.requires)

pub returns : goal.returns
returns c =
    let x = number c.args.self in
    c.times_low_power-2.ensures
    ∙ ap (ω^ (c.args.k % 8 - 4)) c.neg-2.ensures
    ∙ upper_half (c.args.k % 8) x (omega arith)
    ∙ ω^-mod c.args.k x
