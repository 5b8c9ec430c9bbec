-- `dense_numbers::Amplitude::root_two_power` meets its contract: after so many turns the number is 1 times √2, as often.
-- Assumes nothing.
use mathlib.Core.Path.{refl, ap, ◌∙◌}
use Prim.Native.Nat.{◌+◌}
use native.Mathlib.Numerals.{add-one}
use native.Mathlib.Omega.{arith}
use Rattle.amplitude.specs.Number.{1ω, whole, mul√2, √2^}
use Rattle.dense_numbers.specs.Numbers.{most_doublings}
use Rattle.dense_numbers.proofs.Sizes.{sized_more, sized_1ω, sized_√2^}
use Rattle.dense_numbers.proofs.Amplitude.root_two_power.Goals as goal

pub loop-init : goal.loop-init
unfolding √2^ 1ω whole
loop-init c = refl

pub times_root_two-z-requires : goal.times_root_two-z-requires
times_root_two-z-requires c =
    let l = c.loop in
    rw l.invariant (sized_more (0 + l.counter) most_doublings _ (omega arith) (sized_√2^ l.counter 0 1ω sized_1ω))

pub loop-preserved : goal.loop-preserved
unfolding √2^
loop-preserved c =
    let l = c.loop in
    rw (add-one l.counter) (c.times_root_two-z.ensures ∙ ap mul√2 l.invariant)
