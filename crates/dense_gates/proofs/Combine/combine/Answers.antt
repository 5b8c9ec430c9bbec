-- `dense_gates::Combine::combine` meets its contract: both amplitudes are read before either is stored, and what is added is no larger than
-- they are.
-- Assumes nothing.
use Rattle.dense_numbers.specs.Numbers.{number, Sized, most_doublings}
use Rattle.dense_numbers.proofs.Sizes.{sized_ω^}
use Rattle.dense_gates.proofs.Combine.combine.Goals as goal

pub add-requires : goal.add-requires
add-requires c =
    let first : Sized most_doublings (number c.load-x.result) = rw c.load-x.ensures c.requires.2 in
    let second : Sized most_doublings (number c.load-y.result) = rw c.load-y.ensures c.requires.3 in
    (rw c.times_power.ensures (sized_ω^ _ most_doublings _ first), rw c.times_power-2.ensures (sized_ω^ _ most_doublings _ second))

pub add-requires-2 : goal.add-requires-2
add-requires-2 c =
    let first : Sized most_doublings (number c.load-x.result) = rw c.load-x.ensures c.requires.2 in
    let second : Sized most_doublings (number c.load-y.result) = rw c.load-y.ensures c.requires.3 in
    (rw c.times_power-3.ensures (sized_ω^ _ most_doublings _ first), rw c.times_power-4.ensures (sized_ω^ _ most_doublings _ second))
