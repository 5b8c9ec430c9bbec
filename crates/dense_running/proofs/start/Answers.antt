-- `dense_running::start` meets its contract: zeros, and then the one number at its place.
-- Assumes nothing.
use lib.ListN.{length}
use Rattle.amplitude.specs.Number.{whole, 0ω}
use Rattle.dense_numbers.specs.Numbers.{coefficients}
use Rattle.dense_columns.specs.Columns.{stored}
use borrow.Author.Rules.{rules}
use Rattle.dense_running.proofs.Starting.{start_holds}
use Rattle.dense_running.proofs.start.Goals as goal

pub returns : goal.returns
unfolding stored
returns c = rw (c.into.ensures, c.root_two_power.ensures, c.fill.ensures.after (λ y h. search rules))
    (unfold 0ω whole coefficients in start_holds c.args.n c.args.v c.args.k (length c.args.column.now) c.requires.input c.requires.room.places)
