-- `dense_columns::exchange` meets its contract: the slice's own exchange does what two stores do.
-- Assumes nothing.
use mathlib.Core.Path.{◌∙◌}
use Rattle.dense_columns.proofs.Places.{swap_stores, exchanged}
use Rattle.dense_columns.proofs.exchange.Goals as goal

pub returns-clause-whole : goal.returns-clause-whole
returns-clause-whole c =
    c.swap.ensures.after ∙ swap_stores c.args.column.now c.args.low c.args.high c.requires.0 c.requires.1 c.told-column

pub returns-clause-exchanged : goal.returns-clause-exchanged
returns-clause-exchanged c =
    rw (c.swap.ensures.after, swap_stores c.args.column.now c.args.low c.args.high c.requires.0 c.requires.1 c.told-column)
    (exchanged c.args.column.now c.args.low c.args.high c.requires.0 c.requires.1)
