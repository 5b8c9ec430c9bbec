-- `dense_numbers::AmplitudeAdd::add` meets its contract: each coefficient is the sum of two small numbers.
-- Assumes nothing.
use Rattle.amplitude.specs.Number.{◌+ω◌}
use Rattle.amplitude.proofs.NumberLaws.{zω≡}
use Rattle.dense_numbers.proofs.Whole.{sum_back}
use Rattle.dense_numbers.proofs.AmplitudeAdd.add.Goals as goal

pub returns : goal.returns
unfolding ◌+ω◌
returns c = zω≡ (sum_back c.args.self.a c.args.y.a c.requires.0.a c.requires.1.a)
    (sum_back c.args.self.b c.args.y.b c.requires.0.b c.requires.1.b)
    (sum_back c.args.self.c c.args.y.c c.requires.0.c c.requires.1.c)
    (sum_back c.args.self.d c.args.y.d c.requires.0.d c.requires.1.d)
