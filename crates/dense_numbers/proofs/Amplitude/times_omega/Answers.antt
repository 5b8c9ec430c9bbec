-- `dense_numbers::Amplitude::times_omega` meets its contract: one coefficient is negated, the others move up.
-- Assumes nothing.
use Rattle.amplitude.specs.Number.{mulω}
use Rattle.amplitude.proofs.NumberLaws.{zω≡}
use Rattle.dense_numbers.proofs.Whole.{same_back, negative_back}
use Rattle.dense_numbers.proofs.Amplitude.times_omega.Goals as goal

pub returns : goal.returns
unfolding mulω
returns c = zω≡ (negative_back c.args.self.d c.requires.d) (same_back c.args.self.a c.requires.a) (same_back c.args.self.b c.requires.b)
    (same_back c.args.self.c c.requires.c)
