-- `dense_numbers::AmplitudeNeg::neg` meets its contract: each coefficient is the negative of a small number.
-- Assumes nothing.
use Rattle.amplitude.specs.Number.{neg}
use Rattle.amplitude.proofs.NumberLaws.{zω≡}
use Rattle.dense_numbers.proofs.Whole.{negative_back}
use Rattle.dense_numbers.proofs.AmplitudeNeg.neg.Goals as goal

pub returns : goal.returns
unfolding neg
returns c = zω≡ (negative_back c.args.self.a c.requires.a) (negative_back c.args.self.b c.requires.b)
    (negative_back c.args.self.c c.requires.c) (negative_back c.args.self.d c.requires.d)
