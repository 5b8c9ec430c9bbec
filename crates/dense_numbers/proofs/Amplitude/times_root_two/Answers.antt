-- `dense_numbers::Amplitude::times_root_two` meets its contract: each coefficient is a sum or a difference of two small numbers.
-- Assumes nothing.
use mathlib.Core.Path.{sym, ◌∙◌}
use Rattle.amplitude.proofs.NumberLaws.{zω≡}
use Rattle.dense_numbers.proofs.Whole.{sum_back, difference_back}
use Rattle.dense_numbers.proofs.Sizes.{root_two}
use Rattle.dense_numbers.proofs.Amplitude.times_root_two.Goals as goal

pub returns : goal.returns
returns c = zω≡ (difference_back c.args.self.b c.args.self.d c.requires.b c.requires.d)
    (sum_back c.args.self.a c.args.self.c c.requires.a c.requires.c)
    (sum_back c.args.self.b c.args.self.d c.requires.b c.requires.d)
    (difference_back c.args.self.c c.args.self.a c.requires.c c.requires.a)
    ∙ sym (root_two _)
