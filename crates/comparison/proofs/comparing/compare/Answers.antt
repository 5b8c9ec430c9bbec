-- `comparison::comparing::compare` meets its contract: it answers what `compare_read` found, and the clauses on the outcome follow from the
-- demands.
-- Assumes nothing.
use mathlib.Core.Path.{◌≡◌}
use lib.ListN.{length}
use borrow.Author.Rules.{rules}
use Rattle.comparison_types.specs.Call.{said_of, comparison}
use Rattle.comparison_types.proofs.ClauseLaws.{clauses_said}
use Rattle.comparison.proofs.comparing.compare.Goals as goal

pub returns : goal.returns
returns c =
    let a = c.args in
    let steps : said_of c.map.result ≡ comparison a.first.now a.second.now (length a.sets.now) (length a.coeffs.now) = search rules in
    let all = clauses_said a.first.now a.second.now (length a.sets.now) (length a.coeffs.now) c.map.result steps in
    record {
      steps = steps;
      kept = search rules;
      sound = all.0;
      stops = all.1.0;
      inputs = all.1.1.0;
      clifford = all.1.1.1.0;
      counts = all.1.1.1.1;
    }
