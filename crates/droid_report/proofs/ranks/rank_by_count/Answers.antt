use Rattle.std.proofs.Common.{◌≡◌, rules}
use Rattle.std.proofs.lemmas.Fn.{always_returns_same}
use Rattle.droid_report.specs.Ranks.{by_count}
use Rattle.droid_report.proofs.ranks.rank_by_count.Goals as goal

pub returns : goal.returns
returns c =
    record {
      same = c.sort_by_key.ensures.permutation;
      in_order = c.in_ok-sort_by_key.ensures.sorted by_count (always_returns_same _ (λ a r. r ≡ by_count a.0.now) _ (λ a r q k. search rules));
      ties = c.sort_by_key.ensures.stable by_count (always_returns_same _ (λ a r. r ≡ by_count a.0.now) _ (λ a r q k. search rules));
    }
