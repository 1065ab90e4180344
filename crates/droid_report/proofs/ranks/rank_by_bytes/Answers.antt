use Rattle.std.proofs.Common.{◌≡◌, rules}
use Rattle.std.proofs.lemmas.Fn.{always_returns_same}
use Rattle.droid_report.specs.Ranks.{by_bytes}
use Rattle.droid_report.proofs.ranks.rank_by_bytes.Goals as goal

pub returns : goal.returns
returns c =
    record {
      same = c.sort_by_key.ensures.permutation;
      in_order = c.in_ok-sort_by_key.ensures.sorted by_bytes (always_returns_same _ (λ a r. r ≡ by_bytes a.0.now) _ (λ a r q k. search rules));
      ties = c.sort_by_key.ensures.stable by_bytes (always_returns_same _ (λ a r. r ≡ by_bytes a.0.now) _ (λ a r q k. search rules));
    }
