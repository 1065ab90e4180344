use Rattle.std.proofs.Common.{◌≡◌, rules}
use Rattle.std.proofs.lemmas.Fn.{always_returns_same}
use Rattle.droid_terminal.specs.Frequencies.{rareness}
use Rattle.droid_terminal.proofs.format_counts.first_of.Goals as goal

pub returns : goal.returns
returns c =
    record {
      sorted = c.sort_by_key.new.self.items;
      same = c.sort_by_key.ensures.permutation;
      in_order = c.in_ok-sort_by_key.ensures.sorted rareness (always_returns_same _ (λ a r. r ≡ rareness a.0.now) _ (λ a r q k. search rules));
      ties = c.sort_by_key.ensures.stable rareness (always_returns_same _ (λ a r. r ≡ rareness a.0.now) _ (λ a r q k. search rules));
      first = c.truncate.ensures.items;
    }
