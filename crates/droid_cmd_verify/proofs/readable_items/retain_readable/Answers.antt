use Rattle.std.proofs.Common.{rules}
use Rattle.std.proofs.lemmas.Fn.{filter_same}
use Rattle.droid_cmd_verify.specs.CheckedTrees.{is_readable}
use Rattle.droid_cmd_verify.proofs.readable_items.retain_readable.Goals as goal

pub returns : goal.returns
returns c = λ unreadable held. filter_same _ (is_readable unreadable) _ (λ x b f k. search (rules, held)) _ _ c.retain.ensures.filtered
