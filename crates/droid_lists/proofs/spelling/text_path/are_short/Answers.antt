use Rattle.std.proofs.Common.{rules, tests, List, ℕ, length}
use Rattle.std.specs.Prelude.{nat_le}
use Rattle.std.proofs.lemmas.Iterator.Search.{all_from_yields_List}
use Rattle.std.proofs.lemmas.Iterator.Splits.{YieldsList-from_slice_split}
use Rattle.droid_lists.proofs.spelling.text_path.are_short.Goals as goal

pub returns : goal.returns
returns c =
    all_from_yields_List (λ (name : List ℕ). nat_le (length name) 255) _ _ _ c.all.ensures.ran
    (YieldsList-from_slice_split _ _ c.args.path.now c.split.ensures.rest c.split.ensures.done c.split.ensures.closure (λ x r q k. search (rules, tests)))
    (λ x b q k. search (rules, tests))
