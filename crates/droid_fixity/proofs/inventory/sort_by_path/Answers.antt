use Rattle.std.proofs.Common.{rules}
use Rattle.std.proofs.lemmas.Cmp.{nat_list_cmp_total}
use Rattle.std.proofs.lemmas.List.Sorted.{answers_always, ranks_by}
use Rattle.droid_fixity.specs.Inventories.{is_before}
use Rattle.droid_fixity.proofs.inventory.sort_by_path.Goals as goal

pub returns-in-Ok-clause-sorted : goal.returns-in-Ok-clause-sorted
returns-in-Ok-clause-sorted c =
    c.in-Ok.ensures.sorted (λ a b. is_before a.path b.path) (ranks_by nat_list_cmp_total (λ item. item.path)) (answers_always _ _ _ (λ f a r g h. search rules))

pub returns-in-Err-clause-sorted : goal.returns-in-Err-clause-sorted
returns-in-Err-clause-sorted c =
    c.sort_unstable_by.ensures.sorted (λ a b. is_before a.path b.path) (ranks_by nat_list_cmp_total (λ item. item.path)) (answers_always _ _ _ (λ f a r g h. search rules))
