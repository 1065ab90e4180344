use Rattle.std.proofs.Common.{◌≡◌, rules, ap}
use Rattle.std.specs.Ordering.{nat_cmp, is_lt}
use Rattle.std.specs.Cmp.Lexicographic.{slice_cmp}
use Rattle.std.proofs.lemmas.Cmp.{nat_list_cmp_total}
use Rattle.std.proofs.lemmas.List.Sorted.{answers_always, ranks_by}
use Rattle.droid_tree.specs.declared.folder_entry.FolderEntry.{FolderEntry}
use Rattle.droid_tree.proofs.Splitting.{sorted_split}
use Rattle.droid_tree.proofs.order.in_order.Goals as goal

pub split-requires : goal.split-requires
split-requires c =
    c.in_ok-sort_by.ensures.sorted (λ (x y : FolderEntry). is_lt (slice_cmp nat_cmp x.name y.name)) (ranks_by nat_list_cmp_total (λ (e : FolderEntry). e.name))
    (answers_always _ (λ a r. is_lt r ≡ is_lt (slice_cmp nat_cmp a.0.now.name a.1.0.now.name)) _ (λ f a r f' k. let same : r ≡ slice_cmp nat_cmp a.0.now.name a.1.0.now.name = search rules in ap is_lt same))

pub returns : goal.returns
returns c = sorted_split c.args.entries.items c.sort_by.new.self.items _ _ c.sort_by.ensures.permutation c.in_ok-listing.ensures
