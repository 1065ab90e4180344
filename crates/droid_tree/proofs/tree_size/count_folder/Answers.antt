use Rattle.std.proofs.Common.{refl, ◌∙◌}
use Rattle.droid_tree.proofs.Tallies.{counts_listed, counts_unread}
use Rattle.droid_tree.proofs.tree_size.count_folder.Goals as goal

pub returns-in_ok-after-in-Ok-clause-counted : goal.returns-in_ok-after-in-Ok-clause-counted
returns-in_ok-after-in-Ok-clause-counted g c =
    let lists = rw c.in-Ok.is at c.in_ok-listing.ensures.read in
    counts_listed g.T.Tree.observes c.args.folder.now.path c.args.before c.in_ok-after-in-Ok.after _ _ _ _ c.as_str.result.now c.as_slice-entries.result.now c.in-Ok.listing.entries.items c.in-Ok.listing.repeated.items
    c.len-repeated.result c.in_ok-now-in-Ok.now c.as_str.ensures.value lists c.as_slice-entries.ensures.value (c.len-repeated.ensures ∙ c.in-Ok.listing.repeated.ok.0) c.in_ok-now-in-Ok.ensures.counted c.in_ok-after-in-Ok.ensures.counted

pub returns-in_ok-after-in-Err-clause-counted : goal.returns-in_ok-after-in-Err-clause-counted
returns-in_ok-after-in-Err-clause-counted g c =
    let unread = rw c.in-Err.is at c.in_ok-listing.ensures.read in
    counts_unread g.T.Tree.observes c.args.folder.now.path c.args.before c.in_ok-after-in-Err.after _ _ _ _ c.as_str.result.now c.in-Err.field-0 c.as_str.ensures.value unread c.in_ok-after-in-Err.ensures.counted refl
