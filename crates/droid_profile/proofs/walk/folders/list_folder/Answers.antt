use Rattle.std.proofs.Common.{List, ◌++◌, map, refl, ap, ◌∙◌}
use Rattle.droid_tree.specs.declared.folder_entry.FolderEntry.{FolderEntry}
use Rattle.droid_profile.specs.RowsPushed.{repeated_row}
use Rattle.droid_profile.proofs.FolderListed.{lists_folder}
use Rattle.droid_profile.proofs.walk.folders.list_folder.Goals as goal

pub returns-in_ok-push_repeated-in-Ok-Ok-clause-listed : goal.returns-in_ok-push_repeated-in-Ok-Ok-clause-listed
returns-in_ok-push_repeated-in-Ok-Ok-clause-listed g c =
    lists_folder g.T.Tree.observes c.args.folder.now c.args.scan.now _ c.args.rows.now.items c.push_repeated.new.rows.items c.args.tree.now c.read_folder.new.tree c.as_str.result.now c.in-Ok-Ok.listing.entries.items c.in-Ok-Ok.listing.repeated.items
    c.as_str.ensures.value (rw c.in-Ok-Ok.field-0-is at c.in-Ok-Ok.ensures.read) refl c.reverse.ensures.items
    (c.in_ok-push_repeated-in-Ok-Ok.ensures ∙ ap (λ (l : List FolderEntry). c.args.rows.now.items ++ map (repeated_row c.args.folder.now.path) l) c.as_slice.ensures.value)
