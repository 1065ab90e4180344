use Rattle.std.proofs.Common.{Err, sym, subst}
use Rattle.droid_fixity.specs.Lists.{items_of}
use Rattle.droid_lists.specs.Listings.{Comes, of_manifest}
use Rattle.droid_lists.specs.declared.list_content.UnreadList.{UnreadList}
use Rattle.droid_lists.proofs.Listing.{manifest_comes, manifest_fails}
use Rattle.droid_lists.proofs.list_content.items_of_manifest.Goals as goal

pub returns-in-Ok : goal.returns-in-Ok
returns-in-Ok c = manifest_comes (items_of c.args.form c.args.text.now) c.in-Ok.items.items c.in_order.result c.in-Ok.ensures c.in_order.ensures

pub returns-in-Err : goal.returns-in-Err
returns-in-Err c =
    subst (λ (fault : UnreadList). Comes (of_manifest (items_of c.args.form c.args.text.now)) (Err fault)) (sym c.manifest_fault.ensures) (manifest_fails (items_of c.args.form c.args.text.now) c.in-Err.fault c.in-Err.ensures)
