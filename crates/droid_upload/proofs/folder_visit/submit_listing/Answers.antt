use Rattle.std.proofs.Common.{◌==◌, ◌&&◌, Bool, List, length, map, subst, ◌∙◌, ap}
use Rattle.droid_tree.specs.Observation.{GoesOver}
use Rattle.droid_tree.specs.declared.folder_entry.FolderEntry.{FolderEntry}
use Rattle.droid_upload.specs.FolderVisits.{report_repeated}
use Rattle.droid_upload.specs.SubmissionSteps.{AreOfFirst, AreOfListing, TakesKids}
use Rattle.droid_upload.specs.Deeds.{Does}
use Rattle.droid_upload.specs.Fronts.{AreJust, EndsEarly}
use Rattle.droid_upload.proofs.FaultPassed.{if_err_same}
use Rattle.droid_upload.proofs.FolderVisited.{entries_end, listing_taken, reports_end}
use Rattle.droid_upload.proofs.folder_visit.submit_listing.Goals as goal

pub returns-in_err-report_all-clause-ended : goal.returns-in_err-report_all-clause-ended
returns-in_err-report_all-clause-ended g c =
    let entries = c.args.listing.now.entries.items in
    let repeated = c.args.listing.now.repeated.items in
    if_err_same c.from_residual.result c.in_err-report_all.field-0.0 (λ fault. EndsEarly (Does g.T.Tree.observes g.C.Client.calls g.W.Watcher.hears) (AreOfListing c.args.into c.args.folder.now.path entries repeated) fault c.args.upload.now c.report_all.new.upload) c.from_residual.ensures.1
    (reports_end (Does g.T.Tree.observes g.C.Client.calls g.W.Watcher.hears) c.args.folder.now c.args.into entries repeated c.in_err-report_all.field-0.0 c.args.upload.now c.report_all.new.upload
    (subst (λ (l : List FolderEntry). EndsEarly (Does g.T.Tree.observes g.C.Client.calls g.W.Watcher.hears) (AreJust (map (report_repeated c.args.folder.now.path) l)) c.in_err-report_all.field-0.0 c.args.upload.now c.report_all.new.upload) c.as_slice-repeated.ensures.value c.in_err-report_all.ensures.ended))

pub returns-in_err-taken-clause-ended : goal.returns-in_err-taken-clause-ended
returns-in_err-taken-clause-ended g c =
    let entries = c.args.listing.now.entries.items in
    let repeated = c.args.listing.now.repeated.items in
    if_err_same c.from_residual-in_err-taken.result c.in_err-taken.field-0.0 (λ fault. EndsEarly (Does g.T.Tree.observes g.C.Client.calls g.W.Watcher.hears) (AreOfListing c.args.into c.args.folder.now.path entries repeated) fault c.args.upload.now c.submit_entries.new.upload) c.from_residual-in_err-taken.ensures.1
    (entries_end (Does g.T.Tree.observes g.C.Client.calls g.W.Watcher.hears) c.args.folder.now c.args.into entries repeated c.args.upload.now c.report_all.new.upload c.submit_entries.new.upload
    (subst (λ (l : List FolderEntry). GoesOver (Does g.T.Tree.observes g.C.Client.calls g.W.Watcher.hears) c.args.upload.now (map (report_repeated c.args.folder.now.path) l) c.report_all.new.upload) c.as_slice-repeated.ensures.value c.in_ok-report_all.ensures.reported)
    c.in_err-taken.field-0.0
    (subst (λ (l : List FolderEntry). EndsEarly (Does g.T.Tree.observes g.C.Client.calls g.W.Watcher.hears) (AreOfFirst c.args.into c.args.folder.now.path l) c.in_err-taken.field-0.0 c.report_all.new.upload c.submit_entries.new.upload) c.as_slice.ensures.value c.in_err-taken.ensures.ended))

pub returns-clause-taken : goal.returns-clause-taken
returns-clause-taken g c =
    let entries = c.args.listing.now.entries.items in
    let repeated = c.args.listing.now.repeated.items in
    listing_taken (Does g.T.Tree.observes g.C.Client.calls g.W.Watcher.hears) c.args.folder.now c.args.into entries repeated c.args.upload.now c.report_all.new.upload c.submit_entries.new.upload
    (subst (λ (l : List FolderEntry). GoesOver (Does g.T.Tree.observes g.C.Client.calls g.W.Watcher.hears) c.args.upload.now (map (report_repeated c.args.folder.now.path) l) c.report_all.new.upload) c.as_slice-repeated.ensures.value c.in_ok-report_all.ensures.reported)
    c.in_ok-taken.taken _ c.args.found.now c.submit_entries.new.found
    (subst (λ (l : List FolderEntry). TakesKids (Does g.T.Tree.observes g.C.Client.calls g.W.Watcher.hears) c.args.into c.args.folder.now l c.in_ok-taken.taken c.report_all.new.upload c.submit_entries.new.upload c.args.found.now c.submit_entries.new.found) c.as_slice.ensures.value c.in_ok-taken.ensures.taken)
    (c.both.ensures ∙ ap (λ (b : Bool). b && c.in_ok-taken.taken) (c.is_empty.ensures ∙ ap (λ (l : List FolderEntry). length l == 0) c.as_slice-repeated.ensures.value))
