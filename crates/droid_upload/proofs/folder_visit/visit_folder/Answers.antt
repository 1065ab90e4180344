use Rattle.std.proofs.Common.{◌∙◌}
use Rattle.droid_upload.specs.SubmissionSteps.{AreOfVisit}
use Rattle.droid_upload.specs.Deeds.{Does}
use Rattle.droid_upload.specs.Fronts.{EndsEarly}
use Rattle.droid_upload.proofs.FaultPassed.{if_err_same}
use Rattle.droid_upload.proofs.FolderVisited.{listed_ends, listed_visited, unlisted_ends, unlisted_visited}
use Rattle.droid_upload.proofs.folder_visit.visit_folder.Goals as goal

pub returns-in_err-listing-clause-ended : goal.returns-in_err-listing-clause-ended
returns-in_err-listing-clause-ended g c =
    if_err_same c.from_residual.result c.in_err-listing.field-0.0 (λ fault. EndsEarly (Does g.T.Tree.observes g.C.Client.calls g.W.Watcher.hears) (AreOfVisit c.args.into c.args.folder.now) fault c.args.upload.now c.list_folder.new.upload) c.from_residual.ensures.1
    (unlisted_ends (Does g.T.Tree.observes g.C.Client.calls g.W.Watcher.hears) c.args.folder.now c.args.into c.in_err-listing.field-0.0 c.args.upload.now c.list_folder.new.upload c.in_err-listing.ensures.memory)

pub returns-in_err-whole-in-Ok-clause-ended : goal.returns-in_err-whole-in-Ok-clause-ended
returns-in_err-whole-in-Ok-clause-ended g c =
    let listing = c.in-Ok.listing in
    if_err_same c.from_residual-in_err-whole-in-Ok.result c.in_err-whole-in-Ok.field-0.0 (λ fault. EndsEarly (Does g.T.Tree.observes g.C.Client.calls g.W.Watcher.hears) (AreOfVisit c.args.into c.args.folder.now) fault c.args.upload.now c.submit_listing.new.upload) c.from_residual-in_err-whole-in-Ok.ensures.1
    (listed_ends (Does g.T.Tree.observes g.C.Client.calls g.W.Watcher.hears) c.args.folder.now c.args.into c.as_str.result.now listing.entries.items listing.repeated.items c.args.upload.now c.list_folder.new.upload c.submit_listing.new.upload c.as_str.ensures.value
    (rw c.in-Ok.is at c.in_ok-listing.ensures.listed) c.in_err-whole-in-Ok.field-0.0 c.in_err-whole-in-Ok.ensures.ended)

pub returns-in_ok-whole-in-Ok-clause-visited : goal.returns-in_ok-whole-in-Ok-clause-visited
returns-in_ok-whole-in-Ok-clause-visited g c =
    let listing = c.in-Ok.listing in
    listed_visited (Does g.T.Tree.observes g.C.Client.calls g.W.Watcher.hears) c.args.folder.now c.args.into c.as_str.result.now listing.entries.items listing.repeated.items c.args.upload.now c.list_folder.new.upload c.submit_listing.new.upload c.as_str.ensures.value
    (rw c.in-Ok.is at c.in_ok-listing.ensures.listed) c.in_ok-whole-in-Ok.whole c.args.found.now c.submit_listing.new.found c.in_ok-whole-in-Ok.ensures.taken

pub returns-in-Err-clause-visited : goal.returns-in-Err-clause-visited
returns-in-Err-clause-visited g c =
    unlisted_visited (Does g.T.Tree.observes g.C.Client.calls g.W.Watcher.hears) c.args.folder.now c.args.into c.in-Err.why c.as_str.result.now c.as_bytes.result.now c.args.upload.now c.list_folder.new.upload c.report.new.upload c.args.found.now c.as_str.ensures.value
    (c.as_bytes.ensures.value ∙ c.as_str-in-Err.ensures.value) (rw c.in-Err.is at c.in_ok-listing.ensures.listed) c.report.ensures
