use Rattle.std.proofs.Common.{◌≡◌, ℕ, ℤ, FitsSigned, rules, List, [], ◌∷◌, subst, ◌∙◌}
use Rattle.std.proofs.lemmas.Int.{to_z-of_z}
use Rattle.std.specs.Int.{w64}
use Rattle.std.specs.Prelude.{IsUtf8}
use Rattle.droid_frame.specs.declared.request.Request.TheVariants.{AddFolder}
use Rattle.droid_tree.specs.Heard.{TookFolder}
use Rattle.droid_tree.specs.Paths.{below}
use Rattle.droid_tree.specs.declared.pending_folder.PendingFolder.{PendingFolder}
use Rattle.droid_upload.specs.SubmissionSteps.{AreOfFirst}
use Rattle.droid_upload.specs.Deeds.{Does, Informed}
use Rattle.droid_upload.specs.Fronts.{EndsAsking, EndsEarly}
use Rattle.droid_upload.specs.declared.submission_fault.SubmissionFault.TheVariants.{Memory}
use Rattle.droid_upload.proofs.EntryTaken.{added_folder_ends, folder_ends, folder_taken, refused_folder_taken}
use Rattle.droid_upload.proofs.FaultPassed.{if_err_same}
use Rattle.droid_upload.proofs.entry_submission.submit_folder.Goals as goal

pub returns-in_err-number-clause-ended : goal.returns-in_err-number-clause-ended
returns-in_err-number-clause-ended g c =
    let fits : FitsSigned w64 c.args.entry.now.modified = search rules in
    let ended = subst (λ (modified : ℤ). EndsAsking (Does g.T.Tree.observes g.C.Client.calls g.W.Watcher.hears) 0 (AddFolder c.args.into.profile c.args.into.folder modified c.args.name.now) c.in_err-number.field-0.0 c.args.upload.now c.add_folder.new.upload)
    (to_z-of_z w64 c.args.entry.now.modified fits) c.in_err-number.ensures.ended in
    if_err_same c.from_residual.result c.in_err-number.field-0.0 (λ fault. (folder : PendingFolder) → c.args.path ≡ below folder.path c.args.entry.now.name → EndsEarly (Does g.T.Tree.observes g.C.Client.calls g.W.Watcher.hears) (AreOfFirst c.args.into folder.path (c.args.entry.now ∷ [])) fault c.args.upload.now c.add_folder.new.upload) c.from_residual.ensures.1
    (λ folder here. folder_ends (Does g.T.Tree.observes g.C.Client.calls g.W.Watcher.hears) c.args.into folder c.args.entry.now c.args.name.now c.requires.named (subst IsUtf8 c.requires.named c.utf8.name) c.requires.kind c.in_err-number.field-0.0 c.args.upload.now c.add_folder.new.upload ended)

pub returns-in_err-add_folder_node-in-Ok-clause-ended : goal.returns-in_err-add_folder_node-in-Ok-clause-ended
returns-in_err-add_folder_node-in-Ok-clause-ended g c =
    let fits : FitsSigned w64 c.args.entry.now.modified = search rules in
    let added = rw (to_z-of_z w64 c.args.entry.now.modified fits) at (rw c.in-Ok.is at c.in_ok-number.ensures.added) in
    if_err_same c.from_residual-in_err-add_folder_node-in-Ok.result Memory (λ fault. (folder : PendingFolder) → c.args.path ≡ below folder.path c.args.entry.now.name → EndsEarly (Does g.T.Tree.observes g.C.Client.calls g.W.Watcher.hears) (AreOfFirst c.args.into folder.path (c.args.entry.now ∷ [])) fault c.args.upload.now c.report_folder.new.upload) c.from_residual-in_err-add_folder_node-in-Ok.ensures.1
    (λ folder here. added_folder_ends (Does g.T.Tree.observes g.C.Client.calls g.W.Watcher.hears) c.args.into folder c.args.entry.now c.args.name.now c.requires.named (subst IsUtf8 c.requires.named c.utf8.name) c.requires.kind c.as_str.result.now (c.as_str.ensures.value ∙ here) c.args.upload.now c.add_folder.new.upload c.report_folder.new.upload
    c.in-Ok.number added c.report_folder.ensures)

pub returns-in_ok-add_folder_node-in-Ok-clause-taken : goal.returns-in_ok-add_folder_node-in-Ok-clause-taken
returns-in_ok-add_folder_node-in-Ok-clause-taken g c = λ folder here.
    let fits : FitsSigned w64 c.args.entry.now.modified = search rules in
    let added = rw (to_z-of_z w64 c.args.entry.now.modified fits) at (rw c.in-Ok.is at c.in_ok-number.ensures.added) in
    let informed = subst (λ (p : List ℕ). (Does g.T.Tree.observes g.C.Client.calls g.W.Watcher.hears) c.add_folder.new.upload (Informed (TookFolder p)) c.report_folder.new.upload) c.as_str.ensures.value c.report_folder.ensures in
    folder_taken (Does g.T.Tree.observes g.C.Client.calls g.W.Watcher.hears) c.args.into folder c.args.entry.now c.args.name.now c.requires.named (subst IsUtf8 c.requires.named c.utf8.name) c.requires.kind c.args.path here c.args.upload.now c.add_folder.new.upload c.report_folder.new.upload
    c.args.found.now c.in-Ok.number c.add_folder_node.new.found added informed c.in_ok-add_folder_node-in-Ok.ensures.pending c.in_ok-add_folder_node-in-Ok.ensures.nodes

pub returns-in-Err-clause-taken : goal.returns-in-Err-clause-taken
returns-in-Err-clause-taken g c = λ folder here.
    let fits : FitsSigned w64 c.args.entry.now.modified = search rules in
    let added = rw (to_z-of_z w64 c.args.entry.now.modified fits) at (rw c.in-Err.is at c.in_ok-number.ensures.added) in
    let fits = rw c.in-Err.is at c.in_ok-number.ensures.fits in
    refused_folder_taken (Does g.T.Tree.observes g.C.Client.calls g.W.Watcher.hears) c.args.into folder c.args.entry.now c.args.name.now c.requires.named (subst IsUtf8 c.requires.named c.utf8.name) c.requires.kind c.as_bytes.result.now (c.as_bytes.ensures.value ∙ (c.as_str-in-Err.ensures.value ∙ here))
    c.args.upload.now c.add_folder.new.upload c.report.new.upload c.args.found.now c.in-Err.refusal fits added c.report.ensures
