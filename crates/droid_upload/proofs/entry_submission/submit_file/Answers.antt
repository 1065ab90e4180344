use Rattle.std.proofs.Common.{◌≡◌, ℕ, List, [], ◌∷◌, subst, ◌∙◌}
use Rattle.std.specs.Prelude.{IsUtf8}
use Rattle.droid_tree.specs.Paths.{below}
use Rattle.droid_tree.specs.declared.pending_folder.PendingFolder.{PendingFolder}
use Rattle.droid_upload.specs.SubmissionSteps.{AreOfFirst}
use Rattle.droid_upload.specs.Deeds.{Does}
use Rattle.droid_upload.specs.FileOutcomes.{Uploads}
use Rattle.droid_upload.specs.Fronts.{EndsEarly}
use Rattle.droid_upload.specs.declared.submission_fault.SubmissionFault.TheVariants.{Memory}
use Rattle.droid_upload.proofs.EntryTaken.{file_ends, file_taken, uploaded_file_ends}
use Rattle.droid_upload.proofs.FaultPassed.{if_err_same}
use Rattle.droid_upload.proofs.entry_submission.submit_file.Goals as goal

pub returns-in_err-uploaded-clause-ended : goal.returns-in_err-uploaded-clause-ended
returns-in_err-uploaded-clause-ended g c =
    if_err_same c.from_residual.result c.in_err-uploaded.field-0.0 (λ fault. (folder : PendingFolder) → c.args.path ≡ below folder.path c.args.entry.now.name → EndsEarly (Does g.T.Tree.observes g.C.Client.calls g.W.Watcher.hears) (AreOfFirst c.args.into folder.path (c.args.entry.now ∷ [])) fault c.args.upload.now c.upload_file.new.upload) c.from_residual.ensures.1
    (λ folder here. file_ends (Does g.T.Tree.observes g.C.Client.calls g.W.Watcher.hears) c.args.into folder c.args.entry.now (subst IsUtf8 c.requires.named c.utf8.name) c.requires.kind c.as_str.result.now (c.as_str.ensures.value ∙ here) c.args.upload.now c.upload_file.new.upload c.in_err-uploaded.field-0.0 c.in_err-uploaded.ensures.ended)

pub returns-in_err-taken-clause-ended : goal.returns-in_err-taken-clause-ended
returns-in_err-taken-clause-ended g c =
    if_err_same c.from_residual-in_err-taken.result Memory (λ fault. (folder : PendingFolder) → c.args.path ≡ below folder.path c.args.entry.now.name → EndsEarly (Does g.T.Tree.observes g.C.Client.calls g.W.Watcher.hears) (AreOfFirst c.args.into folder.path (c.args.entry.now ∷ [])) fault c.args.upload.now c.upload_file.new.upload) c.from_residual-in_err-taken.ensures.1
    (λ folder here. uploaded_file_ends (Does g.T.Tree.observes g.C.Client.calls g.W.Watcher.hears) c.args.into folder c.args.entry.now (subst IsUtf8 c.requires.named c.utf8.name) c.requires.kind c.as_str.result.now (c.as_str.ensures.value ∙ here) c.args.upload.now c.upload_file.new.upload c.in_ok-uploaded.uploaded c.in_ok-uploaded.ensures.came)

pub returns-clause-taken : goal.returns-clause-taken
returns-clause-taken g c = λ folder here.
    let came = subst (λ (p : List ℕ). Uploads (Does g.T.Tree.observes g.C.Client.calls g.W.Watcher.hears) c.args.into p c.args.entry.now c.in_ok-uploaded.uploaded c.args.upload.now c.upload_file.new.upload) c.as_str.ensures.value c.in_ok-uploaded.ensures.came in
    file_taken (Does g.T.Tree.observes g.C.Client.calls g.W.Watcher.hears) c.args.into folder c.args.entry.now (subst IsUtf8 c.requires.named c.utf8.name) c.requires.kind c.args.path here c.args.upload.now c.upload_file.new.upload c.in_ok-uploaded.uploaded c.in_ok-taken.taken c.args.found.now c.add_file_node.new.found
    came c.in_ok-taken.ensures.taken c.in_ok-taken.ensures.pending c.in_ok-taken.ensures.nodes
