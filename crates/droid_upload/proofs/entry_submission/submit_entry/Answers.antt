use Rattle.std.proofs.Common.{ℕ, List, [], ◌∷◌, ◌++◌, ap, refl, ◌∙◌}
use Rattle.droid_tree.specs.declared.folder_entry.EntryKind.TheVariants as kinds
use Rattle.droid_upload.specs.SubmissionSteps.{AreOfFirst}
use Rattle.droid_upload.specs.Deeds.{Does}
use Rattle.droid_upload.specs.Fronts.{EndsEarly}
use Rattle.droid_upload.specs.declared.submission_fault.SubmissionFault.TheVariants.{Memory}
use Rattle.droid_upload.proofs.EntryTaken.{other_taken, unbegun_ends, without_text_taken}
use Rattle.droid_upload.proofs.FaultPassed.{if_err_same}
use Rattle.droid_upload.proofs.entry_submission.submit_entry.Goals as goal

pub returns-in_err-report_below-clause-ended : goal.returns-in_err-report_below-clause-ended
returns-in_err-report_below-clause-ended g c =
    if_err_same c.from_residual.result c.in_err-report_below.field-0.0 (λ fault. EndsEarly (Does g.T.Tree.observes g.C.Client.calls g.W.Watcher.hears) (AreOfFirst c.args.into c.args.folder.now.path (c.args.entry.now ∷ [])) fault c.args.upload.now c.report_below.new.upload) c.from_residual.ensures.1
    (unbegun_ends (Does g.T.Tree.observes g.C.Client.calls g.W.Watcher.hears) c.args.into c.args.folder.now c.args.entry.now c.in_err-report_below.field-0.0 c.args.upload.now c.report_below.new.upload c.in_err-report_below.ensures.memory c.in_err-report_below.ensures.same)

pub returns-in_default-clause-taken : goal.returns-in_default-clause-taken
returns-in_default-clause-taken g c =
    without_text_taken (Does g.T.Tree.observes g.C.Client.calls g.W.Watcher.hears) c.args.into c.args.folder.now c.args.entry.now c.args.upload.now c.report_below.new.upload c.args.found.now c.in_default.ensures c.in_ok-report_below.ensures.reported

pub returns-in_err-path-clause-ended : goal.returns-in_err-path-clause-ended
returns-in_err-path-clause-ended g c =
    if_err_same c.from_residual-in_err-path.result Memory (λ fault. EndsEarly (Does g.T.Tree.observes g.C.Client.calls g.W.Watcher.hears) (AreOfFirst c.args.into c.args.folder.now.path (c.args.entry.now ∷ [])) fault c.args.upload.now c.args.upload.now) c.from_residual-in_err-path.ensures.1
    (unbegun_ends (Does g.T.Tree.observes g.C.Client.calls g.W.Watcher.hears) c.args.into c.args.folder.now c.args.entry.now Memory c.args.upload.now c.args.upload.now refl refl)

pub returns-in-Link-clause-taken : goal.returns-in-Link-clause-taken
returns-in-Link-clause-taken g c =
    other_taken (Does g.T.Tree.observes g.C.Client.calls g.W.Watcher.hears) c.args.into c.args.folder.now c.args.entry.now c.args.upload.now c.report.new.upload c.args.found.now c.as_bytes.result.now
    (c.as_bytes.ensures.value ∙ (c.as_str-in-Link.ensures.value ∙ (c.in_ok-path.ensures
    ∙ (ap (λ (l : List ℕ). l ++ 47 ∷ c.in-Some.name.now) c.as_str.ensures.value ∙ ap (λ (l : List ℕ). c.args.folder.now.path ++ 47 ∷ l) c.in-Some.ensures.0))))
    c.in-Some.ensures.1 kinds.Link c.in-Link.is tt c.report.ensures

pub returns-in-Other-clause-taken : goal.returns-in-Other-clause-taken
returns-in-Other-clause-taken g c =
    other_taken (Does g.T.Tree.observes g.C.Client.calls g.W.Watcher.hears) c.args.into c.args.folder.now c.args.entry.now c.args.upload.now c.report-in-Other.new.upload c.args.found.now c.as_bytes-in-Other.result.now
    (c.as_bytes-in-Other.ensures.value ∙ (c.as_str-in-Other.ensures.value ∙ (c.in_ok-path.ensures
    ∙ (ap (λ (l : List ℕ). l ++ 47 ∷ c.in-Some.name.now) c.as_str.ensures.value ∙ ap (λ (l : List ℕ). c.args.folder.now.path ++ 47 ∷ l) c.in-Some.ensures.0))))
    c.in-Some.ensures.1 kinds.Other c.in-Other.is tt c.report-in-Other.ensures

pub returns-in-TooLong-clause-taken : goal.returns-in-TooLong-clause-taken
returns-in-TooLong-clause-taken g c =
    other_taken (Does g.T.Tree.observes g.C.Client.calls g.W.Watcher.hears) c.args.into c.args.folder.now c.args.entry.now c.args.upload.now c.report-in-TooLong.new.upload c.args.found.now c.as_bytes-in-TooLong.result.now
    (c.as_bytes-in-TooLong.ensures.value ∙ (c.as_str-in-TooLong.ensures.value ∙ (c.in_ok-path.ensures
    ∙ (ap (λ (l : List ℕ). l ++ 47 ∷ c.in-Some.name.now) c.as_str.ensures.value ∙ ap (λ (l : List ℕ). c.args.folder.now.path ++ 47 ∷ l) c.in-Some.ensures.0))))
    c.in-Some.ensures.1 kinds.TooLong c.in-TooLong.is tt c.report-in-TooLong.ensures
