use Rattle.std.proofs.Common.{sym, subst}
use Rattle.droid_upload.specs.Deeds.{Does}
use Rattle.droid_upload.specs.Fronts.{EndsEarly, Stands}
use Rattle.droid_upload.specs.Steps.{ArePart}
use Rattle.droid_upload.specs.declared.submission_fault.SubmissionFault.{SubmissionFault}
use Rattle.droid_upload.proofs.Passing.{if_err_same}
use Rattle.droid_upload.proofs.PieceSteps.{end_seen, end_unseen}
use Rattle.droid_upload.proofs.file_pieces.read_file.Goals as goal

pub returns-in_err-progress-in-Done-clause-ended : goal.returns-in_err-progress-in-Done-clause-ended
returns-in_err-progress-in-Done-clause-ended g c =
    let does = Does g.T.Tree.observes g.C.Client.calls g.W.Watcher.hears in
    let fault = c.in_err-progress-in-Done.field-0.0 in
    let memory = c.in_err-progress-in-Done.ensures.memory in
    let passed = rw c.in-Done.is at c.in_ok-pass_pieces.ensures.passed in
    if_err_same c.from_residual-in_err-progress-in-Done.result fault (λ f. EndsEarly does (ArePart c.args.to c.args.path.now c.args.entry.now) f c.args.upload.now c.see_last.new.upload) c.from_residual-in_err-progress-in-Done.ensures.1
    (end_unseen c.args.to c.args.path.now c.args.entry.now does c.args.running.now c.pass_pieces.new.running c.args.upload.now c.pass_pieces.new.upload passed fault c.see_last.new.upload memory
    (subst (λ (f : SubmissionFault). Stands f c.pass_pieces.new.upload c.see_last.new.upload) (sym memory) c.in_err-progress-in-Done.ensures.stands))

pub returns-in_ok-progress-in-Done-clause-read : goal.returns-in_ok-progress-in-Done-clause-read
returns-in_ok-progress-in-Done-clause-read g c =
    let does = Does g.T.Tree.observes g.C.Client.calls g.W.Watcher.hears in
    let passed = rw c.in-Done.is at c.in_ok-pass_pieces.ensures.passed in
    end_seen c.args.to c.args.path.now c.args.entry.now does c.args.running.now c.pass_pieces.new.running c.args.upload.now c.pass_pieces.new.upload passed c.in_ok-progress-in-Done.progress c.see_last.new.upload c.in_ok-progress-in-Done.ensures.seen
