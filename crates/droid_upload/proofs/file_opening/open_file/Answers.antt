use Rattle.std.proofs.Common.{refl}
use Rattle.droid_upload.specs.Deeds.{Does}
use Rattle.droid_upload.specs.Fronts.{EndsEarly}
use Rattle.droid_upload.specs.Steps.{AreOpenings}
use Rattle.droid_upload.specs.declared.submission_fault.SubmissionFault.TheVariants as faults
use Rattle.droid_upload.proofs.Openings.{unopened}
use Rattle.droid_upload.proofs.Passing.{if_err_same}
use Rattle.droid_upload.proofs.file_opening.open_file.Goals as goal

pub returns-in_err-copy_of-clause-ended : goal.returns-in_err-copy_of-clause-ended
returns-in_err-copy_of-clause-ended g c =
    let does = Does g.T.Tree.observes g.C.Client.calls g.W.Watcher.hears in
    if_err_same c.from_residual.result faults.Memory (λ f. EndsEarly does (AreOpenings c.args.into c.args.path.now c.args.entry.now) f c.args.upload.now c.args.upload.now) c.from_residual.ensures.1
    (unopened c.args.into c.args.path.now c.args.entry.now does faults.Memory c.args.upload.now refl)
