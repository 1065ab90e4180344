use Rattle.std.proofs.Common.{refl}
use Rattle.droid_upload.specs.Deeds.{Does}
use Rattle.droid_upload.specs.Faults.{fault_of_client}
use Rattle.droid_upload.specs.Fronts.{AsksInVain, Unanswered}
use Rattle.droid_upload.proofs.Passing.{if_err_same}
use Rattle.droid_upload.proofs.upload_requests.ask.Goals as goal

pub returns-in_err-reply-clause-failed : goal.returns-in_err-reply-clause-failed
returns-in_err-reply-clause-failed g c =
    let why = c.in_err-reply.field-0.0 in
    if_err_same c.from_residual-in_err-reply.result (fault_of_client why)
    (λ f. AsksInVain (Does g.T.Tree.observes g.C.Client.calls g.W.Watcher.hears) c.args.attempt c.args.request.now f c.args.upload.now (record c.args.upload.now { client = c.ask.new.self }))
    c.from_residual-in_err-reply.ensures.1 (Unanswered why (c.in_err-reply.ensures.failed c.args.request.now c.in_ok-frame.ensures.spells, refl) refl)
