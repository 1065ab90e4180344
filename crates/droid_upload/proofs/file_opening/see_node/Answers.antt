use Rattle.std.proofs.Common.{◌≡◌, arith}
use Rattle.droid_upload.specs.Deeds.{Does}
use Rattle.droid_upload.specs.Fronts.{EndsEarly}
use Rattle.droid_upload.specs.Steps.{AfterAdd, AreOpening}
use Rattle.droid_upload.proofs.Openings.{node_gone, node_held, node_in_vain, node_lacks, node_lost, node_refused, node_unheld}
use Rattle.droid_upload.proofs.Passing.{if_err_same}
use Rattle.droid_upload.proofs.file_opening.see_node.Goals as goal

pub returns-in_err-reply-clause-ended : goal.returns-in_err-reply-clause-ended
returns-in_err-reply-clause-ended g c =
    let does = Does g.T.Tree.observes g.C.Client.calls g.W.Watcher.hears in
    let fault = c.in_err-reply.field-0.0 in
    if_err_same c.from_residual.result fault
    (λ f. AfterAdd does c.args.into c.args.entry.now c.args.attempt c.args.number (EndsEarly does (AreOpening c.args.into c.args.path.now c.args.entry.now c.args.attempt) f) c.args.upload.now c.ask.new.upload)
    c.from_residual.ensures.1
    (node_in_vain c.args.into c.args.path.now c.args.entry.now does c.args.attempt c.args.number fault c.args.upload.now c.ask.new.upload c.in_err-reply.ensures.failed)

pub returns-in_err-state_of-clause-ended : goal.returns-in_err-state_of-clause-ended
returns-in_err-state_of-clause-ended g c =
    let does = Does g.T.Tree.observes g.C.Client.calls g.W.Watcher.hears in
    let fault = c.in_err-state_of.field-0.0 in
    let said = c.in_err-state_of.ensures.fault in
    if_err_same c.from_residual-in_err-state_of.result fault
    (λ f. AfterAdd does c.args.into c.args.entry.now c.args.attempt c.args.number (EndsEarly does (AreOpening c.args.into c.args.path.now c.args.entry.now c.args.attempt) f) c.args.upload.now c.ask.new.upload)
    c.from_residual-in_err-state_of.ensures.1
    (node_refused c.args.into c.args.path.now c.args.entry.now does c.args.attempt c.args.number fault c.in_ok-reply.reply c.args.upload.now c.ask.new.upload c.in_ok-reply.ensures.answered said.1 said.2 said.0)

pub returns-in_err-uploaded-in-Finished-clause-ended : goal.returns-in_err-uploaded-in-Finished-clause-ended
returns-in_err-uploaded-in-Finished-clause-ended g c =
    let does = Does g.T.Tree.observes g.C.Client.calls g.W.Watcher.hears in
    let fault = c.in_err-uploaded-in-Finished.field-0.0 in
    let finished = rw c.in-Finished.is at c.in_ok-state_of.ensures.state in
    if_err_same c.from_residual-in_err-uploaded-in-Finished.result fault
    (λ f. AfterAdd does c.args.into c.args.entry.now c.args.attempt c.args.number (EndsEarly does (AreOpening c.args.into c.args.path.now c.args.entry.now c.args.attempt) f) c.args.upload.now c.end_held.new.upload)
    c.from_residual-in_err-uploaded-in-Finished.ensures.1
    (node_unheld c.args.into c.args.path.now c.args.entry.now does c.args.attempt c.args.number c.in_ok-reply.reply c.args.upload.now c.ask.new.upload c.end_held.new.upload c.in_ok-reply.ensures.answered finished fault
    c.in_err-uploaded-in-Finished.ensures.ended)

pub returns-in-Finished-clause-opened : goal.returns-in-Finished-clause-opened
returns-in-Finished-clause-opened g c =
    let does = Does g.T.Tree.observes g.C.Client.calls g.W.Watcher.hears in
    let finished = rw c.in-Finished.is at c.in_ok-state_of.ensures.state in
    node_held c.args.into c.args.path.now c.args.entry.now does c.args.attempt c.args.number c.in_ok-reply.reply c.args.upload.now c.ask.new.upload c.end_held.new.upload c.in_ok-reply.ensures.answered finished
    c.in_ok-uploaded-in-Finished.uploaded c.in_ok-uploaded-in-Finished.ensures.held

pub returns-then-attempt-clause-ended : goal.returns-then-attempt-clause-ended
returns-then-attempt-clause-ended g c =
    let does = Does g.T.Tree.observes g.C.Client.calls g.W.Watcher.hears in
    let gone = rw c.in-Gone.is at c.in_ok-state_of.ensures.state in
    let last : c.args.attempt ≡ 4294967294 = omega arith in
    node_lost c.args.into c.args.path.now c.args.entry.now does c.args.attempt c.args.number c.in_ok-reply.reply c.args.upload.now c.ask.new.upload c.in_ok-reply.ensures.answered gone last

pub returns-in-Gone-clause-opened : goal.returns-in-Gone-clause-opened
returns-in-Gone-clause-opened g c =
    let does = Does g.T.Tree.observes g.C.Client.calls g.W.Watcher.hears in
    let gone = rw c.in-Gone.is at c.in_ok-state_of.ensures.state in
    node_gone c.args.into c.args.path.now c.args.entry.now does c.args.attempt c.args.number c.in_ok-reply.reply c.args.upload.now c.ask.new.upload c.in_ok-reply.ensures.answered gone

pub returns-clause-opened : goal.returns-clause-opened
returns-clause-opened g c =
    let does = Does g.T.Tree.observes g.C.Client.calls g.W.Watcher.hears in
    let lacks = rw c.in-Lacks.is at c.in_ok-state_of.ensures.state in
    node_lacks c.args.into c.args.path.now c.args.entry.now does c.args.attempt c.args.number c.in_ok-reply.reply c.in-Lacks.first c.args.upload.now c.ask.new.upload c.in_ok-reply.ensures.answered lacks c.requires
