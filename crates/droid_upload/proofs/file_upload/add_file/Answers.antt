use Rattle.droid_upload.specs.Deeds.{Does}
use Rattle.droid_upload.specs.Fronts.{EndsEarly}
use Rattle.droid_upload.specs.Steps.{AreAdded}
use Rattle.droid_upload.proofs.Additions.{add_ended, add_sent, add_unopened, add_unsent}
use Rattle.droid_upload.proofs.Passing.{if_err_same}
use Rattle.droid_upload.proofs.file_upload.add_file.Goals as goal

pub returns-in_err-uploaded-clause-ended : goal.returns-in_err-uploaded-clause-ended
returns-in_err-uploaded-clause-ended g c =
    let does = Does g.T.Tree.observes g.C.Client.calls g.W.Watcher.hears in
    let fault = c.in_err-uploaded.field-0.0 in
    if_err_same c.from_residual.result fault (λ f. EndsEarly does (AreAdded c.args.into c.args.path.now c.args.entry.now) f c.args.upload.now c.open_file.new.upload) c.from_residual.ensures.1
    (add_unopened c.args.into c.args.path.now c.args.entry.now does fault c.args.upload.now c.open_file.new.upload c.in_err-uploaded.ensures.ended)

pub returns-in-Ended-clause-added : goal.returns-in-Ended-clause-added
returns-in-Ended-clause-added g c =
    add_ended c.args.into c.args.path.now c.args.entry.now (Does g.T.Tree.observes g.C.Client.calls g.W.Watcher.hears) c.in-Ended.uploaded c.args.upload.now c.open_file.new.upload (rw c.in-Ended.is at c.in_ok-uploaded.ensures.opened)

pub returns-in_err-uploaded-in-Begun-clause-ended : goal.returns-in_err-uploaded-in-Begun-clause-ended
returns-in_err-uploaded-in-Begun-clause-ended g c =
    let does = Does g.T.Tree.observes g.C.Client.calls g.W.Watcher.hears in
    let fault = c.in_err-uploaded-in-Begun.field-0.0 in
    let opens = rw c.in-Begun.is at c.in_ok-uploaded.ensures.opened in
    if_err_same c.from_residual-in_err-uploaded-in-Begun.result fault (λ f. EndsEarly does (AreAdded c.args.into c.args.path.now c.args.entry.now) f c.args.upload.now c.send_rest.new.upload) c.from_residual-in_err-uploaded-in-Begun.ensures.1
    (add_unsent c.args.into c.args.path.now c.args.entry.now does c.in-Begun.number c.in-Begun.first c.args.upload.now c.open_file.new.upload c.send_rest.new.upload opens fault c.in_err-uploaded-in-Begun.ensures.ended)

pub returns-in_ok-uploaded-in-Begun-clause-added : goal.returns-in_ok-uploaded-in-Begun-clause-added
returns-in_ok-uploaded-in-Begun-clause-added g c =
    let does = Does g.T.Tree.observes g.C.Client.calls g.W.Watcher.hears in
    let opens = rw c.in-Begun.is at c.in_ok-uploaded.ensures.opened in
    add_sent c.args.into c.args.path.now c.args.entry.now does c.in-Begun.number c.in-Begun.first c.args.upload.now c.open_file.new.upload c.send_rest.new.upload opens c.in_ok-uploaded-in-Begun.uploaded c.in_ok-uploaded-in-Begun.ensures.sent

pub send_rest-requires : goal.send_rest-requires
send_rest-requires g c = let opens = rw c.in-Begun.is at c.in_ok-uploaded.ensures.opened in opens.countable
