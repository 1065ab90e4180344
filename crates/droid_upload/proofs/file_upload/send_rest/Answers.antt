use Rattle.std.proofs.Common.{ℕ, subst}
use Rattle.droid_tree.specs.Heard.{Held}
use Rattle.droid_upload.specs.Deeds.{Does, Informed}
use Rattle.droid_upload.specs.Fronts.{EndsEarly}
use Rattle.droid_upload.specs.Pieces.{joined}
use Rattle.droid_upload.specs.Steps.{AreRest}
use Rattle.droid_upload.proofs.Additions.{read_hash, rest_changed, rest_dropped, rest_finished, rest_undropped, rest_unfinished, rest_unleft, rest_unread}
use Rattle.droid_upload.proofs.Passing.{if_err_same}
use Rattle.droid_upload.proofs.file_upload.send_rest.Goals as goal

pub returns-in_err-read_file-clause-ended : goal.returns-in_err-read_file-clause-ended
returns-in_err-read_file-clause-ended g c =
    let does = Does g.T.Tree.observes g.C.Client.calls g.W.Watcher.hears in
    let to = c.args.to in
    let fault = c.in_err-read_file.field-0.0 in
    let informed = subst (λ (n : ℕ). does c.args.upload.now (Informed (Held c.args.path.now n)) c.report_held.new.upload) c.begin_of.ensures c.report_held.ensures in
    if_err_same c.from_residual.result fault (λ f. EndsEarly does (AreRest to.into c.args.path.now c.args.entry.now to.number to.first) f c.args.upload.now c.read_file.new.upload) c.from_residual.ensures.1
    (rest_unread to c.args.path.now c.args.entry.now does c.args.upload.now c.report_held.new.upload informed fault c.read_file.new.upload c.in_err-read_file.ensures.ended)

pub returns-in_err-uploaded-in-Done-clause-ended : goal.returns-in_err-uploaded-in-Done-clause-ended
returns-in_err-uploaded-in-Done-clause-ended g c =
    let does = Does g.T.Tree.observes g.C.Client.calls g.W.Watcher.hears in
    let to = c.args.to in
    let fault = c.in_err-uploaded-in-Done.field-0.0 in
    let informed = subst (λ (n : ℕ). does c.args.upload.now (Informed (Held c.args.path.now n)) c.report_held.new.upload) c.begin_of.ensures c.report_held.ensures in
    let reads = rw c.in-Done.is at c.in_ok-read_file.ensures.read in
    let found = read_hash to.into.hash (joined reads.pieces) c.of-running.result c.read_file.new.running c.finish-read.result reads.hashed c.of-running.ensures.kind c.of-running.ensures.holds c.finish-read.ensures.value in
    if_err_same c.from_residual-in_err-uploaded-in-Done.result fault (λ f. EndsEarly does (AreRest to.into c.args.path.now c.args.entry.now to.number to.first) f c.args.upload.now c.finish_file.new.upload)
    c.from_residual-in_err-uploaded-in-Done.ensures.1
    (rest_unfinished to c.args.path.now c.args.entry.now does c.args.upload.now c.report_held.new.upload informed c.of-running.result c.read_file.new.running c.read_file.new.upload reads c.finish-read.result fault c.finish_file.new.upload found
    c.in_err-uploaded-in-Done.ensures.ended)

pub returns-in_ok-uploaded-in-Done-clause-sent : goal.returns-in_ok-uploaded-in-Done-clause-sent
returns-in_ok-uploaded-in-Done-clause-sent g c =
    let does = Does g.T.Tree.observes g.C.Client.calls g.W.Watcher.hears in
    let to = c.args.to in
    let informed = subst (λ (n : ℕ). does c.args.upload.now (Informed (Held c.args.path.now n)) c.report_held.new.upload) c.begin_of.ensures c.report_held.ensures in
    let reads = rw c.in-Done.is at c.in_ok-read_file.ensures.read in
    let found = read_hash to.into.hash (joined reads.pieces) c.of-running.result c.read_file.new.running c.finish-read.result reads.hashed c.of-running.ensures.kind c.of-running.ensures.holds c.finish-read.ensures.value in
    rest_finished to c.args.path.now c.args.entry.now does c.args.upload.now c.report_held.new.upload informed c.of-running.result c.read_file.new.running c.read_file.new.upload reads c.finish-read.result c.in_ok-uploaded-in-Done.uploaded
    c.finish_file.new.upload found c.in_ok-uploaded-in-Done.ensures.finished

pub returns-in_err-uploaded-in-Stopped-clause-ended : goal.returns-in_err-uploaded-in-Stopped-clause-ended
returns-in_err-uploaded-in-Stopped-clause-ended g c =
    let does = Does g.T.Tree.observes g.C.Client.calls g.W.Watcher.hears in
    let to = c.args.to in
    let fault = c.in_err-uploaded-in-Stopped.field-0.0 in
    let informed = subst (λ (n : ℕ). does c.args.upload.now (Informed (Held c.args.path.now n)) c.report_held.new.upload) c.begin_of.ensures c.report_held.ensures in
    let stops = rw c.in-Stopped.is at c.in_ok-read_file.ensures.read in
    if_err_same c.from_residual-in_err-uploaded-in-Stopped.result fault (λ f. EndsEarly does (AreRest to.into c.args.path.now c.args.entry.now to.number to.first) f c.args.upload.now c.drop_file.new.upload)
    c.from_residual-in_err-uploaded-in-Stopped.ensures.1
    (rest_undropped to c.args.path.now c.args.entry.now does c.args.upload.now c.report_held.new.upload informed c.in-Stopped.why c.read_file.new.upload stops fault c.drop_file.new.upload c.in_err-uploaded-in-Stopped.ensures.ended)

pub returns-in_ok-uploaded-in-Stopped-clause-sent : goal.returns-in_ok-uploaded-in-Stopped-clause-sent
returns-in_ok-uploaded-in-Stopped-clause-sent g c =
    let does = Does g.T.Tree.observes g.C.Client.calls g.W.Watcher.hears in
    let informed = subst (λ (n : ℕ). does c.args.upload.now (Informed (Held c.args.path.now n)) c.report_held.new.upload) c.begin_of.ensures c.report_held.ensures in
    let stops = rw c.in-Stopped.is at c.in_ok-read_file.ensures.read in
    rest_dropped c.args.to c.args.path.now c.args.entry.now does c.args.upload.now c.report_held.new.upload informed c.in-Stopped.why c.read_file.new.upload stops c.in_ok-uploaded-in-Stopped.uploaded c.drop_file.new.upload
    c.in_ok-uploaded-in-Stopped.ensures.dropped

pub returns-in_err-uploaded-in-Changed-clause-ended : goal.returns-in_err-uploaded-in-Changed-clause-ended
returns-in_err-uploaded-in-Changed-clause-ended g c =
    let does = Does g.T.Tree.observes g.C.Client.calls g.W.Watcher.hears in
    let to = c.args.to in
    let fault = c.in_err-uploaded-in-Changed.field-0.0 in
    let informed = subst (λ (n : ℕ). does c.args.upload.now (Informed (Held c.args.path.now n)) c.report_held.new.upload) c.begin_of.ensures c.report_held.ensures in
    let stops = rw c.in-Changed.is at c.in_ok-read_file.ensures.read in
    if_err_same c.from_residual-in_err-uploaded-in-Changed.result fault (λ f. EndsEarly does (AreRest to.into c.args.path.now c.args.entry.now to.number to.first) f c.args.upload.now c.leave_changed.new.upload)
    c.from_residual-in_err-uploaded-in-Changed.ensures.1
    (rest_unleft to c.args.path.now c.args.entry.now does c.args.upload.now c.report_held.new.upload informed c.read_file.new.upload stops fault c.leave_changed.new.upload c.in_err-uploaded-in-Changed.ensures.ended)

pub returns-in_ok-uploaded-in-Changed-clause-sent : goal.returns-in_ok-uploaded-in-Changed-clause-sent
returns-in_ok-uploaded-in-Changed-clause-sent g c =
    let does = Does g.T.Tree.observes g.C.Client.calls g.W.Watcher.hears in
    let informed = subst (λ (n : ℕ). does c.args.upload.now (Informed (Held c.args.path.now n)) c.report_held.new.upload) c.begin_of.ensures c.report_held.ensures in
    let stops = rw c.in-Changed.is at c.in_ok-read_file.ensures.read in
    rest_changed c.args.to c.args.path.now c.args.entry.now does c.args.upload.now c.report_held.new.upload informed c.read_file.new.upload stops c.in_ok-uploaded-in-Changed.uploaded c.leave_changed.new.upload c.in_ok-uploaded-in-Changed.ensures.left
