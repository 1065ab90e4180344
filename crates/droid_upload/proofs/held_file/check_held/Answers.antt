use Rattle.droid_upload.specs.Deeds.{Does}
use Rattle.droid_upload.specs.Fronts.{EndsEarly}
use Rattle.droid_upload.specs.Pieces.{joined}
use Rattle.droid_upload.specs.Steps.{AreHeld}
use Rattle.droid_upload.proofs.Additions.{read_hash}
use Rattle.droid_upload.proofs.HeldFiles.{held_read, held_stopped, held_unread, none_past_all}
use Rattle.droid_upload.proofs.Passing.{if_err_same}
use Rattle.droid_upload.proofs.held_file.check_held.Goals as goal

pub returns-in_err-read_file-clause-ended : goal.returns-in_err-read_file-clause-ended
returns-in_err-read_file-clause-ended g c =
    let does = Does g.T.Tree.observes g.C.Client.calls g.W.Watcher.hears in
    let fault = c.in_err-read_file.field-0.0 in
    if_err_same c.from_residual.result fault (λ f. EndsEarly does (AreHeld c.args.into c.args.path.now c.args.entry.now c.args.number c.args.found.now) f c.args.upload.now c.read_file.new.upload) c.from_residual.ensures.1
    (held_unread c.args.into c.args.path.now c.args.entry.now c.args.number c.args.found.now does c.requires.checked c.args.upload.now c.report_held.new.upload c.report_held.ensures fault c.read_file.new.upload c.in_err-read_file.ensures.ended)

pub returns-in-Done-clause-held : goal.returns-in-Done-clause-held
returns-in-Done-clause-held g c =
    let does = Does g.T.Tree.observes g.C.Client.calls g.W.Watcher.hears in
    let reads = rw c.in-Done.is at c.in_ok-read_file.ensures.read in
    let found = read_hash c.args.into.hash (joined reads.pieces) c.of-running.result c.read_file.new.running c.finish-read.result reads.hashed c.of-running.ensures.kind c.of-running.ensures.holds c.finish-read.ensures.value in
    held_read c.args.into c.args.path.now c.args.entry.now c.args.number c.args.found.now does c.requires.checked c.args.upload.now c.report_held.new.upload c.report_held.ensures c.of-running.result c.read_file.new.running c.read_file.new.upload
    c.report_end.new.upload reads c.finish-read.result c.report_end.result found c.report_end.ensures.informed c.report_end.ensures.uploaded

pub returns-in-Stopped-clause-held : goal.returns-in-Stopped-clause-held
returns-in-Stopped-clause-held g c =
    let does = Does g.T.Tree.observes g.C.Client.calls g.W.Watcher.hears in
    let stops = rw c.in-Stopped.is at c.in_ok-read_file.ensures.read in
    held_stopped c.args.into c.args.path.now c.args.entry.now c.args.number c.args.found.now does c.requires.checked c.args.upload.now c.report_held.new.upload c.report_held.ensures c.in-Stopped.why c.read_file.new.upload c.report_skipped.new.upload stops
    c.report_skipped.ensures

pub unreachable-requires : goal.unreachable-requires
unreachable-requires g c =
    let stops = rw c.in-Changed.is at c.in_ok-read_file.ensures.read in
    none_past_all c.args.into.piece_size c.args.entry.now.len stops.pieces stops.bytes c.requires.countable stops.may_read
