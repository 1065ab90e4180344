use Rattle.std.proofs.Common.{◌≡◌, ℕ, List, ◌++◌, refl, sym, ap, subst, ◌∙◌, inl}
use Rattle.droid_upload.specs.Deeds.{Does}
use Rattle.droid_upload.specs.Fronts.{EndsEarly, Stands}
use Rattle.droid_upload.specs.Steps.{ArePassed, piece_head}
use Rattle.droid_upload.specs.declared.submission_fault.SubmissionFault.{SubmissionFault}
use Rattle.droid_upload.specs.declared.submission_fault.SubmissionFault.TheVariants as faults
use Rattle.droid_upload.proofs.Passing.{if_err_same}
use Rattle.droid_upload.proofs.PieceBodies.{hashes_own, own_bytes, read_there}
use Rattle.droid_upload.proofs.PieceSteps.{piece_failed, piece_held, piece_sent, piece_unread}
use Rattle.droid_upload.proofs.file_pieces.pass_piece.Goals as goal

pub returns-in_err-body-clause-ended : goal.returns-in_err-body-clause-ended
returns-in_err-body-clause-ended g c =
    let does = Does g.T.Tree.observes g.C.Client.calls g.W.Watcher.hears in
    if_err_same c.from_residual.result faults.Memory (λ f. EndsEarly does (ArePassed c.args.to c.args.path.now c.args.entry.now c.args.index) f c.args.upload.now c.args.upload.now) c.from_residual.ensures.1
    (piece_unread c.args.to c.args.path.now c.args.entry.now does c.args.index faults.Memory c.args.upload.now c.args.upload.now refl (inl refl))

pub returns-in_err-read_next-clause-ended : goal.returns-in_err-read_next-clause-ended
returns-in_err-read_next-clause-ended g c =
    let does = Does g.T.Tree.observes g.C.Client.calls g.W.Watcher.hears in
    let fault = c.in_err-read_next.field-0.0 in
    let memory = c.in_err-read_next.ensures.memory in
    if_err_same c.from_residual-in_err-read_next.result fault (λ f. EndsEarly does (ArePassed c.args.to c.args.path.now c.args.entry.now c.args.index) f c.args.upload.now c.read_next.new.upload)
    c.from_residual-in_err-read_next.ensures.1
    (piece_unread c.args.to c.args.path.now c.args.entry.now does c.args.index fault c.args.upload.now c.read_next.new.upload memory
    (subst (λ (f : SubmissionFault). Stands f c.args.upload.now c.read_next.new.upload) (sym memory) c.in_err-read_next.ensures.stands))

pub returns-then-index-to-clause-passed : goal.returns-then-index-to-clause-passed
returns-then-index-to-clause-passed g c =
    let does = Does g.T.Tree.observes g.C.Client.calls g.W.Watcher.hears in
    let to = c.args.to in
    let reads = rw c.in-Ok.is at c.in_ok-read_next.ensures.read in
    let there = read_there to c.args.path.now c.args.entry.now does c.args.index c.begin_of-from.result c.next_len-wanted.result c.in_ok-body.body.items c.read_next.new.body.items c.args.upload.now c.read_next.new.upload
    c.begin_of-from.ensures c.next_len-wanted.ensures reads in
    let own = own_bytes to.into.profile to.number c.args.index c.in_ok-body.body.items c.read_next.new.body.items reads.bytes c.as_slice.result.now c.bytes_in.result.now c.in_ok-body.ensures.begun reads.added c.as_slice.ensures.value c.bytes_in.ensures in
    let hashed = hashes_own c.bytes_in.result.now reads.bytes c.args.running.now c.update.new.self own c.update.ensures.kind c.update.ensures.holds in
    piece_held to c.args.path.now c.args.entry.now does c.args.index reads.bytes c.args.upload.now c.read_next.new.upload there.0 there.1 c.args.running.now c.update.new.self hashed c.if-index-to.true

pub returns-in_err-progress-in-Ok-clause-ended : goal.returns-in_err-progress-in-Ok-clause-ended
returns-in_err-progress-in-Ok-clause-ended g c =
    let does = Does g.T.Tree.observes g.C.Client.calls g.W.Watcher.hears in
    let to = c.args.to in
    let fault = c.in_err-progress-in-Ok.field-0.0 in
    let reads = rw c.in-Ok.is at c.in_ok-read_next.ensures.read in
    let there = read_there to c.args.path.now c.args.entry.now does c.args.index c.begin_of-from.result c.next_len-wanted.result c.in_ok-body.body.items c.read_next.new.body.items c.args.upload.now c.read_next.new.upload
    c.begin_of-from.ensures c.next_len-wanted.ensures reads in
    let spelled : c.read_next.new.body.items ≡ piece_head to.into.profile to.number c.args.index ++ reads.bytes = reads.added ∙ ap (λ (l : List ℕ). l ++ reads.bytes) c.in_ok-body.ensures.begun in
    if_err_same c.from_residual-in_err-progress-in-Ok.result fault (λ f. EndsEarly does (ArePassed to c.args.path.now c.args.entry.now c.args.index) f c.args.upload.now c.send_piece.new.upload) c.from_residual-in_err-progress-in-Ok.ensures.1
    (piece_failed to c.args.path.now c.args.entry.now does c.args.index reads.bytes c.args.upload.now c.read_next.new.upload there.0 there.1 fault c.send_piece.new.upload c.if-index-to.false
    (c.in_err-progress-in-Ok.ensures.failed reads.bytes spelled))

pub returns-in_ok-progress-in-Ok-clause-passed : goal.returns-in_ok-progress-in-Ok-clause-passed
returns-in_ok-progress-in-Ok-clause-passed g c =
    let does = Does g.T.Tree.observes g.C.Client.calls g.W.Watcher.hears in
    let to = c.args.to in
    let reads = rw c.in-Ok.is at c.in_ok-read_next.ensures.read in
    let there = read_there to c.args.path.now c.args.entry.now does c.args.index c.begin_of-from.result c.next_len-wanted.result c.in_ok-body.body.items c.read_next.new.body.items c.args.upload.now c.read_next.new.upload
    c.begin_of-from.ensures c.next_len-wanted.ensures reads in
    let spelled : c.read_next.new.body.items ≡ piece_head to.into.profile to.number c.args.index ++ reads.bytes = reads.added ∙ ap (λ (l : List ℕ). l ++ reads.bytes) c.in_ok-body.ensures.begun in
    let own = own_bytes to.into.profile to.number c.args.index c.in_ok-body.body.items c.read_next.new.body.items reads.bytes c.as_slice.result.now c.bytes_in.result.now c.in_ok-body.ensures.begun reads.added c.as_slice.ensures.value c.bytes_in.ensures in
    let hashed = hashes_own c.bytes_in.result.now reads.bytes c.args.running.now c.update.new.self own c.update.ensures.kind c.update.ensures.holds in
    piece_sent to c.args.path.now c.args.entry.now does c.args.index reads.bytes c.args.upload.now c.read_next.new.upload there.0 there.1 c.in_ok-progress-in-Ok.progress c.args.running.now c.update.new.self c.send_piece.new.upload hashed c.if-index-to.false
    (c.in_ok-progress-in-Ok.ensures.sent reads.bytes spelled)
