use Rattle.std.proofs.Common.{◌<◌, sym, ◌∙◌, arith}
use Rattle.droid_tree.specs.Reading.{begin_of}
use Rattle.droid_upload.specs.Deeds.{Does}
use Rattle.droid_upload.specs.Fronts.{EndsEarly}
use Rattle.droid_upload.specs.Steps.{ArePart}
use Rattle.droid_upload.proofs.Passing.{if_err_same}
use Rattle.droid_upload.proofs.PieceLists.{begin_last, begin_within}
use Rattle.droid_upload.proofs.PieceSteps.{none_passed, one_more_passed, passing_ends, piece_changes, piece_stops}
use Rattle.droid_upload.proofs.file_pieces.pass_pieces.Goals as goal

pub loop-index-init : goal.loop-index-init
loop-index-init g c = none_passed c.args.to c.args.path.now c.args.entry.now (Does g.T.Tree.observes g.C.Client.calls g.W.Watcher.hears) c.args.running.now c.args.upload.now

pub returns-then-begin_of-entry-clause-passed : goal.returns-then-begin_of-entry-clause-passed
returns-then-begin_of-entry-clause-passed g c = record { count = c.loop-index.index; front = c.loop-index.invariant; all = sym c.begin_of.ensures ∙ c.if-begin_of-entry.true }

pub returns-in_err-pass_piece-clause-ended : goal.returns-in_err-pass_piece-clause-ended
returns-in_err-pass_piece-clause-ended g c =
    let does = Does g.T.Tree.observes g.C.Client.calls g.W.Watcher.hears in
    let fault = c.in_err-pass_piece.field-0.0 in
    let left : begin_of c.args.to.into.piece_size c.args.entry.now.len c.loop-index.index < c.args.entry.now.len =
    omega (arith, c.begin_of.ensures, c.if-begin_of-entry.false, begin_within c.args.to.into.piece_size c.args.entry.now.len c.loop-index.index) in
    if_err_same c.from_residual.result fault (λ f. EndsEarly does (ArePart c.args.to c.args.path.now c.args.entry.now) f c.args.upload.now c.pass_piece.new.upload) c.from_residual.ensures.1
    (passing_ends c.args.to c.args.path.now c.args.entry.now does c.loop-index.index c.args.running.now c.loop-index.running c.args.upload.now c.loop-index.upload c.loop-index.invariant left fault c.pass_piece.new.upload
    c.in_err-pass_piece.ensures.ended)

pub returns-in-Stopped-clause-passed : goal.returns-in-Stopped-clause-passed
returns-in-Stopped-clause-passed g c =
    let does = Does g.T.Tree.observes g.C.Client.calls g.W.Watcher.hears in
    let left : begin_of c.args.to.into.piece_size c.args.entry.now.len c.loop-index.index < c.args.entry.now.len =
    omega (arith, c.begin_of.ensures, c.if-begin_of-entry.false, begin_within c.args.to.into.piece_size c.args.entry.now.len c.loop-index.index) in
    let stops = rw c.in-Stopped.is at c.in_ok-pass_piece.ensures.passed in
    piece_stops c.args.to c.args.path.now c.args.entry.now does c.loop-index.index c.args.running.now c.loop-index.running c.args.upload.now c.loop-index.upload c.loop-index.invariant left c.in-Stopped.why c.pass_piece.new.upload stops

pub returns-in-Changed-clause-passed : goal.returns-in-Changed-clause-passed
returns-in-Changed-clause-passed g c =
    let does = Does g.T.Tree.observes g.C.Client.calls g.W.Watcher.hears in
    let left : begin_of c.args.to.into.piece_size c.args.entry.now.len c.loop-index.index < c.args.entry.now.len =
    omega (arith, c.begin_of.ensures, c.if-begin_of-entry.false, begin_within c.args.to.into.piece_size c.args.entry.now.len c.loop-index.index) in
    let other = rw c.in-Changed.is at c.in_ok-pass_piece.ensures.passed in
    piece_changes c.args.to c.args.path.now c.args.entry.now does c.loop-index.index c.args.running.now c.loop-index.running c.args.upload.now c.loop-index.upload c.loop-index.invariant left c.pass_piece.new.upload other

pub loop-index-preserved : goal.loop-index-preserved
loop-index-preserved g c =
    let does = Does g.T.Tree.observes g.C.Client.calls g.W.Watcher.hears in
    let left : begin_of c.args.to.into.piece_size c.args.entry.now.len c.loop-index.index < c.args.entry.now.len =
    omega (arith, c.begin_of.ensures, c.if-begin_of-entry.false, begin_within c.args.to.into.piece_size c.args.entry.now.len c.loop-index.index) in
    let one = rw c.in-Done.is at c.in_ok-pass_piece.ensures.passed in
    one_more_passed c.args.to c.args.path.now c.args.entry.now does c.loop-index.index c.args.running.now c.loop-index.running c.args.upload.now c.loop-index.upload c.loop-index.invariant left c.pass_piece.new.running c.pass_piece.new.upload one

pub returns-clause-passed : goal.returns-clause-passed
returns-clause-passed g c = record {
  count = c.loop-index.index;
  front = c.loop-index.invariant;
  all = begin_last c.args.to.into.piece_size c.args.entry.now.len c.loop-index.index c.requires (omega arith) (omega arith);
}
