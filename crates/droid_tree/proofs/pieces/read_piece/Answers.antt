use Rattle.std.proofs.Common.{refl, arith}
use Rattle.droid_tree.specs.Reading.{IsShort}
use Rattle.droid_tree.proofs.FileReads.{came_all, stops}
use Rattle.droid_tree.proofs.pieces.read_piece.Goals as goal

pub returns-in-Ok-clause-read : goal.returns-in-Ok-clause-read
returns-in-Ok-clause-read g c =
    came_all g.T.Tree.observes c.args.path.now c.args.entry.now c.args.from c.args.wanted c.saturating_sub.result c.args.body.now.items c.read.new.bytes.items _ _ c.all_came.result c.in-Ok.ensures.came
    (omega (arith, c.len-before.ensures, c.len.ensures, c.saturating_sub.ensures)) c.all_came.ensures

pub returns-in_ok-why-in-Err-clause-read : goal.returns-in_ok-why-in-Err-clause-read
returns-in_ok-why-in-Err-clause-read g c = stops g.T.Tree.observes c.args.path.now c.args.entry.now c.args.from (IsShort c.args.wanted) c.args.wanted c.in-Err.fault c.in_ok-why-in-Err.why _ _ refl refl c.in_ok-why-in-Err.ensures.reason c.in-Err.ensures.unread c.in-Err.ensures.exchanged
