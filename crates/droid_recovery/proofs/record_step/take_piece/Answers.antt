use Rattle.droid_recovery.proofs.BareTakings.{piece_takes, piece_unkept, piece_unread}
use Rattle.droid_recovery.proofs.record_step.take_piece.Goals as goal

pub returns-in-Err : goal.returns-in-Err
returns-in-Err c =
    piece_unread c.args.frame.now c.requires.kind c.requires.readable c.args.holdings.now c.refused.result c.in-Err.fault c.in-Err.ensures.its c.refused.ensures.memory (c.refused.ensures.spelled c.args.frame.now.version)

pub returns-in-Err-recover_piece : goal.returns-in-Err-recover_piece
returns-in-Err-recover_piece c =
    piece_unkept c.args.frame.now c.requires.kind c.requires.readable c.args.holdings.now c.recover_piece.new.holdings c.in-Ok.piece.stamp c.in-Ok.piece.reply c.in-Ok.ensures.its c.refused-in-Err-recover_piece.result c.in-Err-recover_piece.fault
    c.in-Err-recover_piece.ensures.memory c.in-Err-recover_piece.ensures.unchanged c.refused-in-Err-recover_piece.ensures.memory (c.refused-in-Err-recover_piece.ensures.spelled c.args.frame.now.version)

pub returns-in-Ok-recover_piece : goal.returns-in-Ok-recover_piece
returns-in-Ok-recover_piece c =
    piece_takes c.args.frame.now c.requires.kind c.requires.readable c.args.holdings.now c.recover_piece.new.holdings c.in-Ok.piece.stamp c.in-Ok.piece.reply c.in-Ok.ensures.its c.in-Ok-recover_piece.ensures.recovers
    c.in-Ok.ensures.reply.0 c.in-Ok.ensures.reply.1
