use Rattle.droid_recovery.proofs.BareTakings.{finish_takes, finish_unkept, finish_unread}
use Rattle.droid_recovery.proofs.record_step.take_finish.Goals as goal

pub returns-in-Err : goal.returns-in-Err
returns-in-Err c =
    finish_unread c.args.frame.now c.requires.kind c.requires.readable c.args.holdings.now c.refused.result c.in-Err.fault c.in-Err.ensures.its c.refused.ensures.memory (c.refused.ensures.spelled c.args.frame.now.version)

pub returns-in-Err-recover_finish : goal.returns-in-Err-recover_finish
returns-in-Err-recover_finish c =
    finish_unkept c.args.frame.now c.requires.kind c.requires.readable c.args.holdings.now c.recover_finish.new.holdings c.in-Ok.finish.stamp c.in-Ok.finish.profile c.in-Ok.finish.file c.in-Ok.finish.reply c.in-Ok.ensures.its c.refused-in-Err-recover_finish.result c.in-Err-recover_finish.fault
    c.in-Err-recover_finish.ensures.memory c.in-Err-recover_finish.ensures.unchanged c.refused-in-Err-recover_finish.ensures.memory (c.refused-in-Err-recover_finish.ensures.spelled c.args.frame.now.version)

pub returns-in-Ok-recover_finish : goal.returns-in-Ok-recover_finish
returns-in-Ok-recover_finish c =
    finish_takes c.args.frame.now c.requires.kind c.requires.readable c.args.holdings.now c.recover_finish.new.holdings c.in-Ok.finish.stamp c.in-Ok.finish.profile c.in-Ok.finish.file c.in-Ok.finish.reply c.in-Ok.ensures.its c.in-Ok-recover_finish.ensures.recovers
    c.in-Ok.ensures.reply.0 c.in-Ok.ensures.reply.1
