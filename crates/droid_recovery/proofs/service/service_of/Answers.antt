use Rattle.droid_recovery.proofs.WholeWorlds.{in_whole_world}
use Rattle.droid_recovery.proofs.service.service_of.Goals as goal

pub returns-clause-stands : goal.returns-clause-stands
returns-clause-stands c = λ setting bare history recovers ended.
    c.in_ok-service.ensures.stands setting history
    (record { legal = recovers.legal; replies = recovers.replies; world = in_whole_world setting bare c.args.holdings history recovers ended })
