use Rattle.droid_recovery.proofs.Answered.{gives, stands}
use Rattle.droid_recovery.proofs.recovery_machine.RecoveringMachineMachine.handle.Goals as goal

pub returns-clause-gives : goal.returns-clause-gives
returns-clause-gives c = λ recovery records stood.
    gives recovery c.args.self.now.holdings c.take-reply.new.holdings c.args.frame c.take-reply.result c.accepts-accepted.result c.requires.readable stood.words c.take-reply.ensures c.accepts-accepted.ensures records stood.recovers

pub returns-clause-stands : goal.returns-clause-stands
returns-clause-stands c = λ recovery records first stood. record {
  words = stood.words;
  recovers =
      stands recovery c.args.self.now.holdings c.take-reply.new.holdings c.args.frame c.take-reply.result c.accepts-accepted.result c.requires.readable stood.words c.take-reply.ensures c.accepts-accepted.ensures records first stood.recovers;
}
