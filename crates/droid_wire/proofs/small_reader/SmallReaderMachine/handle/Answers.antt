use Rattle.droid_wire.proofs.HistoryLaws.{none_then, noted_then}
use Rattle.droid_wire.proofs.small_reader.SmallReaderMachine.handle.Goals as goal

pub returns-clause-gives : goal.returns-clause-gives
returns-clause-gives c = λ recovery records stood. c.handle-handled.ensures.gives recovery records stood.recovers

pub returns-clause-stands : goal.returns-clause-stands
returns-clause-stands c = λ recovery records first stood. record {
  recovers = c.handle-handled.ensures.stands recovery records first stood.recovers;
  noted = λ is.
      noted_then records first c.args.frame c.handle-handled.result.reply c.handle-handled.result.accepted c.args.self.now.is_small c.is_bare-bare.result c.requires.readable c.is_bare-bare.ensures.bare stood.noted (c.has_bare-self.ensures.one is);
  none = λ isnt.
      none_then records first c.args.frame c.handle-handled.result.reply c.handle-handled.result.accepted c.args.self.now.is_small c.is_bare-bare.result c.has_bare-self.result c.requires.readable c.is_bare-bare.ensures.all stood.none c.has_bare-self.ensures.stays c.has_bare-self.ensures.comes isnt;
}
