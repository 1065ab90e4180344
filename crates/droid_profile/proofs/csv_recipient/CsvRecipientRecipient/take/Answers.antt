use Rattle.droid_export.specs.Text.{record_text}
use Rattle.droid_profile.specs.Texts.{line_of}
use Rattle.droid_profile.proofs.Takings.{on-alone, on-breaks_one_alone}
use Rattle.droid_profile.proofs.csv_recipient.CsvRecipientRecipient.take.Goals as goal

pub returns-in-Ok-write_full-clause-taken : goal.returns-in-Ok-write_full-clause-taken
returns-in-Ok-write_full-clause-taken g c =
    let old = c.args.self.now in
    let next = c.args.next.now in (
      on-alone g.O.Write.contents g.O.SteadyWrite.seen g.M.Write.contents g.M.SteadyWrite.seen old c.add.new.self c.write_full.new.self (record_text old.registry.now next) (line_of next) c.in-Ok.ensures.added c.in-Ok-write_full.ensures.ok,
      c.in-Ok-write_full.ensures.few,
    )

pub returns-in-Err-write_full-clause-failed : goal.returns-in-Err-write_full-clause-failed
returns-in-Err-write_full-clause-failed g c =
    let old = c.args.self.now in
    let next = c.args.next.now in
    on-breaks_one_alone g.O.Write.contents g.O.SteadyWrite.seen g.M.Write.contents g.M.SteadyWrite.seen g.O.SteadyWrite.room g.M.SteadyWrite.room old c.add.new.self c.write_full.new.self (record_text old.registry.now next) (line_of next) c.in-Ok.ensures.added c.in-Err-write_full.ensures.err
