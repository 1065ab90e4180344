use Rattle.std.proofs.Common.{[], refl}
use Rattle.droid_journal.specs.Opening.{Begun}
use Rattle.droid_journal.proofs.Openings.{ready_begun}
use Rattle.droid_journal.proofs.start.open_begun.Goals as goal

pub returns-clause-opened : goal.returns-clause-opened
returns-clause-opened g c = λ s here.
    let begun = c.requires.begins s here in
    let made = c.in-Ok.ensures.made s here begun in (
      [],
      Begun c.args.count begun refl,
      λ setting st. (ready_begun g.F.LogFile.has g.F.LogFile.kept (g.M.Machine.stands setting) c.args.header.now c.make_header.new.file _ made.0 made.1 st c.key_of.ensures c.first_place.ensures refl, tt),
    )
