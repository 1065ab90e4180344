use Rattle.droid_terminal.specs.SkippedTexts.{entry_text}
use Rattle.droid_cmd_profile.proofs.SkippedLines.{goes_from_none}
use Rattle.droid_cmd_profile.proofs.skipped_file.SkippedFile.add.Goals as goal

pub returns-in-None : goal.returns-in-None
returns-in-None g c =
    let text = entry_text c.args.path.now c.args.why in
    goes_from_none g.S.Write.contents g.S.SteadyWrite.seen g.S.SteadyWrite.room c.args.self.now c.add_line.new.self text c.in-None.is (c.add_line.ensures text c.entry_line.ensures c.in-None.is)
