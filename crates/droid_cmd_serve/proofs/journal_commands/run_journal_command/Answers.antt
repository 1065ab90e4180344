use Rattle.droid_cmd_serve.proofs.JournalCommands.{ends_answering, unopened_so}
use Rattle.droid_cmd_serve.proofs.journal_commands.run_journal_command.Goals as goal

pub returns-in-Err : goal.returns-in-Err
returns-in-Err g c = unopened_so c.in-Err.ended.ending c.in-Err.ensures

pub returns : goal.returns
returns g c =
    let ends = c.answer_with_journal-ending.ensures in
    ends_answering ends.served c.answer_with_journal-ending.new.pipe.departure c.answer_with_journal-ending.new.handler.fault c.answer_with_journal-ending.result c.at_with_journal.result.ending ends.ends c.at_with_journal.ensures.ending
