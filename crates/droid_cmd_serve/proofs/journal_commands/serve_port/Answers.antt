use Rattle.droid_cmd_serve.proofs.JournalCommands.{ends_serving, ends_unprinted, ends_unused}
use Rattle.droid_cmd_serve.proofs.journal_commands.serve_port.Goals as goal

pub returns-in-Err : goal.returns-in-Err
returns-in-Err g c = ends_unused c.args.rules c.unconnected.result.ending c.unconnected.result.cause _ c.unconnected.ensures.ending c.unconnected.ensures.cause

pub returns-then-is_err : goal.returns-then-is_err
returns-then-is_err g c = ends_unprinted c.args.rules c.at.result.ending c.at.result.cause c.at.ensures.ending

pub returns : goal.returns
returns g c =
    let ends = c.serve_with_journal-ending.ensures in
    ends_serving c.args.rules ends.served c.serve_with_journal-ending.new.handler.fault c.serve_with_journal-ending.result c.at_with_journal.result.ending c.at_with_journal.result.cause
    ends.whole ends.ends c.at_with_journal.ensures.ending c.at_with_journal.ensures.cause
