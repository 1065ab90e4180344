use Rattle.droid_cmd_serve.proofs.JournalCommands.{ends_unopened}
use Rattle.droid_cmd_serve.proofs.journal_commands.serve_by.Goals as goal

pub returns-in-Err : goal.returns-in-Err
returns-in-Err g c = ends_unopened c.args.rules c.in-Err.ended.ending c.in-Err.ended.cause c.in-Err.ensures
