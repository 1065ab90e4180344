use Rattle.std.proofs.Common.{subst, sym}
use Rattle.droid_cmd_serve.specs.JournalEndings.{IsAnsweringEnd}
use Rattle.droid_cmd_serve.proofs.JournalCommands.{unmade_so}
use Rattle.droid_cmd_serve.proofs.commands.run_in_memory.Goals as goal

pub returns-in-Ok : goal.returns-in-Ok
returns-in-Ok g c = subst IsAnsweringEnd (sym c.over.ensures.ending) c.answer_input.ensures

pub returns-in-Err : goal.returns-in-Err
returns-in-Err g c = unmade_so c.in-Err.ended.ending c.in-Err.ensures.unmade
