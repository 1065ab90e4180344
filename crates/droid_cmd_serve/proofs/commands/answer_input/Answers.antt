use Rattle.std.proofs.Common.{None, refl}
use Rattle.droid_cmd_serve.proofs.JournalCommands.{ends_answering}
use Rattle.droid_cmd_serve.proofs.commands.answer_input.Goals as goal

pub returns : goal.returns
returns g c =
    let ends = c.answer_stream.ensures.ends in
    ends_answering ends.served c.answer_stream.new.pipe.departure None c.answer_stream.result c.answer_stream.result ends.ends refl
