use Rattle.std.proofs.Common.{sym}
use Rattle.droid_frame.proofs.Utf8.{text_at-utf8, text_at-other}
use Rattle.droid_frame.proofs.reading.fields.text_lists.str_of.Goals as goal

pub returns-in-Ok : goal.returns-in-Ok
returns-in-Ok c = rw c.in-Ok.ensures.cases.0 (sym (text_at-utf8 c.args.bytes.now c.in-Ok.ensures.cases.1))

pub returns-in-Err : goal.returns-in-Err
returns-in-Err c = sym (text_at-other c.args.bytes.now c.in-Err.ensures.cases.0)
