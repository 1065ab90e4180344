use Rattle.std.proofs.Common.{sym}
use Rattle.droid_lines.proofs.LineWords.{request_of_text, request_of_other}
use Rattle.droid_lines.proofs.parser.parse_request_line.Goals as goal

pub returns-in-Ok-clause-value : goal.returns-in-Ok-clause-value
returns-in-Ok-clause-value c =
    let is_text = c.in-Ok.ensures.cases in
    rw (request_of_text c.args.bytes.now is_text.1, ← is_text.0) c.request_in.ensures.value

pub returns-in-Err-clause-value : goal.returns-in-Err-clause-value
returns-in-Err-clause-value c = sym (request_of_other c.args.bytes.now c.in-Err.ensures.cases.0)
