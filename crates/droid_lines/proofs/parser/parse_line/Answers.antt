use Rattle.std.proofs.Common.{sym}
use Rattle.droid_lines.proofs.LineWords.{line_of_text, line_of_other}
use Rattle.droid_lines.proofs.parser.parse_line.Goals as goal

pub returns-in-Ok-clause-value : goal.returns-in-Ok-clause-value
returns-in-Ok-clause-value c =
    let is_text = c.in-Ok.ensures.cases in
    rw (line_of_text c.args.bytes.now is_text.1, ← is_text.0) c.parse_text.ensures.value

pub returns-in-Err-clause-value : goal.returns-in-Err-clause-value
returns-in-Err-clause-value c = sym (line_of_other c.args.bytes.now c.in-Err.ensures.cases.0)
