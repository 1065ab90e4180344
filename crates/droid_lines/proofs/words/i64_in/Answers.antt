use Rattle.std.proofs.Common.{◌∙◌, rules}
use Rattle.droid_lines.proofs.LineNumbers.{plus_is_no_signed, i64_parsed}
use Rattle.droid_lines.proofs.words.i64_in.Goals as goal

pub returns-then-has_plus : goal.returns-then-has_plus
returns-then-has_plus c = plus_is_no_signed c.args.word.now (search rules)

pub returns : goal.returns
returns c = c.ok.ensures.value ∙ i64_parsed c.args.word.now c.parse.result c.parse.ensures.value.0 (search rules)
