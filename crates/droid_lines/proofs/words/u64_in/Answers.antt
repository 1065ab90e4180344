use Rattle.std.proofs.Common.{◌∙◌, rules}
use Rattle.droid_lines.proofs.LineNumbers.{plus_is_none, u64_parsed}
use Rattle.droid_lines.proofs.words.u64_in.Goals as goal

pub returns-then-has_plus : goal.returns-then-has_plus
returns-then-has_plus c = plus_is_none _ c.args.word.now (search rules)

pub returns : goal.returns
returns c = c.ok.ensures.value ∙ u64_parsed c.args.word.now c.parse.result c.parse.ensures.value.0 (search rules)
