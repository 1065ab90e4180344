use Rattle.std.proofs.Common.{arith}
use Rattle.std.proofs.lemmas.Str.Pattern.{split_once_first}
use Rattle.droid_lines.proofs.LineWords.{cut_split}
use Rattle.droid_lines.proofs.words.name_and_value.Goals as goal

pub returns : goal.returns
returns c = cut_split 61 c.args.word.now c.split_once.result (split_once_first 61 c.args.word.now c.split_once.result c.split_once.ensures.cases (omega arith))
