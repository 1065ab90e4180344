use Rattle.std.proofs.Common.{arith}
use Rattle.std.proofs.lemmas.Str.Pattern.{split_once_first}
use Rattle.droid_lines.proofs.LineWords.{cut_split}
use Rattle.droid_lines.proofs.words.word.Goals as goal

pub returns : goal.returns
returns c = cut_split 32 c.args.text.now c.split_once.result (split_once_first 32 c.args.text.now c.split_once.result c.split_once.ensures.cases (omega arith))
