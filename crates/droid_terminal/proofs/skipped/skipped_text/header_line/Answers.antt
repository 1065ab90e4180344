use Rattle.std.proofs.Common.{[]}
use Rattle.std.proofs.lemmas.Result.{IfOk-weaker}
use Rattle.droid_terminal.specs.SkippedTexts.{header}
use Rattle.droid_terminal.proofs.skipped.skipped_text.header_line.Goals as goal

pub returns : goal.returns
returns c = IfOk-weaker c.finish_csv.result _ _ (λ text holds. holds header (c.in_ok-write_pair.ensures [] c.new_csv-writer.ensures)) c.finish_csv.ensures
