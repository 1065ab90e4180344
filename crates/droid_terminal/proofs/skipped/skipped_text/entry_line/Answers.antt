use Rattle.std.proofs.Common.{[]}
use Rattle.std.proofs.lemmas.Result.{IfOk-weaker}
use Rattle.droid_terminal.specs.SkippedTexts.{entry_text}
use Rattle.droid_terminal.proofs.skipped.skipped_text.entry_line.Goals as goal

pub returns : goal.returns
returns c =
    let written = rw (c.as_bytes.ensures.value, c.cause.ensures) at (c.in_ok-write_pair.ensures [] c.new_csv-writer.ensures) in
    IfOk-weaker c.finish_csv.result _ _ (λ text holds. holds (entry_text c.args.path.now c.args.why) written) c.finish_csv.ensures
