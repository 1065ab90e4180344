use Rattle.std.proofs.Common.{Err, ap, sym, ◌∙◌}
use Rattle.droid_core.proofs.FinishJudged.{reported_of_fault, none_missing}
use Rattle.droid_core.proofs.commands.completion.identify_file.Goals as goal

pub returns-in-Ok-clause-allowed : goal.returns-in-Ok-clause-allowed
returns-in-Ok-clause-allowed c = λ file here version profile content is unfinished reported.
    none_missing version profile.hash content unfinished reported (rw (is.size, is.piece_size) at (sym is.pieces.least ∙ (c.in-Ok.ensures.identifies file here).complete))

pub returns-in-Ok-clause-finding : goal.returns-in-Ok-clause-finding
returns-in-Ok-clause-finding c = λ file here pieces stands.
    rw c.as_str-name.ensures.value at ((c.in-Ok.ensures.identifies file here).finding pieces stands)

pub returns-in-Err-clause-refused : goal.returns-in-Err-clause-refused
returns-in-Err-clause-refused c = λ file here version profile content is unfinished reported.
    reported_of_fault version profile.hash content c.in-Err.fault c.from.result unfinished reported
    (λ first is_first. (rw (is.size, is.piece_size) at ((c.identify.ensures.identifies file here).incomplete content.pieces first is.pieces)).0 (c.in-Err.is ∙ ap Err is_first))
    c.from.ensures
