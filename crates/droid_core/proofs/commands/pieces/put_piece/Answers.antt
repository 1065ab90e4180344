use Rattle.std.proofs.Common.{Some, ap, sym, ◌∙◌}
use Rattle.droid_core.proofs.PutJudged.{fault_refusal, put_judged}
use Rattle.droid_core.proofs.commands.pieces.put_piece.Goals as goal

pub returns-in-Ok-clause-judged : goal.returns-in-Ok-clause-judged
returns-in-Ok-clause-judged c = λ file here profile content is unfinished.
    sym (ap fault_refusal c.in-Ok.is)
    ∙ put_judged content c.args.index c.args.bytes c.put.result unfinished
    (rw (is.size, is.piece_size) at (c.put.ensures.bad_piece file here))
    (rw (is.size, is.piece_size) at (c.put.ensures.piece_held file here content.pieces is.pieces))
    (rw (is.size, is.piece_size) at (c.put.ensures.too_far_ahead file here content.pieces is.pieces))
    (rw (is.size, is.piece_size) at (c.put.ensures.ok file here content.pieces is.pieces))

pub returns-in-Err-clause-judged : goal.returns-in-Err-clause-judged
returns-in-Err-clause-judged c = λ file here profile content is unfinished.
    ap Some c.from.ensures
    ∙ sym (ap fault_refusal c.in-Err.is)
    ∙ put_judged content c.args.index c.args.bytes c.put.result unfinished
    (rw (is.size, is.piece_size) at (c.put.ensures.bad_piece file here))
    (rw (is.size, is.piece_size) at (c.put.ensures.piece_held file here content.pieces is.pieces))
    (rw (is.size, is.piece_size) at (c.put.ensures.too_far_ahead file here content.pieces is.pieces))
    (rw (is.size, is.piece_size) at (c.put.ensures.ok file here content.pieces is.pieces))
