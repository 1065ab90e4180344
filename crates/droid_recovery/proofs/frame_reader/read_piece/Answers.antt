use Rattle.std.proofs.Common.{ap, length, take, drop, ◌∙◌, arith}
use Rattle.droid_recovery.proofs.Bodies.{piece_parts, piece_reply, piece_stamp}
use Rattle.droid_recovery.proofs.frame_reader.read_piece.Goals as goal

pub returns-then-body-lt-MARK-clause-its : goal.returns-then-body-lt-MARK-clause-its
returns-then-body-lt-MARK-clause-its c = λ its reply is spelled.
    absurd (omega (arith, c.if-body-lt-MARK.true, ap length c.as_slice-body.ensures.value, (piece_parts c.args.frame.now its reply is).long))

pub returns-in-Ok-clause-its : goal.returns-in-Ok-clause-its
returns-in-Ok-clause-its c = λ its reply is spelled.
    let parts = piece_parts c.args.frame.now its reply is in (
      piece_stamp c.args.frame.now its reply c.mark_in.result is (c.mark_in.ensures ∙ c.split_at.ensures.front ∙ ap (take 16) c.as_slice-body.ensures.value ∙ parts.front_is),
      c.in-Ok.ensures.its reply (piece_reply c.args.frame.now its reply _ is (c.split_at.ensures.back ∙ ap (drop 16) c.as_slice-body.ensures.value ∙ parts.rest_is) spelled),
    )

pub returns-in-Err-clause-its : goal.returns-in-Err-clause-its
returns-in-Err-clause-its c = λ its reply is spelled.
    let parts = piece_parts c.args.frame.now its reply is in
    c.in-Err.ensures.its reply (piece_reply c.args.frame.now its reply _ is (c.split_at.ensures.back ∙ ap (drop 16) c.as_slice-body.ensures.value ∙ parts.rest_is) spelled)
