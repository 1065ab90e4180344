use Rattle.std.proofs.Common.{ap, take, drop, ◌∙◌}
use Rattle.droid_recovery.proofs.Bodies.{file_bytes, finish_parts, finish_reply, finish_stamp, profile_bytes, stamp_with}
use Rattle.droid_recovery.proofs.frame_reader.read_finish.Goals as goal

pub returns-in-Ok-clause-its : goal.returns-in-Ok-clause-its
returns-in-Ok-clause-its c = λ its reply profile file is kind body one other spelled.
    let frame = c.args.frame.now in
    let parts = finish_parts frame its reply profile file body is in
    let front = c.split_at.ensures.front ∙ ap (take 8) c.as_slice-body.ensures.value ∙ parts.front_is in
    let rest = c.split_at.ensures.back ∙ ap (drop 8) c.as_slice-body.ensures.value ∙ parts.rest_is in (
      ap (stamp_with frame) c.mark.ensures ∙ finish_stamp frame its reply profile file body _ is kind front,
      c.number_in-profile.ensures profile (profile_bytes frame its reply profile file body _ front) one,
      c.number_in-file.ensures file (file_bytes frame its reply profile file body _ front) other,
      c.in-Ok.ensures.its reply (finish_reply frame its reply _ is rest spelled),
    )
