use Rattle.std.proofs.Common.{ap, ◌∙◌}
use Rattle.droid_frame.specs.Frames.{mark_of}
use Rattle.droid_core.proofs.service.Service.handle.Goals as goal

pub handle_marked-handled-requires : goal.handle_marked-handled-requires
handle_marked-handled-requires c = record { mark = c.mark-mark.ensures ∙ ap (mark_of c.args.frame.kind) c.as_slice.ensures.value; bytes = c.as_slice.ensures.bytes }
