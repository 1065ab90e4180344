-- What a service does with one frame (this project's own).
use Rattle.std.specs.Prelude.{◌≡◌}
use Rattle.droid_frame.specs.Replies.{HasReplySpelling}
use Rattle.droid_frame.specs.declared.frame.Frame.{Frame}
use Rattle.droid_frame.specs.declared.reply.Reply.{Reply}
use Rattle.droid_core_spec.specs.Histories.{Handles, History}
use Rattle.droid_core_spec.specs.Setting.{Setting}
use Rattle.droid_core.specs.Standing.{StandsFor, limits_of, registry_of}
use Rattle.droid_core.specs.declared.service.Service.{Service}

-- the frame was handled, with this one reply, in whatever history the service stood for
pub record IsAnswered (old : Service) (frame : Frame) (reply : Reply) (new : Service) : Type 0 where
  pub handled : (setting : Setting) (history : History) → StandsFor setting old history
      → Handles setting history frame reply (StandsFor setting new)
  pub spelled : HasReplySpelling frame.version reply
  pub same_limits : limits_of new ≡ limits_of old
  pub same_registry : registry_of new ≡ registry_of old
