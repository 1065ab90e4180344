-- What answering one request comes to, said once for the functions that answer it.
use Rattle.std.specs.Prelude.{◌≡◌, ◌&&◌, not, ℕ, Bool, true, false, None, Some, IsTrue}
use Rattle.droid_frame.specs.Replies.{HasReplySpelling}
use Rattle.droid_frame.specs.declared.filter.Filter.{Filter}
use Rattle.droid_frame.specs.declared.frame.Frame.{Frame}
use Rattle.droid_frame.specs.declared.reply.Reply.{Reply}
use Rattle.droid_frame.specs.declared.request.Request.{Request}
use Rattle.droid_frame.specs.declared.request.Request.TheVariants.{Export}
use Rattle.droid_core_spec.specs.Histories.{History, Handles, Meeting, Nothing, Repeat, Reuse, New, command, kept}
use Rattle.droid_core_spec.specs.Histories.{meeting}
use Rattle.droid_core_spec.specs.Judging.{Accepted, Answered, Refuses}
use Rattle.droid_core_spec.specs.MemoryFaults.{is_out_of_memory}
use Rattle.droid_core_spec.specs.Setting.{Setting}
use Rattle.droid_core.specs.Changes.{stamp_of}
use Rattle.droid_core.specs.KeptTexts.{is_followed}
use Rattle.droid_core.specs.declared.stamps.Stamp.{Stamp}
use Rattle.droid_core.specs.Cached.{KeepsText, cache_size_of}
use Rattle.droid_core.specs.Standing.{StandsFor, limits_of, registry_of}
use Rattle.droid_core.specs.declared.service.Service.{Service}

-- whether what a request met adds an entry to the history
abbrev pub adds : Meeting → Bool
adds Nothing = false
adds (Repeat entry) = false
adds Reuse = false
adds (New (Accepted reply after)) = true
adds (New (Answered reply)) = false
adds (New (Refuses refusal)) = false

-- the request is a new command that was accepted, so it adds an entry to the history
abbrev pub is_added : Setting → History → Frame → Reply → Bool
is_added setting history frame reply = not (is_out_of_memory reply) && adds (meeting setting history frame)

-- For each history that the service stands for, the reply is its answer and the service then stands for the next one,
-- or memory ran out. The reply has a spelling in the request's version; the limits, the registry and the size of the
-- cache stay. After a new Export that leaves something of a text unread the service keeps that text, unless it is too
-- long. The request is said to be new if it adds an entry to the history.
pub record IsHandled (stamp : Stamp) (request : Request) (before after : Service) (reply : Reply) (is_new : Bool)
    : Type 0 where
  pub handles : (setting : Setting) (history : History) (frame : Frame) → stamp ≡ stamp_of frame
      → command frame ≡ Some request → StandsFor setting before history
      → Handles setting history frame reply (StandsFor setting after)
  pub spelled : HasReplySpelling stamp.version reply
  pub limits : limits_of after ≡ limits_of before
  pub registry : registry_of after ≡ registry_of before
  pub cache : cache_size_of after ≡ cache_size_of before
  pub text : (setting : Setting) (history : History) (profile from max : ℕ) (filter : Filter)
      → StandsFor setting before history → request ≡ Export profile from max filter
      → kept history stamp.client stamp.number ≡ None → IsTrue (is_followed from max reply)
      → KeepsText profile filter after
  pub newness : (setting : Setting) (history : History) (frame : Frame) → stamp ≡ stamp_of frame
      → command frame ≡ Some request → StandsFor setting before history → is_new ≡ is_added setting history frame reply
