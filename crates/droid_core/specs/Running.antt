-- What handling a list of requests comes to.
use Rattle.std.specs.Prelude.{◌≡◌, if◌then◌else◌, not, List, [], ◌∷◌, length, filter, MatchBool, IsSome, ⊤}
use Rattle.droid_frame.specs.declared.frame.Frame.{Frame}
use Rattle.droid_frame.specs.declared.reply.Reply.{Reply}
use Rattle.droid_frame.specs.Replies.{HasReplySpelling}
use Rattle.droid_core.specs.declared.service.Service.{Service}
use Rattle.droid_core_spec.specs.Histories.{History, command, answers, history_from}
use Rattle.droid_core.specs.Standing.{StandsFor}
use Rattle.droid_core_spec.specs.Setting.{Setting}
use Rattle.droid_core_spec.specs.MemoryFaults.{is_out_of_memory}

-- the requests, without those that were refused because memory ran out
abbrev pub without_memory_faults : List Frame → List Reply → List Frame
without_memory_faults [] replies = []
without_memory_faults (frame ∷ frames) [] = []
without_memory_faults (frame ∷ frames) (reply ∷ replies) =
    if is_out_of_memory reply then without_memory_faults frames replies
    else frame ∷ without_memory_faults frames replies

-- the replies, without those that say that memory ran out
abbrev pub other_replies : List Reply → List Reply
other_replies replies = filter (λ reply. not (is_out_of_memory reply)) replies

-- a malformed request is never answered that memory ran out
abbrev pub NoMemoryFaultOfMalformed : List Frame → List Reply → Type 0
NoMemoryFaultOfMalformed [] replies = Unit {0}
NoMemoryFaultOfMalformed (frame ∷ frames) [] = Unit {0}
NoMemoryFaultOfMalformed (frame ∷ frames) (reply ∷ replies) =
    MatchBool (is_out_of_memory reply) (IsSome (command frame)) ⊤ × NoMemoryFaultOfMalformed frames replies

-- each reply has a spelling in the version of the request that it answers
abbrev pub AreSpelled : List Frame → List Reply → Type 0
AreSpelled [] replies = Unit {0}
AreSpelled (frame ∷ frames) [] = Unit {0}
AreSpelled (frame ∷ frames) (reply ∷ replies) = HasReplySpelling frame.version reply × AreSpelled frames replies

-- There is one reply for each request, with a spelling in the request's version. If the requests that were refused
-- because memory ran out are left aside, the replies are the answers to the others, and the service then stands for the
-- history after these.
pub record Runs (setting : Setting) (history : History) (frames : List Frame) (replies : List Reply) (after : Service)
    : Type 0 where
  pub count : length replies ≡ length frames
  pub spelled : AreSpelled frames replies
  pub memory_faults : NoMemoryFaultOfMalformed frames replies
  pub answered : other_replies replies ≡ answers setting history (without_memory_faults frames replies)
  pub stands : StandsFor setting after (history_from setting history (without_memory_faults frames replies))
