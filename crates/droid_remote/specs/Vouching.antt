-- How a new connection is vouched for: the service repeats its replies to the known requests (this project's own).
use Rattle.std.specs.Prelude.{◌≡◌, ◌⊎◌, ℕ, ◌==◌, ◌&&◌, ◌||◌, nat_le, Bool, if◌then◌else◌}
use Rattle.std.specs.Prelude.{List, [], ◌∷◌, Contains, Option, Some, None}
use Rattle.droid_frame.specs.declared.frame.Frame.{Frame}
use Rattle.droid_frame.specs.declared.reply.Reply.{Reply}
use Rattle.droid_frame.specs.declared.reply.Reply.TheVariants.{Made, Node, Finished, Abandoned}
use Rattle.droid_frame.specs.ReplyFrames.{frame_of_reply}
use Rattle.droid_remote.specs.Events.{Event, Fact, Sent, Cut, Written, Received, facts_behind}
use Rattle.droid_remote.specs.declared.transfer.known_requests.Known.{Known}
use Rattle.droid_remote.specs.declared.transfer.known_requests.KnownRequests.{KnownRequests}

-- nothing is known yet
abbrev pub nothing_known : KnownRequests
nothing_known = record { profile = None; change = None; newest = 0 }

-- this is a known request
abbrev pub IsKnown : KnownRequests → Known → Type 0
IsKnown all known = (all.profile ≡ Some known) ⊎ (all.change ≡ Some known)

-- it is a known request, if it is there
abbrev pub AreKnown : Option Known → KnownRequests → Type 0
AreKnown some all = (known : Known) → some ≡ Some known → IsKnown all known

-- on the connection that stands the known request was written, and the known reply came
pub record IsRepeated (facts : List Fact) (known : Known) : Type 0 where
  pub written : Contains facts (Written known.request)
  pub received : Contains facts (Received known.reply)

-- the service was vouched for on the connection that stands: it repeated each known reply
abbrev pub IsVouched : KnownRequests → List Fact → Type 0
IsVouched all facts = (known : Known) → IsKnown all known → IsRepeated facts known

-- this frame may be written: it is a known request; or it is one of these, and the service was vouched for
abbrev pub MayWrite : KnownRequests → (Frame → Type 0) → List Fact → Frame → Type 0
MayWrite all Is facts frame =
    ((known : Known) × IsKnown all known × (frame ≡ known.request)) ⊎ (Is frame × IsVouched all facts)

-- if a frame is written, whole or in part, it may be
abbrev pub MayHappen : KnownRequests → (Frame → Type 0) → List Fact → Event → Type 0
MayHappen all Is facts (Sent frame) = MayWrite all Is facts frame
MayHappen all Is facts (Cut frame) = MayWrite all Is facts frame
MayHappen all Is facts _ = Unit {0}

-- each of these events may happen, given the facts before the first of them
abbrev pub MayAllHappen : KnownRequests → (Frame → Type 0) → List Fact → List Event → Type 0
MayAllHappen all Is facts [] = Unit {0}
MayAllHappen all Is facts (event ∷ events) =
    MayHappen all Is facts event × MayAllHappen all Is (facts_behind facts event) events

-- ---- what becomes known

-- AddFolder and AddFile
abbrev pub adds_node : ℕ → Bool
adds_node kind = (kind == 2) || (kind == 3)

-- it adds a node, and the node's number is not lower than the greatest so far
abbrev pub adds_newest : ℕ → ℕ → ℕ → Bool
adds_newest kind number newest = adds_node kind && nat_le newest number

-- an answer is the last change
abbrev pub changed_by : KnownRequests → Known → KnownRequests
changed_by all answer = record { profile = all.profile; change = Some answer; newest = all.newest }

-- what is known after an answer
abbrev pub remember_as : KnownRequests → Known → Reply → KnownRequests
remember_as all answer (Made profile) =
    if answer.request.kind == 1 then record { profile = Some answer; change = all.change; newest = all.newest } else all
remember_as all answer (Node number) =
    if adds_newest answer.request.kind number all.newest
    then record { profile = all.profile; change = Some answer; newest = number } else all
remember_as all answer (Finished method mismatch hash puids) =
    if answer.request.kind == 5 then changed_by all answer else all
remember_as all answer Abandoned =
    if answer.request.kind == 6 then changed_by all answer else all
remember_as all answer _ = all

-- the frame of a reply to this request
abbrev pub reply_to : Frame → Reply → Frame
reply_to frame reply = frame_of_reply frame.version frame.client frame.number reply

-- What is known after a request and its reply. A CreateProfile (kind 1) that is answered by Made takes the place of the
-- last one. So does a change of its nodes: an AddFolder or AddFile (2 and 3) that is answered by Node, a Finish (5) by
-- Finished, and an Abandon (6) by Abandoned. A node with a lower number than one before is no change: it was there
-- before that one. A service numbers the nodes of a profile in order: if it has forgotten all of them, the request of
-- the greatest number gets it only where there is no other.
abbrev pub remember : KnownRequests → Frame → Reply → KnownRequests
remember all frame reply = remember_as all (record { request = frame; reply = reply_to frame reply }) reply
