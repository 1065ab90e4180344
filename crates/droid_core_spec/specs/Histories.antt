-- Histories: the accepted requests in order of first acceptance, the world that they make, and the answer to a request
-- after them (this project's own).
use Rattle.std.specs.Prelude.{◌≡◌, ℕ, ◌^◌, ◌<◌, ◌==◌, ◌&&◌, if◌then◌else◌, Bool, true, List, [], ◌∷◌, ◌++◌, fold}
use Rattle.std.specs.Prelude.{Option, Some, None, IsSome, MatchBool}
use Rattle.std.specs.List.{find}
use Rattle.std.specs.Str.{bytes_eq}
use Rattle.droid_frame.specs.declared.frame.Frame.{Frame}
use Rattle.droid_frame.specs.declared.refusal.Refusal.TheVariants.{Malformed, NumberReused}
use Rattle.droid_frame.specs.declared.reply.Reply.{Reply}
use Rattle.droid_frame.specs.declared.reply.Reply.TheVariants.{Refused}
use Rattle.droid_frame.specs.declared.request.Request.{Request}
use Rattle.droid_frame.specs.Bodies.{SpellsRequest}
use Rattle.droid_frame.specs.Frames.{mark_of}
use Rattle.droid_frame.specs.RequestValues.{request_in}
use Rattle.droid_core_spec.specs.Judging.{Verdict, Accepted, Answered, Refuses, judge}
use Rattle.droid_core_spec.specs.Setting.{Setting}
use Rattle.droid_core_spec.specs.MemoryFaults.{is_out_of_memory}
use Rattle.droid_core_spec.specs.World.{World, empty_world}

-- an accepted request with its mark and its reply
pub record Entry : Type 0 where
  pub frame : Frame
  pub mark : List ℕ
  pub reply : Reply

-- in order of first acceptance
abbrev pub History : Type 0
History = List Entry

-- the frame asks the request: its number is below 2^63, and its version, kind and body spell the request
pub record Asks (frame : Frame) (request : Request) : Type 0 where
  pub small : frame.number < 2 ^ 63
  pub spelled : SpellsRequest frame.version frame.kind frame.body request

-- the frame asks no request
abbrev pub AsksNothing : Frame → Type 0
AsksNothing frame = (request : Request) → Asks frame request → ⊥

-- the request that the frame asks, found by reading the body; the law `laws::a_frame_asks_what_it_spells` says that it
-- is that of `Asks`, and that there is none if nothing is asked
unfoldable pub command : Frame → Option Request
command frame = request_in frame

-- the mark by which the frame's request is known again: a digest of its kind and its body
abbrev pub frame_mark : Frame → List ℕ
frame_mark frame = mark_of frame.kind frame.body

-- the entry is of this client and this number
abbrev pub is_under : ℕ → ℕ → Entry → Bool
is_under client number entry = (entry.frame.client == client) && (entry.frame.number == number)

-- the entry of this client and number, if one is kept
abbrev pub kept : History → ℕ → ℕ → Option Entry
kept history client number = find (is_under client number) history

-- ---- the world of a history

-- the world that a verdict leaves
abbrev pub world_after : World → Verdict → World
world_after world (Accepted reply after) = after
world_after world (Answered reply) = world
world_after world (Refuses refusal) = world

-- the world after a request of this version
abbrev pub world_asked : Setting → World → ℕ → Option Request → World
world_asked setting world version None = world
world_asked setting world version (Some request) = world_after world (judge setting world version request)

-- the world after the commands of the history, from the empty world
unfoldable pub world_of : Setting → History → World
world_of setting history =
    fold (λ world entry. world_asked setting world entry.frame.version (command entry.frame)) empty_world history

-- the entry may come next: its number is new, its mark is that of its request, and its command is accepted there with
-- its reply
pub record IsNext (setting : Setting) (history : History) (entry : Entry) : Type 0 where
  pub is_new : kept history entry.frame.client entry.frame.number ≡ None
  pub marked : entry.mark ≡ frame_mark entry.frame
  pub request : Request
  pub asked : command entry.frame ≡ Some request
  pub after : World
  pub accepted : judge setting (world_of setting history) entry.frame.version request ≡ Accepted entry.reply after

-- each entry may come after those before it
abbrev pub GoesOn : Setting → History → History → Type 0
GoesOn setting before [] = Unit {0}
GoesOn setting before (entry ∷ entries) = IsNext setting before entry × GoesOn setting (before ++ entry ∷ []) entries

-- each entry may come after those before it, and the first one into the empty world
abbrev pub IsLegal : Setting → History → Type 0
IsLegal setting history = GoesOn setting [] history

-- ---- what a request meets

-- under one client and number, a request is the accepted one if it has the same version and the same mark
abbrev pub is_same_request : ℕ → List ℕ → ℕ → List ℕ → Bool
is_same_request accepted_version accepted_mark version mark =
    (accepted_version == version) && bytes_eq accepted_mark mark

-- the frame, of the entry's client and number, has the entry's request
abbrev pub is_request_of : Entry → Frame → Bool
is_request_of entry frame = is_same_request entry.frame.version entry.mark frame.version (frame_mark frame)

-- what a request meets
pub data Meeting : Type 0 where
  -- the frame asks nothing
  Nothing : Meeting
  -- it is the request of this entry, sent again
  Repeat : (entry : Entry) → Meeting
  -- its number is that of another request
  Reuse : Meeting
  -- its number is new, and its verdict is this
  New : (verdict : Verdict) → Meeting

-- by the entry of its client and number, if one is kept
abbrev pub meeting_under : Setting → History → Option Entry → Frame → Request → Meeting
meeting_under setting history (Some entry) frame request = if is_request_of entry frame then Repeat entry else Reuse
meeting_under setting history None frame request = New (judge setting (world_of setting history) frame.version request)

-- by the request that the frame asks, if it asks one
abbrev pub meeting_asked : Setting → History → Frame → Option Request → Meeting
meeting_asked setting history frame None = Nothing
meeting_asked setting history frame (Some request) =
    meeting_under setting history (kept history frame.client frame.number) frame request

-- what the request of the frame meets in the history
unfoldable pub meeting : Setting → History → Frame → Meeting
meeting setting history frame = meeting_asked setting history frame (command frame)

-- ---- the answer to a request, and the history after it

-- the reply that tells the verdict
abbrev pub verdict_reply : Verdict → Reply
verdict_reply (Accepted reply after) = reply
verdict_reply (Answered reply) = reply
verdict_reply (Refuses refusal) = Refused refusal

-- the reply to a request, by what it met
abbrev pub reply_to : Meeting → Reply
reply_to Nothing = Refused Malformed
reply_to (Repeat entry) = entry.reply
reply_to Reuse = Refused NumberReused
reply_to (New verdict) = verdict_reply verdict

-- the answer to the request after the history
unfoldable pub answer : Setting → History → Frame → Reply
answer setting history frame = reply_to (meeting setting history frame)

-- the entry of an accepted command, by its frame and the reply to it
abbrev pub entry_of : Frame → Reply → Entry
entry_of frame reply = record { frame = frame; mark = frame_mark frame; reply = reply }

-- the history after what the frame met: one entry more if it is a new command that is accepted
abbrev pub history_with : History → Frame → Meeting → History
history_with history frame Nothing = history
history_with history frame (Repeat entry) = history
history_with history frame Reuse = history
history_with history frame (New (Accepted reply after)) = history ++ entry_of frame reply ∷ []
history_with history frame (New (Answered reply)) = history
history_with history frame (New (Refuses refusal)) = history

-- the history after the request
unfoldable pub next : Setting → History → Frame → History
next setting history frame = history_with history frame (meeting setting history frame)

-- the history has an entry of this request, with this reply
pub record HasReply (history : History) (frame : Frame) (reply : Reply) : Type 0 where
  pub entry : Entry
  pub there : kept history frame.client frame.number ≡ Some entry
  pub same : is_request_of entry frame ≡ true
  pub its : entry.reply ≡ reply

-- the history after a list of requests, from this one
abbrev pub history_from : Setting → History → List Frame → History
history_from setting history [] = history
history_from setting history (frame ∷ frames) = history_from setting (next setting history frame) frames

-- the answers to the requests of a list, in order
abbrev pub answers : Setting → History → List Frame → List Reply
answers setting history [] = []
answers setting history (frame ∷ frames) =
    answer setting history frame ∷ answers setting (next setting history frame) frames

-- ---- what handling a request gives

-- either the answer, and the claim holds of the next history; or the reply says that memory ran out, which it never
-- says of a malformed request, and the claim holds of this history
abbrev pub Handles : Setting → History → Frame → Reply → (History → Type 0) → Type 0
Handles setting history frame reply Stands =
    MatchBool (is_out_of_memory reply)
    (IsSome (command frame) × Stands history)
    ((reply ≡ answer setting history frame) × Stands (next setting history frame))
