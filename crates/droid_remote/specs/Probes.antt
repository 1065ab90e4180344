-- What a client learns of the options that a submission was begun with (this project's own).
use Rattle.std.specs.Prelude.{◌≡◌, ℕ, zero, suc, ◌<◌, Bool, true, false, List, [], ◌∷◌, ◌++◌, Option, MatchOption}
use Rattle.std.specs.List.{AllByRecursion}
use Rattle.droid_frame.specs.declared.frame.Frame.{Frame}
use Rattle.droid_frame.specs.declared.hash_kind.HashKind.TheVariants as kinds
use Rattle.droid_frame.specs.declared.refusal.Refusal.TheVariants as refusals
use Rattle.droid_frame.specs.declared.reply.Reply.{Reply}
use Rattle.droid_frame.specs.declared.reply.Reply.TheVariants as replies
use Rattle.droid_remote.specs.Answering.{IsAnswered, IsReplyTo}
use Rattle.droid_remote.specs.Events.{Event, Fact, Sent, Came, Cut, Lost, Written, Received, facts_after}
use Rattle.droid_remote.specs.Moves.{Goes}
use Rattle.droid_remote.specs.Stages.{Stands, StandsOn}
use Rattle.droid_remote.specs.Vouching.{IsVouched}
use Rattle.droid_remote.specs.declared.transfer.connection_steps.Stage.TheVariants.{Nowhere}
use Rattle.droid_remote.specs.declared.transfer.in_flight.InFlight.{InFlight}
use Rattle.droid_remote.specs.declared.transfer.known_requests.KnownRequests.{KnownRequests}
use Rattle.droid_upload.specs.Submissions.{profile_request}
use Rattle.droid_upload.specs.declared.tree_submission.Options.{Options}
use Rattle.droid_remote.specs.Numbered.{frame_of}

-- the options with another pair of a hash and whether all formats are matched; there are six pairs
abbrev pub with_pair : ℕ → Options → Options
with_pair zero options = record options { match_all = false; hash = kinds.Nothing }
with_pair (suc zero) options = record options { match_all = true; hash = kinds.Nothing }
with_pair (suc (suc zero)) options = record options { match_all = false; hash = kinds.Md5 }
with_pair (suc (suc (suc zero))) options = record options { match_all = true; hash = kinds.Md5 }
with_pair (suc (suc (suc (suc zero)))) options = record options { match_all = false; hash = kinds.Sha256 }
with_pair _ options = record options { match_all = true; hash = kinds.Sha256 }

-- a frame was written or read on the connection that stands, which was neither made nor lost
abbrev pub IsHere : Event → Type 0
IsHere (Sent frame) = Unit {0}
IsHere (Came frame) = Unit {0}
IsHere _ = ⊥

-- the profile was made, or its number stands for other options
abbrev pub IsVerdict : Bool → Reply → Type 0
IsVerdict true reply = (profile : ℕ) × (reply ≡ replies.Made profile)
IsVerdict false reply = reply ≡ replies.Refused refusals.NumberReused

-- ---- of one frame

-- on the connection that stands, only this frame was written
pub record StaysHere {C : Type 0} (does : C → Event → C → Type 0) (known : KnownRequests) (frame : Frame)
    (facts : List Fact) (old new : InFlight C) : Type 0 where
  pub goes : Goes does known (λ other. other ≡ frame) facts old.connection new.connection
  pub same_waiting : new.waiting.items ≡ old.waiting.items
  pub stands_on : StandsOn known (facts_after facts goes.events) new

-- the frame was written, and this reply was read
pub record AnswersHere {C : Type 0} (does : C → Event → C → Type 0) (known : KnownRequests) (frame : Frame)
    (reply : Reply) (facts : List Fact) (old new : InFlight C) : Type 0 where
  pub middle : C
  pub came : Frame
  pub sent : does old.connection (Sent frame) middle
  pub read : does middle (Came came) new.connection
  pub vouched : IsVouched known facts
  pub is_reply : IsReplyTo frame came reply
  pub same_waiting : new.waiting.items ≡ old.waiting.items
  pub stands_on : StandsOn known ((facts ++ Written frame ∷ []) ++ Received came ∷ []) new

-- the frame was written, whole, on the connection that stands
pub record WritesHere {C : Type 0} (does : C → Event → C → Type 0) (frame : Frame) (old new : InFlight C) : Type 0 where
  pub stands : Stands old.stage
  pub sent : does old.connection (Sent frame) new.connection
  pub same : new ≡ record old { connection = new.connection }

-- no connection stands; or it broke while the frame was written
pub data WritesNotHere {C : Type 0} (does : C → Event → C → Type 0) (frame : Frame) (old new : InFlight C)
    : Type 0 where
  StandsNowhere : new ≡ old → WritesNotHere does frame old new
  BrokeHere : Stands old.stage → does old.connection (Cut frame) new.connection
      → new ≡ record old { connection = new.connection; stage = Nowhere } → WritesNotHere does frame old new

-- this frame was read
pub record ReadsHere {C : Type 0} (does : C → Event → C → Type 0) (came : Frame) (old new : InFlight C) : Type 0 where
  pub read : does old.connection (Came came) new.connection
  pub same : new ≡ record old { connection = new.connection }

-- no frame was read
pub record ReadsNotHere {C : Type 0} (does : C → Event → C → Type 0) (old new : InFlight C) : Type 0 where
  pub lost : does old.connection Lost new.connection
  pub same : new ≡ record old { connection = new.connection; stage = Nowhere }

-- ---- of all pairs

module _ (client : ℕ) (name : List ℕ) where
  -- the frame that asks for a profile with these options
  abbrev pub profile_frame : Options → Frame
  profile_frame options = frame_of client name 0 (profile_request options)

  -- a profile with these options was asked for
  pub record AsksPair {C : Type 0} (does : C → Event → C → Type 0) (options : Options) (made : Bool)
      (known : KnownRequests) (facts : List Fact) (old new : InFlight C) : Type 0 where
    pub reply : Reply
    pub verdict : IsVerdict made reply
    pub answers : AnswersHere does known (profile_frame options) reply facts old new

  module _ (options : Options) where
    -- the frame asks for a profile with one of the pairs
    abbrev pub IsOfPair : Frame → Type 0
    IsOfPair frame = (turn : ℕ) × (frame ≡ profile_frame (with_pair turn options))

    -- only profiles with these options, but for the pair, were asked for
    pub record Tries {C : Type 0} (does : C → Event → C → Type 0) (known : KnownRequests) (facts : List Fact)
        (old new : InFlight C) : Type 0 where
      pub goes : Goes does known IsOfPair facts old.connection new.connection
      pub same_waiting : new.waiting.items ≡ old.waiting.items
      pub stands_on : StandsOn known (facts_after facts goes.events) new

    -- the service refused this pair: the number stands for other options
    abbrev pub IsRefusedPair : KnownRequests → List Fact → List Event → ℕ → Type 0
    IsRefusedPair known facts events turn =
        IsAnswered known facts events (profile_frame (with_pair turn options)) (replies.Refused refusals.NumberReused)

    -- the service made a profile with these options
    pub record IsMadePair (known : KnownRequests) (facts : List Fact) (events : List Event) (found : Options)
        : Type 0 where
      pub turn : ℕ
      pub is : found ≡ with_pair turn options
      pub profile : ℕ
      pub made : IsAnswered known facts events (profile_frame found) (replies.Made profile)

    -- the first pairs were asked for on one connection, and refused
    pub record Refuses {C : Type 0} (does : C → Event → C → Type 0) (turns : ℕ) (known : KnownRequests)
        (facts : List Fact) (old new : InFlight C) : Type 0 where
      pub tries : Tries does known facts old new
      pub here : AllByRecursion IsHere tries.goes.events
      pub refused : (turn : ℕ) → turn < turns → IsRefusedPair known facts tries.goes.events turn

    -- on the connection that stands, the service made a profile with the options that were found; or it refused all six
    -- pairs
    pub record Finds {C : Type 0} (does : C → Event → C → Type 0) (found : Option Options) (known : KnownRequests)
        (facts : List Fact) (old new : InFlight C) : Type 0 where
      pub tries : Tries does known facts old new
      pub here : AllByRecursion IsHere tries.goes.events
      pub found_is : MatchOption found ((turn : ℕ) → turn < 6 → IsRefusedPair known facts tries.goes.events turn)
          (IsMadePair known facts tries.goes.events)
