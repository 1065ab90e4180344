-- The history of a journal's records (this project's own).
use Rattle.std.proofs.Common.{inl, refl}
use Rattle.std.specs.Prelude.{◌≡◌, ◌⊎◌, if◌then◌else◌, nat_lt, Bool, true, false, List, [], ◌∷◌, ◌++◌, None}
use Rattle.droid_frame.specs.Frames.{frame_bytes}
use Rattle.droid_frame.specs.Replies.{HasReplySpelling, is_refused}
use Rattle.droid_frame.specs.ReplyFrames.{reply_frame}
use Rattle.droid_frame.specs.Streams.{IsReadable}
use Rattle.droid_frame.specs.declared.frame.Frame.{Frame}
use Rattle.droid_frame.specs.declared.reply.Reply.{Reply}
use Rattle.droid_core_spec.specs.Histories.{Handles, History, HasReply, answer, history_from, kept, next}
use Rattle.droid_core_spec.specs.Setting.{Setting}
use Rattle.droid_core.specs.Standing.{StandsFor}
use Rattle.droid_core.specs.declared.service.Service.{Service}
use Rattle.droid_recovery.specs.BareWorlds.{Bare}
use Rattle.droid_journal.specs.Fronts.{IsFront}
use Rattle.droid_journal.specs.Records.{Record}
use Rattle.droid_recovery.specs.BareRecords.{LeadTo}

-- The record has the frames of this request and of its answer after the history. The request is a command that was
-- accepted, or, in a journal of version 3, one that came again.
pub record IsOf (setting : Setting) (history : History) (it : Record) (frame : Frame) : Type 0 where
  pub readable : IsReadable frame
  pub request : it.request ≡ frame_bytes frame
  pub reply : it.reply ≡ reply_frame frame.version frame.client frame.number (answer setting history frame)
  pub command : nat_lt frame.kind 7 ≡ true
  pub unrefused : is_refused (answer setting history frame) ≡ false
  pub spelled : HasReplySpelling frame.version (answer setting history frame)

-- so have the records those of these requests, in order
abbrev pub AreOf : Setting → History → List Record → List Frame → Type 0
AreOf setting history [] [] = Unit {0}
AreOf setting history [] (frame ∷ frames) = ⊥
AreOf setting history (it ∷ its) [] = ⊥
AreOf setting history (it ∷ its) (frame ∷ frames) =
    IsOf setting history it frame × AreOf setting (next setting history frame) its frames

-- The history of the records behind another: that of their requests, in order. A request that came again adds nothing
-- to it.
pub record IsHistoryFrom (setting : Setting) (before : History) (records : List Record) (history : History)
    : Type 0 where
  pub frames : List Frame
  pub are : AreOf setting before records frames
  pub history_is : history ≡ history_from setting before frames

-- the history of the records of a journal that was never made small
abbrev pub IsHistoryOf : Setting → List Record → History → Type 0
IsHistoryOf setting records history = IsHistoryFrom setting [] records history

-- ---- a journal that was made small

-- the record's request is the piece or the Finish of a file whose bytes were left out
pub record IsBare (it : Record) : Type 0 where
  pub frame : Frame
  pub readable : IsReadable frame
  pub request : it.request ≡ frame_bytes frame
  pub kind : (frame.kind ≡ 68) ⊎ (frame.kind ≡ 69)

-- that of one of these is
abbrev pub HasBare : List Record → Type 0
HasBare [] = ⊥
HasBare (it ∷ its) = IsBare it ⊎ HasBare its

-- ---- what a service has behind it

-- What a journal had when a service was made of it: nothing that is not in its requests, or records of a journal that
-- was made small, with this history.
pub record Base (setting : Setting) : Type 0 where
  pub first : List Record
  pub history : History
  pub came : ((first ≡ []) × (history ≡ [])) ⊎ ((bare : Bare) × LeadTo setting bare first history × HasBare first)

-- nothing
abbrev pub no_base : (setting : Setting) → Base setting
no_base setting = record { first = []; history = []; came = inl (refl, refl) }

-- the records begin with those of the base, and those behind it have the history behind that of the base
pub record IsHistoryBehind (setting : Setting) (base : Base setting) (records : List Record) (history : History)
    : Type 0 where
  pub rest : List Record
  pub parts : records ≡ base.first ++ rest
  pub behind : IsHistoryFrom setting base.history rest history

-- the service stands for the history of the records
pub record StandsForRecords (setting : Setting) (base : Base setting) (service : Service) (records : List Record)
    : Type 0 where
  pub history : History
  pub its : IsHistoryBehind setting base records history
  pub stands : StandsFor setting service history

-- a setting, and what a service has behind it in it
pub record Start : Type 0 where
  pub setting : Setting
  pub base : Base setting

-- the history after a request that goes into the journal or not
abbrev pub history_then : Setting → History → Frame → Bool → History
history_then setting history frame accepted = if accepted then next setting history frame else history

-- After the history of these records the request may get this reply. If it does not go into the journal, the history
-- stays as it is; so an accepted command that is new goes into it, and nothing but commands that are not refused.
pub record GivesReply (setting : Setting) (base : Base setting) (records : List Record) (frame : Frame) (reply : Reply)
    (accepted : Bool) : Type 0 where
  pub history : History
  pub its : IsHistoryBehind setting base records history
  pub readable : IsReadable frame
  pub spelled : HasReplySpelling frame.version reply
  pub handled : Handles setting history frame reply (λ after. after ≡ history_then setting history frame accepted)
  pub answered : accepted ≡ true → reply ≡ answer setting history frame
  pub command : accepted ≡ true → nat_lt frame.kind 7 ≡ true
  pub unrefused : accepted ≡ true → is_refused reply ≡ false

-- The same of a service that serves: whatever goes into the journal is new, so a request that came again never does.
pub record GivesNew (setting : Setting) (base : Base setting) (records : List Record) (frame : Frame) (reply : Reply)
    (accepted : Bool) : Type 0 where
  pub gives : GivesReply setting base records frame reply accepted
  pub is_new : accepted ≡ true → kept gives.history frame.client frame.number ≡ None

-- The history goes on from one and is the first of another: nothing of the one is lost, nothing was put in, and all is
-- in order. Each reply that the one keeps it keeps too.
pub record IsBetween (before history all : History) : Type 0 where
  pub since : IsFront before history
  pub within : IsFront history all
  pub replies : (frame : Frame) (reply : Reply) → HasReply before frame reply → HasReply history frame reply
