-- The records of a journal that was made small, and their history (this project's own).
use Rattle.std.specs.Prelude.{◌≡◌, ◌⊎◌, ℕ, if◌then◌else◌, true, List, [], ◌∷◌, ◌++◌, Some}
use Rattle.droid_frame.specs.Frames.{frame_bytes}
use Rattle.droid_frame.specs.Replies.{HasReplySpelling}
use Rattle.droid_frame.specs.ReplyFrames.{reply_frame}
use Rattle.droid_frame.specs.Streams.{IsReadable}
use Rattle.droid_frame.specs.declared.frame.Frame.{Frame}
use Rattle.droid_frame.specs.declared.reply.Reply.{Reply}
use Rattle.droid_frame.specs.declared.request.Request.{Request}
use Rattle.droid_frame.specs.declared.request.Request.TheVariants.{Piece, Finish}
use Rattle.droid_recovery.specs.BareWorlds.{Bare}
use Rattle.droid_recovery.specs.Ending.{IsEnded}
use Rattle.droid_core_spec.specs.Histories.{Entry, History, IsNext, command, is_request_of, kept, world_of}
use Rattle.droid_core_spec.specs.Setting.{Setting}
use Rattle.droid_compaction.specs.BareFrames.{bare_finish, bare_piece}
use Rattle.droid_journal.specs.Records.{Record}

-- The frame that such a journal has of an accepted request and its reply: that of the request, or a bare one for a
-- piece or the Finish of a bare file.
abbrev pub kept_frame : Bare → Request → Frame → Reply → Frame
kept_frame bare (Piece profile file index bytes) frame reply =
    if bare profile file then bare_piece frame reply else frame
kept_frame bare (Finish profile file) frame reply = if bare profile file then bare_finish frame reply else frame
kept_frame bare _ frame reply = frame

-- the entry may come next, and a journal can have it: a stream can carry its frame, and its reply has a spelling
pub record MayBeKept (setting : Setting) (history : History) (entry : Entry) : Type 0 where
  pub may : IsNext setting history entry
  pub readable : IsReadable entry.frame
  pub spelled : HasReplySpelling entry.frame.version entry.reply

-- the record is that of the entry
pub record IsRecordOf (setting : Setting) (bare : Bare) (history : History) (it : Record) (entry : Entry) : Type 0 where
  pub kept : MayBeKept setting history entry
  pub request : it.request ≡ frame_bytes (kept_frame bare kept.may.request entry.frame entry.reply)
  pub reply : it.reply ≡ reply_frame entry.frame.version entry.frame.client entry.frame.number entry.reply

-- the frame is that of the entry's request, which came again
pub record CameAgain (history : History) (frame : Frame) (entry : Entry) : Type 0 where
  pub request : Request
  pub asked : command frame ≡ Some request
  pub there : kept history frame.client frame.number ≡ Some entry
  pub same : is_request_of entry frame ≡ true

-- the record is of a request that came again when its reply was no longer cached
pub record IsRepeat (history : History) (it : Record) (entry : Entry) : Type 0 where
  pub frame : Frame
  pub readable : IsReadable frame
  pub again : CameAgain history frame entry
  pub request : it.request ≡ frame_bytes frame
  pub reply : it.reply ≡ reply_frame frame.version frame.client frame.number entry.reply

-- the history after the record: with its entry, or as it was if the request came again
abbrev pub IsAfter : Setting → Bare → History → Record → History → Type 0
IsAfter setting bare before it after =
    ((entry : Entry) × IsRecordOf setting bare before it entry × (after ≡ before ++ entry ∷ []))
    ⊎ ((entry : Entry) × IsRepeat before it entry × (after ≡ before))

-- behind this history, the records lead to that one
abbrev pub HaveHistory : Setting → Bare → History → List Record → History → Type 0
HaveHistory setting bare before [] all = all ≡ before
HaveHistory setting bare before (it ∷ its) all =
    (after : History) × IsAfter setting bare before it after × HaveHistory setting bare after its all

-- The records have this history, without the bytes of these files, each of which has ended in it: so a service that is
-- made of them stands for it. No history can be computed from such records, as they have a mark in the place of a
-- piece.
pub record LeadTo (setting : Setting) (bare : Bare) (records : List Record) (history : History) : Type 0 where
  pub have : HaveHistory setting bare [] records history
  pub ended : (profile file : ℕ) → bare profile file ≡ true → IsEnded (world_of setting history) profile file
