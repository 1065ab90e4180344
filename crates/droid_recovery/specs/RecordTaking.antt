-- What handling the frame of one record comes to (this project's own).
use Rattle.std.specs.Prelude.{◌≡◌, true, false, [], ◌∷◌, ◌++◌}
use Rattle.droid_frame.specs.Replies.{HasReplySpelling, is_refused}
use Rattle.droid_frame.specs.declared.frame.Frame.{Frame}
use Rattle.droid_frame.specs.declared.reply.Reply.{Reply}
use Rattle.droid_recovery.specs.BareWorlds.{Bare}
use Rattle.droid_recovery.specs.FoundWords.{FindsWords}
use Rattle.droid_recovery.specs.Recovering.{Recovers}
use Rattle.droid_core_spec.specs.Histories.{Entry, History}
use Rattle.droid_core_spec.specs.MemoryFaults.{is_out_of_memory}
use Rattle.droid_core_spec.specs.Setting.{Setting}
use Rattle.droid_core.specs.declared.holdings.Holdings.{Holdings}
use Rattle.droid_recovery.specs.BareRecords.{CameAgain, MayBeKept, kept_frame}

-- If the frame is the one of an entry that may come next, it gets the entry's reply, and the holdings are recovered for
-- one entry more; one that came again gets the entry's reply too. Or memory runs out. After a refusal and after one
-- that came again the holdings are recovered as they were.
pub record Takes (frame : Frame) (old new : Holdings) (reply : Reply) : Type 0 where
  pub gives : (setting : Setting) (bare : Bare) (history : History) (entry : Entry) → FindsWords setting
      → Recovers setting bare old history → (kept : MayBeKept setting history entry)
      → frame ≡ kept_frame bare kept.may.request entry.frame entry.reply → is_out_of_memory reply ≡ false
      → (reply ≡ entry.reply) × Recovers setting bare new (history ++ entry ∷ [])
  pub again : (setting : Setting) (bare : Bare) (history : History) (entry : Entry) → Recovers setting bare old history
      → CameAgain history frame entry
      → (is_out_of_memory reply ≡ false → reply ≡ entry.reply) × Recovers setting bare new history
  pub still : (setting : Setting) (bare : Bare) (history : History) → Recovers setting bare old history
      → is_refused reply ≡ true → Recovers setting bare new history
  pub spelled : HasReplySpelling frame.version reply
