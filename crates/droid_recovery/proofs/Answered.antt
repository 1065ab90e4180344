-- What the machine gives and stands for after one frame more.
use Rattle.std.proofs.Common.{◌≡◌, inl, inr, ℕ, Bool, true, false, not, List, [], ◌∷◌, ◌++◌, refl, sym, ap, subst, ◌∙◌}
use Rattle.std.specs.Prelude.{MatchBool}
use Rattle.droid_frame.specs.Frames.{frame_bytes}
use Rattle.droid_frame.specs.ReplyFrames.{reply_frame}
use Rattle.droid_frame.specs.Streams.{IsReadable}
use Rattle.droid_frame.specs.declared.frame.Frame.{Frame}
use Rattle.droid_frame.specs.declared.reply.Reply.{Reply}
use Rattle.droid_frame.proofs.FrameLaws.{reported_frame}
use Rattle.droid_core_spec.proofs.Judged.{judged_as}
use Rattle.droid_core_spec.specs.Histories.{Entry, History, world_of}
use Rattle.droid_core_spec.specs.Judging.{Accepted}
use Rattle.droid_core_spec.specs.MemoryFaults.{is_out_of_memory}
use Rattle.droid_frame.specs.Replies.{is_refused}
use Rattle.droid_core_spec.proofs.Replied.{kept_unrefused}
use Rattle.droid_recovery.specs.FoundWords.{FindsWords}
use Rattle.droid_recovery.specs.Recovering.{Recovers}
use Rattle.droid_core.specs.declared.holdings.Holdings.{Holdings}
use Rattle.droid_journal.specs.Machines.{extended, record_of}
use Rattle.droid_journal.specs.Records.{Record}
use Rattle.droid_recovery.proofs.Histories.{parts}
use Rattle.droid_recovery.proofs.KeptFrames.{frame_is, shown_as}
use Rattle.droid_recovery.proofs.Takings.{contrary, refused_memory}
use Rattle.droid_recovery.specs.BareRecords.{CameAgain, HaveHistory, IsAfter, IsRecordOf, IsRepeat, MayBeKept, kept_frame}
use Rattle.droid_recovery.specs.Standing.{GivesReply, Recovery}
use Rattle.droid_recovery.specs.RecordTaking.{Takes}

not_true : (b : Bool) → not b ≡ true → b ≡ false
not_true true is = absurd cc
not_true false is = refl

not_false : (b : Bool) → not b ≡ false → b ≡ true
not_false true is = refl
not_false false is = absurd cc

no_memory_by : (reply : Reply) (b : Bool) → is_out_of_memory reply ≡ b → is_refused reply ≡ false → is_out_of_memory reply ≡ false
no_memory_by reply true is isnt = absurd (contrary (is_refused reply) (refused_memory reply is) isnt)
no_memory_by reply false is isnt = is

module _ (recovery : Recovery) (old new : Holdings) (frame : Frame) (reply : Reply) (accepted : Bool) (readable : IsReadable frame) (words : FindsWords recovery.setting) (takes : Takes frame old new reply) (accepted_is : accepted ≡ not (is_refused reply)) where
  abbrev Stood : Holdings → List Record → Type 0
  Stood holdings records = (history : History) → HaveHistory recovery.setting recovery.bare [] records history → Recovers recovery.setting recovery.bare holdings history

  -- ---- a new entry

  the_frame : (history : History) (it : Record) (entry : Entry) (is : IsRecordOf recovery.setting recovery.bare history it entry) → it.request ≡ frame_bytes frame → frame ≡ kept_frame recovery.bare is.kept.may.request entry.frame entry.reply
  the_frame history it entry is bytes = frame_is recovery.setting recovery.bare history entry is.kept frame it.request readable is.request bytes

  came : (history : History) (it : Record) (entry : Entry) → Recovers recovery.setting recovery.bare old history → IsRecordOf recovery.setting recovery.bare history it entry → it.request ≡ frame_bytes frame → is_out_of_memory reply ≡ false
      → (reply ≡ entry.reply) × Recovers recovery.setting recovery.bare new (history ++ entry ∷ [])
  came history it entry was is bytes isnt = takes.gives recovery.setting recovery.bare history entry words was is.kept (the_frame history it entry is bytes) isnt

  unrefused : (history : History) (entry : Entry) → MayBeKept recovery.setting history entry → is_refused entry.reply ≡ false
  unrefused history entry kept =
      (judged_as recovery.setting (world_of recovery.setting history) entry.frame.version kept.may.request (Accepted entry.reply kept.may.after) kept.may.accepted).no_refusal

  -- the record has the frame of its entry's reply
  reply_as : (history : History) (it : Record) (entry : Entry) → IsRecordOf recovery.setting recovery.bare history it entry → it.request ≡ frame_bytes frame → reply ≡ entry.reply → it.reply ≡ reply_frame frame.version frame.client frame.number reply
  reply_as history it entry is bytes reported =
      let header = shown_as recovery.setting recovery.bare history entry is.kept frame (the_frame history it entry is bytes) in
      is.reply ∙ rw (header.0, header.1, header.2, reported) refl

  -- ---- one that came again

  came_again : (history : History) (it : Record) (entry : Entry) (is : IsRepeat history it entry) → it.request ≡ frame_bytes frame → is.frame ≡ frame
  came_again history it entry is bytes =
      (reported_frame is.frame frame [] [] is.readable.is_frame readable.is_frame (ap (λ (t : List ℕ). t ++ []) (sym is.request ∙ bytes))).0

  again_here : (history : History) (it : Record) (entry : Entry) (is : IsRepeat history it entry) → it.request ≡ frame_bytes frame → CameAgain history frame entry
  again_here history it entry is bytes = subst (λ (f : Frame). CameAgain history f entry) (came_again history it entry is bytes) is.again

  reply_again : (history : History) (it : Record) (entry : Entry) (is : IsRepeat history it entry) → it.request ≡ frame_bytes frame → reply ≡ entry.reply → it.reply ≡ reply_frame frame.version frame.client frame.number reply
  reply_again history it entry is bytes reported =
      is.reply
      ∙ ap (λ (f : Frame). reply_frame f.version f.client f.number entry.reply) (came_again history it entry is bytes)
      ∙ ap (λ (r : Reply). reply_frame frame.version frame.client frame.number r) (sym reported)

  -- ---- what is given

  accepted_as : (its : Reply) → reply ≡ its → is_refused its ≡ false → accepted ≡ true
  accepted_as its reported isnt = accepted_is ∙ ap (λ (r : Reply). not (is_refused r)) reported ∙ ap not isnt

  gives_by : (b : Bool) → is_out_of_memory reply ≡ b → (history after : History) (it : Record) → Recovers recovery.setting recovery.bare old history → IsAfter recovery.setting recovery.bare history it after
      → it.request ≡ frame_bytes frame → MatchBool b (accepted ≡ false) ((it.reply ≡ reply_frame frame.version frame.client frame.number reply) × (accepted ≡ true))
  gives_by true out history after it was is bytes = accepted_is ∙ ap not (refused_memory reply out)
  gives_by false out history after it was (inl is) bytes =
      let reported = (came history it is.0 was is.1 bytes out).0 in
      (reply_as history it is.0 is.1 bytes reported, accepted_as is.0.reply reported (unrefused history is.0 is.1.kept))
  gives_by false out history after it was (inr is) bytes =
      let here = again_here history it is.0 is.1 bytes in
      let reported = (takes.again recovery.setting recovery.bare history is.0 was here).0 out in
      (reply_again history it is.0 is.1 bytes reported, accepted_as is.0.reply reported (kept_unrefused recovery.setting history frame.client frame.number is.0 was.legal here.there))

  pub gives : (records : List Record) → Stood old records → GivesReply recovery records frame reply accepted
  gives records stood history after it have is bytes = gives_by (is_out_of_memory reply) refl history after it (stood history have) is bytes

  -- ---- what the machine stands for

  stands_with : (history all : History) (it : Record) → Recovers recovery.setting recovery.bare old history → IsAfter recovery.setting recovery.bare history it all → it.request ≡ frame_bytes frame → is_out_of_memory reply ≡ false
      → Recovers recovery.setting recovery.bare new all
  stands_with history all it was (inl is) bytes isnt = subst (Recovers recovery.setting recovery.bare new) (sym is.2) (came history it is.0 was is.1 bytes isnt).1
  stands_with history all it was (inr is) bytes isnt =
      subst (Recovers recovery.setting recovery.bare new) (sym is.2) (takes.again recovery.setting recovery.bare history is.0 was (again_here history it is.0 is.1 bytes)).1

  stands_by : (b : Bool) → accepted ≡ b → (records : List Record) (first : Bool) → Stood old records → Stood new (extended records first frame reply b)
  stands_by true is records first stood all have =
      let split = parts recovery.setting recovery.bare [] records (record_of first frame reply) all have in
      let isnt = no_memory_by reply (is_out_of_memory reply) refl (not_true (is_refused reply) (sym accepted_is ∙ is)) in
      stands_with split.history all (record_of first frame reply) (stood split.history split.first) split.last refl isnt
  stands_by false is records first stood history have =
      takes.still recovery.setting recovery.bare history (stood history have) (not_false (is_refused reply) (sym accepted_is ∙ is))

  pub stands : (records : List Record) (first : Bool) → Stood old records → Stood new (extended records first frame reply accepted)
  stands records first stood = stands_by accepted refl records first stood
