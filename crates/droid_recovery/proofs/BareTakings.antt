-- What handling a bare frame comes to.
use Rattle.std.proofs.Common.{◌≡◌, ℕ, true, [], ◌∷◌, ◌++◌, sym, subst}
use Rattle.droid_frame.specs.Fields.{IsU32, u32_bytes}
use Rattle.droid_frame.specs.Replies.{HasReplySpelling, SpellsReply, reply_bytes, reply_kind}
use Rattle.droid_frame.specs.Streams.{IsReadable}
use Rattle.droid_frame.specs.declared.frame.Frame.{Frame}
use Rattle.droid_frame.specs.declared.reply.Reply.{Reply}
use Rattle.droid_core_spec.specs.Histories.{Entry, History}
use Rattle.droid_core_spec.specs.MemoryFaults.{is_out_of_memory}
use Rattle.droid_core_spec.specs.Setting.{Setting}
use Rattle.droid_recovery.specs.BareWorlds.{Bare}
use Rattle.droid_core.specs.Changes.{stamp_of}
use Rattle.droid_recovery.specs.FoundWords.{FindsWords}
use Rattle.droid_recovery.specs.Recovering.{IsBareFinish, IsBarePiece, Recovers}
use Rattle.droid_recovery.specs.declared.revival_fault.RecoveryFault.{RecoveryFault}
use Rattle.droid_recovery.specs.declared.revival_fault.RecoveryFault.TheVariants.{Memory}
use Rattle.droid_core.specs.declared.holdings.Holdings.{Holdings}
use Rattle.droid_core.specs.declared.stamps.Stamp.{Stamp}
use Rattle.droid_compaction.specs.BareFrames.{bare_finish, bare_piece}
use Rattle.droid_recovery.proofs.KeptFrames.{finish_is, piece_is}
use Rattle.droid_recovery.proofs.Takings.{IsNextFrame, bare_came, finished_unrefused, kept_takes, taken_unrefused, unchanged_takes}
use Rattle.droid_recovery.specs.RecordTaking.{Takes}

-- ---- a piece

module _ (frame : Frame) (kind : frame.kind ≡ 68) (readable : IsReadable frame) where
  pub piece_unread : (holdings : Holdings) (reply : Reply) (fault : RecoveryFault) → ((its : Frame) (reported : Reply) → frame ≡ bare_piece its reported → SpellsReply its.version 131 (reply_bytes its.version reported) reported → fault ≡ Memory)
      → (fault ≡ Memory → is_out_of_memory reply ≡ true) → HasReplySpelling frame.version reply → Takes frame holdings holdings reply
  piece_unread holdings reply fault its memory spelled =
      unchanged_takes frame holdings reply spelled
      (λ setting bare history entry words was is.
      let here = piece_is setting bare history entry is.0 frame is.1 kind in
      memory (its entry.frame entry.reply here.bare_is here.spelled))
      (λ history entry came. absurd (bare_came frame 4 readable kind history entry came))

  -- it was read
  module _ (old new : Holdings) (stamp : Stamp) (reported : Reply) (its : (its : Frame) (r : Reply) → frame ≡ bare_piece its r → SpellsReply its.version 131 (reply_bytes its.version r) r → (stamp ≡ stamp_of its) × (reported ≡ r)) where
    pub piece_unkept : (reply : Reply) (fault : RecoveryFault) → ((setting : Setting) (bare : Bare) (history : History) (entry : Entry) → Recovers setting bare old history → IsBarePiece setting bare history entry stamp → reported ≡ entry.reply → fault ≡ Memory)
        → new ≡ old → (fault ≡ Memory → is_out_of_memory reply ≡ true) → HasReplySpelling frame.version reply → Takes frame old new reply
    piece_unkept reply fault kept same memory spelled =
        subst (λ (h : Holdings). Takes frame old h reply) (sym same)
        (unchanged_takes frame old reply spelled
        (λ setting bare history entry words was is.
        let here = piece_is setting bare history entry is.0 frame is.1 kind in
        let read = its entry.frame entry.reply here.bare_is here.spelled in
        memory (kept setting bare history entry was (here.here stamp read.0) read.1))
        (λ history entry came. absurd (bare_came frame 4 readable kind history entry came)))

    pub piece_takes : ((setting : Setting) (bare : Bare) (history : History) (entry : Entry) → Recovers setting bare old history → IsBarePiece setting bare history entry stamp → reported ≡ entry.reply → Recovers setting bare new (history ++ entry ∷ []))
        → HasReplySpelling frame.version reported → reply_kind reported ≡ 131 → Takes frame old new reported
    piece_takes recovers spelled taken =
        kept_takes frame old new reported spelled
        (λ setting bare history entry words was is.
        let here = piece_is setting bare history entry is.0 frame is.1 kind in
        let read = its entry.frame entry.reply here.bare_is here.spelled in
        (read.1, recovers setting bare history entry was (here.here stamp read.0) read.1))
        (λ history entry came. bare_came frame 4 readable kind history entry came) (taken_unrefused reported taken)

-- ---- a Finish

module _ (frame : Frame) (kind : frame.kind ≡ 69) (readable : IsReadable frame) where
  pub finish_unread : (holdings : Holdings) (reply : Reply) (fault : RecoveryFault)
      → ((its : Frame) (reported : Reply) (profile file : ℕ) → frame ≡ bare_finish its reported → its.kind ≡ 5 → its.body ≡ u32_bytes profile ++ u32_bytes file → IsU32 profile → IsU32 file → SpellsReply its.version 132 (reply_bytes its.version reported) reported → fault ≡ Memory)
      → (fault ≡ Memory → is_out_of_memory reply ≡ true) → HasReplySpelling frame.version reply → Takes frame holdings holdings reply
  finish_unread holdings reply fault its memory spelled =
      unchanged_takes frame holdings reply spelled
      (λ setting bare history entry words was is.
      let here = finish_is setting bare history entry is.0 frame is.1 kind in
      memory (its entry.frame entry.reply here.profile here.file here.bare_is here.kind_is here.body_is here.numbers.0 here.numbers.1 here.spelled))
      (λ history entry came. absurd (bare_came frame 5 readable kind history entry came))

  -- it was read
  module _ (old new : Holdings) (stamp : Stamp) (number id : ℕ) (reported : Reply)
      (its : (its : Frame) (r : Reply) (profile file : ℕ) → frame ≡ bare_finish its r → its.kind ≡ 5 → its.body ≡ u32_bytes profile ++ u32_bytes file → IsU32 profile → IsU32 file → SpellsReply its.version 132 (reply_bytes its.version r) r
      → (stamp ≡ stamp_of its) × (number ≡ profile) × (id ≡ file) × (reported ≡ r)) where
    -- the entry's numbers are those that were read
    record Read (setting : Setting) (bare : Bare) (history : History) (entry : Entry) : Type 0 where
      here : IsBareFinish setting bare history entry stamp number id
      same : reported ≡ entry.reply

    read_as : (setting : Setting) (bare : Bare) (history : History) (entry : Entry) (profile file : ℕ) → IsBareFinish setting bare history entry stamp profile file → number ≡ profile → id ≡ file → reported ≡ entry.reply → Read setting bare history entry
    read_as setting bare history entry profile file is one other reported_is = record {
      here = subst (λ (n : ℕ). IsBareFinish setting bare history entry stamp n id) (sym one) (subst (λ (n : ℕ). IsBareFinish setting bare history entry stamp profile n) (sym other) is);
      same = reported_is;
    }

    read : (setting : Setting) (bare : Bare) (history : History) (entry : Entry) → FindsWords setting → IsNextFrame frame setting bare history entry → Read setting bare history entry
    read setting bare history entry words is =
        let found = finish_is setting bare history entry is.0 frame is.1 kind in
        let it = its entry.frame entry.reply found.profile found.file found.bare_is found.kind_is found.body_is found.numbers.0 found.numbers.1 found.spelled in
        read_as setting bare history entry found.profile found.file (found.here words stamp it.0) it.1 it.2 it.3

    pub finish_unkept : (reply : Reply) (fault : RecoveryFault) → ((setting : Setting) (bare : Bare) (history : History) (entry : Entry) → Recovers setting bare old history → IsBareFinish setting bare history entry stamp number id → reported ≡ entry.reply → fault ≡ Memory)
        → new ≡ old → (fault ≡ Memory → is_out_of_memory reply ≡ true) → HasReplySpelling frame.version reply → Takes frame old new reply
    finish_unkept reply fault kept same memory spelled =
        subst (λ (h : Holdings). Takes frame old h reply) (sym same)
        (unchanged_takes frame old reply spelled
        (λ setting bare history entry words was is.
        let it = read setting bare history entry words is in
        memory (kept setting bare history entry was it.here it.same))
        (λ history entry came. absurd (bare_came frame 5 readable kind history entry came)))

    pub finish_takes : ((setting : Setting) (bare : Bare) (history : History) (entry : Entry) → Recovers setting bare old history → IsBareFinish setting bare history entry stamp number id → reported ≡ entry.reply → Recovers setting bare new (history ++ entry ∷ []))
        → HasReplySpelling frame.version reported → reply_kind reported ≡ 132 → Takes frame old new reported
    finish_takes recovers spelled finished =
        kept_takes frame old new reported spelled
        (λ setting bare history entry words was is.
        let it = read setting bare history entry words is in
        (it.same, recovers setting bare history entry was it.here it.same))
        (λ history entry came. bare_came frame 5 readable kind history entry came) (finished_unrefused reported finished)
