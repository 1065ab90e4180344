-- How a file ends that was read, in whole or in part.
use Rattle.std.proofs.Common.{◌≡◌, inl, ℕ, true, false, List, [], ◌∷◌, ◌++◌, refl, ap, ◌∙◌, append_assoc, append-nil}
use Rattle.droid_frame.specs.declared.hash_value.HashValue.{HashValue}
use Rattle.droid_frame.specs.declared.hash_value.HashValue.TheVariants as values
use Rattle.droid_frame.specs.declared.method.Method.TheVariants.{Unidentified}
use Rattle.droid_frame.specs.declared.refusal.Refusal.TheVariants as refusals
use Rattle.droid_frame.specs.declared.reply.Reply.{Reply}
use Rattle.droid_frame.specs.declared.reply.Reply.TheVariants as replies
use Rattle.droid_frame.specs.declared.request.Request.TheVariants.{Finish, Abandon}
use Rattle.droid_tree.specs.Heard.{Left}
use Rattle.droid_tree.specs.declared.skip_reason.Skipped.{Skipped}
use Rattle.droid_tree.specs.declared.skip_reason.Skipped.TheVariants as reasons
use Rattle.droid_upload.specs.Calls.{Answered, Failed}
use Rattle.droid_upload.specs.Deeds.{Deed, Called, Informed}
use Rattle.droid_upload.specs.Faults.{IsAfterCall, IsAfterRead, fault_of_reply, is_finished, is_left}
use Rattle.droid_upload.specs.FileOutcomes.{changed_deeds, heard_of_end, uploaded_of_end}
use Rattle.droid_upload.specs.Fronts.{AreJust, AsksInVain, EndsEarly}
use Rattle.droid_upload.specs.Steps.{AbandonedBy, AbandonedOther, AreChanged, AreDropping, AreFinishing, Drops, EndsAfter, FinishedBy, FinishedOther, Finishes, IsBehind, Leaves}
use Rattle.droid_upload.specs.declared.client_fault.ClientFault.TheVariants as client_faults
use Rattle.droid_upload.specs.declared.submission_fault.SubmissionFault.{SubmissionFault}
use Rattle.droid_upload.specs.declared.submission_fault.SubmissionFault.TheVariants as faults
use Rattle.droid_upload.specs.declared.upload.Upload.{Upload}
use Rattle.droid_upload.specs.declared.upload.Uploaded.{Uploaded}
use Rattle.droid_upload.specs.declared.upload.Uploaded.TheVariants as uploadeds
use Rattle.droid_upload.proofs.Behind.{answer_alone, answer_behind, behind_ends, vain_alone, vain_behind}
use Rattle.droid_upload.proofs.Early.{just_ends, over_more, over_one}

-- some reply that finishes a file
abbrev pub some_finished : Reply
some_finished = replies.Finished Unidentified false values.Nothing []

module _ (profile number : ℕ) (path : List ℕ) {T C W : Type 0} (does : Upload T C W → Deed → Upload T C W → Type 0) where
  abbrev finish_failed : Deed
  finish_failed = Called (Failed 0 (Finish profile number) (client_faults.Piece refusals.NumberReused))

  abbrev abandon_failed : Deed
  abandon_failed = Called (Failed 0 (Abandon profile number) (client_faults.Piece refusals.NumberReused))

  abbrev left_reused : Deed
  left_reused = Informed (Left path (reasons.Refused refusals.NumberReused))

  -- ---- leave_changed

  pub leave_in_vain : (fault : SubmissionFault) (old new : Upload T C W) → AsksInVain does 0 (Abandon profile number) fault old new → EndsAfter does IsAfterCall (AreChanged profile number path) fault old new
  leave_in_vain fault old new vain = λ first before after over.
      vain_behind does (AreChanged profile number path) before 0 (Abandon profile number) replies.Abandoned (left_reused ∷ []) fault first old new over vain (λ reused. after) (replies.Abandoned, refl, refl)

  pub leave_refused : (fault : SubmissionFault) (reply : Reply) (old new : Upload T C W) → does old (Called (Answered 0 (Abandon profile number) reply)) new → is_left reply ≡ false → fault ≡ fault_of_reply reply
      → EndsAfter does IsAfterCall (AreChanged profile number path) fault old new
  leave_refused fault reply old new called ends is = λ first before after over.
      answer_behind does (AreChanged profile number path) before 0 (Abandon profile number) replies.Abandoned (left_reused ∷ []) fault first old new reply over called ends (λ again. absurd cc) is (replies.Abandoned, refl, refl)

  -- ---- finish

  pub finish_in_vain : (fault : SubmissionFault) (old new : Upload T C W) → AsksInVain does 0 (Finish profile number) fault old new → (fault ≡ faults.Refused refusals.NumberReused → ⊥) → (expected : Reply)
      → EndsAfter does IsAfterRead (AreJust (Called (Answered 0 (Finish profile number) expected) ∷ [])) fault old new
  finish_in_vain fault old new vain other expected = λ first before after over.
      vain_behind does (AreJust (Called (Answered 0 (Finish profile number) expected) ∷ [])) before 0 (Finish profile number) expected [] fault first old new over vain (λ reused. absurd (other reused)) refl

  pub finish_refused : (fault : SubmissionFault) (reply : Reply) (old new : Upload T C W) → does old (Called (Answered 0 (Finish profile number) reply)) new → is_finished reply ≡ false → fault ≡ fault_of_reply reply → (expected : Reply)
      → EndsAfter does IsAfterRead (AreJust (Called (Answered 0 (Finish profile number) expected) ∷ [])) fault old new
  finish_refused fault reply old new called ends is expected = λ first before after over.
      answer_behind does (AreJust (Called (Answered 0 (Finish profile number) expected) ∷ [])) before 0 (Finish profile number) expected [] fault first old new reply over called ends (λ again. inl after) is refl

  -- ---- finish_file

  pub unfinished : (read : HashValue) (fault : SubmissionFault) (old new : Upload T C W) → ((expected : Reply) → EndsAfter does IsAfterRead (AreJust (Called (Answered 0 (Finish profile number) expected) ∷ [])) fault old new)
      → EndsAfter does IsAfterRead (AreFinishing profile number path read) fault old new
  unfinished read fault old new ends = λ first before after over.
      behind_ends does (AreJust (Called (Answered 0 (Finish profile number) some_finished) ∷ [])) (IsBehind before (AreFinishing profile number path read)) before fault first new (ends some_finished first before after over)
      (λ tail is.
      let rest : List Deed = Informed (heard_of_end path read some_finished) ∷ [] in
      (rest, (Called (Answered 0 (Finish profile number) some_finished) ∷ rest, (FinishedBy some_finished, refl, refl), ap (λ (l : List Deed). before ++ (l ++ rest)) is)))

  pub unleft : (read : HashValue) (fault : SubmissionFault) (old middle new : Upload T C W) → does old finish_failed middle → EndsAfter does IsAfterCall (AreChanged profile number path) fault middle new
      → EndsAfter does IsAfterRead (AreFinishing profile number path read) fault old new
  unleft read fault old middle new failed ends = λ first before after over.
      let call = Failed 0 (Finish profile number) (client_faults.Piece refusals.NumberReused) in
      behind_ends does (AreChanged profile number path) (IsBehind before (AreFinishing profile number path read)) (before ++ finish_failed ∷ []) fault first new
      (ends first (before ++ finish_failed ∷ []) (before, call, refl) (over_more does first old middle before (finish_failed ∷ []) over (over_one does old middle finish_failed failed)))
      (λ tail are.
      ([], (finish_failed ∷ changed_deeds profile number path are.0, (FinishedOther are.0, are.1, refl), ap (λ (l : List Deed). (before ++ finish_failed ∷ []) ++ l) (append-nil tail ∙ are.2) ∙ append_assoc before (finish_failed ∷ []) (changed_deeds profile number path are.0))))

  pub file_finished : (read : HashValue) (found : Reply) (uploaded : Uploaded) (old middle new : Upload T C W) → is_finished found ≡ true → does old (Called (Answered 0 (Finish profile number) found)) middle
      → does middle (Informed (heard_of_end path read found)) new → uploaded ≡ uploaded_of_end number true read found → Finishes profile number path does read uploaded old new
  file_finished read found uploaded old middle new finished called informed is =
      record { finishing = FinishedBy found; may_finish = finished; happened = (middle, called, (new, informed, refl)); uploaded_is = is }

  pub file_changed : (read : HashValue) (uploaded : Uploaded) (old middle new : Upload T C W) → does old finish_failed middle → Leaves profile number path does uploaded middle new → Finishes profile number path does read uploaded old new
  file_changed read uploaded old middle new failed leaves =
      record { finishing = FinishedOther leaves.left; may_finish = leaves.may_leave; happened = (middle, failed, leaves.happened); uploaded_is = leaves.uploaded_is }

  -- ---- drop_file

  pub undropped : (why : Skipped) (fault : SubmissionFault) (old new : Upload T C W) → ((expected : Reply) → EndsEarly does (AreJust (Called (Answered 0 (Abandon profile number) expected) ∷ [])) fault old new)
      → EndsEarly does (AreDropping profile number path why) fault old new
  undropped why fault old new ends =
      just_ends does (AreDropping profile number path why) fault (Called (Answered 0 (Abandon profile number) replies.Abandoned) ∷ []) (Informed (Left path why) ∷ []) old new (ends replies.Abandoned)
      (AbandonedBy replies.Abandoned, refl, refl)

  pub undropped_changed : (why : Skipped) (fault : SubmissionFault) (old middle new : Upload T C W) → does old abandon_failed middle → EndsAfter does IsAfterCall (AreChanged profile number path) fault middle new
      → EndsEarly does (AreDropping profile number path why) fault old new
  undropped_changed why fault old middle new failed ends =
      let call = Failed 0 (Abandon profile number) (client_faults.Piece refusals.NumberReused) in
      behind_ends does (AreChanged profile number path) (AreDropping profile number path why) (abandon_failed ∷ []) fault old new
      (ends old (abandon_failed ∷ []) ([], call, refl) (over_one does old middle abandon_failed failed))
      (λ tail are. ([], (AbandonedOther are.0, are.1, ap (λ (l : List Deed). abandon_failed ∷ l) (append-nil tail ∙ are.2))))

  pub file_dropped : (why : Skipped) (left : Reply) (old middle new : Upload T C W) → is_left left ≡ true → does old (Called (Answered 0 (Abandon profile number) left)) middle → does middle (Informed (Left path why)) new
      → Drops profile number path does why uploadeds.Skipped old new
  file_dropped why left old middle new may called informed = record { dropping = AbandonedBy left; may_drop = may; happened = (middle, called, (new, informed, refl)); uploaded_is = refl }

  pub file_dropped_changed : (why : Skipped) (uploaded : Uploaded) (old middle new : Upload T C W) → does old abandon_failed middle → Leaves profile number path does uploaded middle new → Drops profile number path does why uploaded old new
  file_dropped_changed why uploaded old middle new failed leaves =
      record { dropping = AbandonedOther leaves.left; may_drop = leaves.may_leave; happened = (middle, failed, leaves.happened); uploaded_is = leaves.uploaded_is }

  -- ---- abandon

  pub abandon_in_vain : (fault : SubmissionFault) (old new : Upload T C W) → AsksInVain does 0 (Abandon profile number) fault old new → (fault ≡ faults.Refused refusals.NumberReused → ⊥) → (expected : Reply)
      → EndsEarly does (AreJust (Called (Answered 0 (Abandon profile number) expected) ∷ [])) fault old new
  abandon_in_vain fault old new vain other expected =
      vain_alone does (AreJust (Called (Answered 0 (Abandon profile number) expected) ∷ [])) 0 (Abandon profile number) expected [] fault old new vain (λ reused. absurd (other reused)) refl

  pub abandon_refused : (fault : SubmissionFault) (reply : Reply) (old new : Upload T C W) → does old (Called (Answered 0 (Abandon profile number) reply)) new → is_left reply ≡ false → fault ≡ fault_of_reply reply → (expected : Reply)
      → EndsEarly does (AreJust (Called (Answered 0 (Abandon profile number) expected) ∷ [])) fault old new
  abandon_refused fault reply old new called ends is expected =
      answer_alone does (AreJust (Called (Answered 0 (Abandon profile number) expected) ∷ [])) 0 (Abandon profile number) expected [] fault old new reply called ends (λ again. absurd cc) is refl
