-- Records whose requests are whole have one history, whichever files may lack their bytes.
use Rattle.std.proofs.Common.{◌≡◌, ℕ, List, [], ◌∷◌, ◌++◌, sym, ap, subst, ◌∙◌, inl, inr}
use Rattle.droid_journal.specs.Records.{Record}
use Rattle.droid_recovery.proofs.KeptFrames.{FrameForm, Whole, Piece, Finish, frame_is, form_of}
use Rattle.droid_core_spec.proofs.Meetings.{next_kept, next_new}
use Rattle.droid_frame.proofs.FrameLaws.{reported_frame}
use Rattle.droid_recovery.specs.BareRecords.{HaveHistory, IsAfter, MayBeKept}
use Rattle.droid_core_spec.specs.Histories.{Entry, History, IsNext, New, history_from, history_with, next}
use Rattle.droid_core_spec.specs.Judging.{Verdict}
use Rattle.droid_core_spec.specs.Setting.{Setting}
use Rattle.droid_frame.specs.declared.frame.Frame.{Frame}
use Rattle.droid_recovery.specs.BareWorlds.{Bare}
use Rattle.droid_wire.proofs.HistoryLaws.{bare_kind}
use Rattle.droid_wire.specs.Histories.{AreOf, IsHistoryOf, IsOf}

module _ (setting : Setting) (bare : Bare) where
  next_is : (history : History) (entry : Entry) → (may : IsNext setting history entry) → next setting history entry.frame ≡ history ++ entry ∷ []
  next_is history entry may =
      next_new setting history entry.frame may.request may.asked may.is_new ∙ ap (λ (verdict : Verdict). history_with history entry.frame (New verdict)) may.accepted
      ∙ ap (λ (mark : List ℕ). history ++ record { frame = entry.frame; mark = mark; reply = entry.reply } ∷ []) (sym may.marked)

  module _ (history : History) (it : Record) (frame : Frame) (is : IsOf setting history it frame) where
    by_form : (entry : Entry) (kept : MayBeKept setting history entry) → FrameForm bare entry kept.may.request frame → next setting history frame ≡ history ++ entry ∷ []
    by_form entry kept (Whole none same) = ap (λ (f : Frame). next setting history f) same ∙ next_is history entry kept.may
    by_form entry kept (Piece profile file index bytes asked is_bare same) = absurd (bare_kind frame.kind (inl (ap (λ (f : Frame). f.kind) same)) is.command)
    by_form entry kept (Finish profile file asked is_bare same) = absurd (bare_kind frame.kind (inr (ap (λ (f : Frame). f.kind) same)) is.command)

    one_after : (after : History) → IsAfter setting bare history it after → after ≡ next setting history frame
    one_after after (inl came) =
        came.2 ∙ sym (by_form came.0 came.1.kept (form_of bare came.0 frame came.1.kept.may.request (frame_is setting bare history came.0 came.1.kept frame it.request is.readable came.1.request is.request)))
    one_after after (inr again) =
        let same : again.1.frame ≡ frame = (reported_frame again.1.frame frame [] [] again.1.readable.is_frame is.readable.is_frame (ap (λ (t : List ℕ). t ++ []) (sym again.1.request ∙ is.request))).0 in
        again.2 ∙ sym (ap (λ (f : Frame). next setting history f) (sym same) ∙ next_kept setting history again.1.frame again.1.again.request again.1.again.asked again.0 again.1.again.there)

  one_behind : (before : History) (its : List Record) (frames : List Frame) (all : History) → AreOf setting before its frames → HaveHistory setting bare before its all → all ≡ history_from setting before frames
  one_behind before [] [] all are have = have
  one_behind before [] (frame ∷ frames) all are have = absurd are
  one_behind before (it ∷ its) [] all are have = absurd are
  one_behind before (it ∷ its) (frame ∷ frames) all are have =
      one_behind (next setting before frame) its frames all are.1 (subst (λ (h : History). HaveHistory setting bare h its all) (one_after before it frame are.0 have.0 have.1) have.2)

  pub one_whole : (records : List Record) (history other : History) → IsHistoryOf setting records history → HaveHistory setting bare [] records other → other ≡ history
  one_whole records history other its have = one_behind [] records its.frames other its.are have ∙ sym its.history_is
