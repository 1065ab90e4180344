-- A service that was made of a small journal goes on: its records, read again, have the history that it stands for.
use Rattle.std.proofs.Common.{◌≡◌, ℕ, ℤ, nat_lt, if◌then◌else◌, cond, Bool, true, false, List, [], ◌∷◌, ◌++◌, Option, Some, None, refl, sym, ap, subst, ◌∙◌, inl, inr}
use Rattle.std.proofs.lemmas.Bool.{false≢true}
use Rattle.droid_frame.specs.Frames.{frame_bytes}
use Rattle.droid_frame.specs.Replies.{HasReplySpelling, is_refused}
use Rattle.droid_frame.specs.ReplyFrames.{reply_frame}
use Rattle.droid_frame.specs.declared.frame.Frame.{Frame}
use Rattle.droid_frame.specs.declared.refusal.Refusal.{Refusal}
use Rattle.droid_frame.specs.declared.refusal.Refusal.TheVariants.{NumberReused}
use Rattle.droid_frame.specs.declared.reply.Reply.{Reply}
use Rattle.droid_frame.specs.declared.reply.Reply.TheVariants.{Refused}
use Rattle.droid_frame.specs.declared.request.Request.{Request}
use Rattle.droid_frame.specs.declared.request.Request.TheVariants.{Piece, Finish}
use Rattle.droid_core_spec.proofs.Judged.{judged_as}
use Rattle.droid_core_spec.proofs.Meetings.{answer_kept, answer_malformed, answer_new, next_kept, next_new}
use Rattle.droid_core_spec.specs.Histories.{Entry, History, New, answer, command, entry_of, history_from, history_with, is_request_of, kept, next, verdict_reply, world_of}
use Rattle.droid_core_spec.specs.Judging.{Accepted, Answered, Refuses, Verdict, finish_checks, in_file, in_profile, judge, judge_finish, judge_piece, piece_checks, refusal_of, unless_refused}
use Rattle.droid_core_spec.specs.Setting.{Setting}
use Rattle.droid_core_spec.specs.Verdicts.{is_command}
use Rattle.droid_core_spec.specs.World.{Abandoned, Content, File, Folder, Node, Profile, World, node_at, numbered, unless_abandoned}
use Rattle.droid_recovery.proofs.EndedFiles.{stays_ended}
use Rattle.droid_recovery.specs.BareWorlds.{Bare}
use Rattle.droid_recovery.specs.Ending.{IsEnded, has_ended}
use Rattle.droid_journal.specs.Fronts.{IsFront}
use Rattle.droid_journal.specs.Records.{Record}
use Rattle.droid_recovery.specs.BareRecords.{HaveHistory, IsAfter, LeadTo, kept_frame}
use Rattle.droid_wire.specs.Histories.{AreOf, Base, HasBare, IsBetween, IsHistoryBehind, IsHistoryOf, IsOf, no_base}
use Rattle.droid_wire.proofs.Accepting.{contrary, kind_asked}
use Rattle.droid_wire.proofs.HistoryLaws.{as_behind_nothing, as_history, bare_front, between, some_history}

-- ---- no piece and no Finish of a file that has ended is accepted

first_refuses : (b : Bool) (refusal : Refusal) (more : Option Refusal) (verdict : Verdict) (reply : Reply) (after : World) → b ≡ true → unless_refused (if b then Some refusal else more) verdict ≡ Accepted reply after → ⊥
first_refuses true refusal more verdict reply after is accepted = absurd cc
first_refuses false refusal more verdict reply after is accepted = absurd cc

module _ (world : World) (profile file : ℕ) (ended : IsEnded world profile file) (judged : Profile → ℕ → ℤ → List ℕ → Content → Verdict) (reply : Reply) (after : World)
    (refuses : (its : Profile) (parent : ℕ) (modified : ℤ) (name : List ℕ) (content : Content) → content.finished ≡ true → judged its parent modified name content ≡ Accepted reply after → ⊥) where
  by_node : (its : Profile) (node : Node) → has_ended node ≡ true → in_file (unless_abandoned (Some node)) (judged its) ≡ Accepted reply after → ⊥
  by_node its (Folder parent modified name) is accepted = absurd cc
  by_node its (File parent modified name content) is accepted = refuses its parent modified name content is accepted
  by_node its Abandoned is accepted = absurd cc

  by_found : (found : Option Node) (its : Profile) → found ≡ Some ended.node → in_file (unless_abandoned found) (judged its) ≡ Accepted reply after → ⊥
  by_found found its is accepted = by_node its ended.node ended.ended (subst (λ (o : Option Node). in_file (unless_abandoned o) (judged its) ≡ Accepted reply after) is accepted)

  by_profile : (found : Option Profile) → found ≡ Some ended.its → in_profile found (λ its. in_file (node_at its.nodes file) (judged its)) ≡ Accepted reply after → ⊥
  by_profile found is accepted =
      by_found (numbered ended.its.nodes file) ended.its ended.at (subst (λ (o : Option Profile). in_profile o (λ its. in_file (node_at its.nodes file) (judged its)) ≡ Accepted reply after) is accepted)

  never : in_profile (numbered world.profiles profile) (λ its. in_file (node_at its.nodes file) (judged its)) ≡ Accepted reply after → ⊥
  never accepted = by_profile (numbered world.profiles profile) ended.there accepted

no_piece : (setting : Setting) (world : World) (version profile file index : ℕ) (bytes : List ℕ) (reply : Reply) (after : World) → IsEnded world profile file → judge setting world version (Piece profile file index bytes) ≡ Accepted reply after → ⊥
unfolding judge judge_piece
no_piece setting world version profile file index bytes reply after ended accepted =
    never world profile file ended (λ its parent modified name content. unless_refused (refusal_of (piece_checks content index bytes)) _) reply after (λ its parent modified name content finished. first_refuses content.finished _ _ _ reply after finished) accepted

no_finish : (setting : Setting) (world : World) (version profile file : ℕ) (reply : Reply) (after : World) → IsEnded world profile file → judge setting world version (Finish profile file) ≡ Accepted reply after → ⊥
unfolding judge judge_finish
no_finish setting world version profile file reply after ended accepted =
    never world profile file ended (λ its parent modified name content. unless_refused (refusal_of (finish_checks version its.hash content)) _) reply after (λ its parent modified name content finished. first_refuses content.finished _ _ _ reply after finished) accepted

whole_if : (b : Bool) (x y : Frame) → (b ≡ true → ⊥) → (if b then x else y) ≡ y
whole_if true x y isnt = absurd (isnt refl)
whole_if false x y isnt = refl

-- ---- one record more

refused_is : (reply : Reply) (refusal : Refusal) → reply ≡ Refused refusal → is_refused reply ≡ false → ⊥
refused_is reply refusal is isnt = contrary (is_refused reply) (ap (λ (r : Reply). is_refused r) is) isnt

module _ (setting : Setting) (bare : Bare) (history : History) (it : Record) (frame : Frame) (ended : (profile file : ℕ) → bare profile file ≡ true → IsEnded (world_of setting history) profile file) (is : IsOf setting history it frame) where
  abbrev After : Type 0
  After = IsAfter setting bare history it (next setting history frame)

  -- the frame is whole
  whole : (request : Request) (reply : Reply) (after : World) → judge setting (world_of setting history) frame.version request ≡ Accepted reply after → kept_frame bare request frame reply ≡ frame
  whole (Piece profile file index bytes) reply after accepted =
      whole_if (bare profile file) _ frame (λ is_bare. no_piece setting (world_of setting history) frame.version profile file index bytes reply after (ended profile file is_bare) accepted)
  whole (Finish profile file) reply after accepted =
      whole_if (bare profile file) _ frame (λ is_bare. no_finish setting (world_of setting history) frame.version profile file reply after (ended profile file is_bare) accepted)
  whole _ reply after accepted = refl

  by_verdict : (request : Request) (verdict : Verdict) → command frame ≡ Some request → kept history frame.client frame.number ≡ None → judge setting (world_of setting history) frame.version request ≡ verdict
      → answer setting history frame ≡ verdict_reply verdict → next setting history frame ≡ history_with history frame (New verdict) → After
  by_verdict request (Accepted reply after) asked is_new accepted reported after_is =
      inl (
        entry_of frame reply,
        record {
          kept = record {
            may = record { is_new = is_new; marked = refl; request = request; asked = asked; after = after; accepted = accepted };
            readable = is.readable;
            spelled = subst (λ (r : Reply). HasReplySpelling frame.version r) reported is.spelled;
          };
          request = is.request ∙ ap frame_bytes (sym (whole request reply after accepted));
          reply = is.reply ∙ ap (λ (r : Reply). reply_frame frame.version frame.client frame.number r) reported;
        },
        after_is,
      )
  by_verdict request (Answered reply) asked is_new answered reported after_is =
      let query : is_command request ≡ false = (judged_as setting (world_of setting history) frame.version request (Answered reply) answered).query in
      let commands : is_command request ≡ true = ap (λ (kind : ℕ). nat_lt kind 7) (sym (kind_asked frame request is.readable.is_frame.body_is_bytes asked)) ∙ is.command in
      absurd (contrary (is_command request) commands query)
  by_verdict request (Refuses refusal) asked is_new refused reported after_is = absurd (refused_is (answer setting history frame) refusal reported is.unrefused)

  by_mark : (request : Request) (entry : Entry) (same : Bool) → command frame ≡ Some request → kept history frame.client frame.number ≡ Some entry → is_request_of entry frame ≡ same → answer setting history frame ≡ cond same entry.reply (Refused NumberReused) → After
  by_mark request entry true asked there same reported =
      inr (
        entry,
        record {
          frame = frame;
          readable = is.readable;
          again = record { request = request; asked = asked; there = there; same = same };
          request = is.request;
          reply = is.reply ∙ ap (λ (r : Reply). reply_frame frame.version frame.client frame.number r) reported;
        },
        next_kept setting history frame request asked entry there,
      )
  by_mark request entry false asked there same reported = absurd (refused_is (answer setting history frame) NumberReused reported is.unrefused)

  by_kept : (request : Request) (o : Option Entry) → command frame ≡ Some request → kept history frame.client frame.number ≡ o → After
  by_kept request None asked is_new =
      by_verdict request (judge setting (world_of setting history) frame.version request) asked is_new refl (answer_new setting history frame request asked is_new) (next_new setting history frame request asked is_new)
  by_kept request (Some entry) asked there = by_mark request entry (is_request_of entry frame) asked there refl (answer_kept setting history frame request asked entry there)

  by_command : (o : Option Request) → command frame ≡ o → After
  by_command None nothing = absurd (refused_is (answer setting history frame) _ (answer_malformed setting history frame nothing) is.unrefused)
  by_command (Some request) asked = by_kept request (kept history frame.client frame.number) asked refl

  pub comes_after : After
  comes_after = by_command (command frame) refl

module _ (setting : Setting) (bare : Bare) where
  ended_after : (history : History) (it : Record) (after : History) (profile file : ℕ) → IsAfter setting bare history it after → IsEnded (world_of setting history) profile file → IsEnded (world_of setting after) profile file
  ended_after history it after profile file (inl came) ended =
      subst (λ (h : History). IsEnded (world_of setting h) profile file) (sym came.2) (stays_ended setting history (came.0 ∷ []) profile file (came.1.kept.may, tt) ended)
  ended_after history it after profile file (inr again) ended = subst (λ (h : History). IsEnded (world_of setting h) profile file) (sym again.2) ended

  -- ---- all records behind

  abbrev Ended : History → Type 0
  Ended history = (profile file : ℕ) → bare profile file ≡ true → IsEnded (world_of setting history) profile file

  records_behind : (history : History) (its : List Record) (frames : List Frame) → Ended history → AreOf setting history its frames → HaveHistory setting bare history its (history_from setting history frames) × Ended (history_from setting history frames)
  records_behind history [] [] ended are = (refl, ended)
  records_behind history [] (frame ∷ frames) ended are = absurd are
  records_behind history (it ∷ its) [] ended are = absurd are
  records_behind history (it ∷ its) (frame ∷ frames) ended are =
      let one = comes_after setting bare history it frame ended are.0 in
      let more = records_behind (next setting history frame) its frames (λ profile file is_bare. ended_after history it (next setting history frame) profile file one (ended profile file is_bare)) are.1 in
      ((next setting history frame, one, more.0), more.1)

  have_append : (before : History) (xs ys : List Record) (middle all : History) → HaveHistory setting bare before xs middle → HaveHistory setting bare middle ys all → HaveHistory setting bare before (xs ++ ys) all
  have_append before [] ys middle all a b = subst (λ (h : History). HaveHistory setting bare h ys all) a b
  have_append before (x ∷ xs) ys middle all a b = (a.0, a.1, have_append a.0 xs ys middle all a.2 b)

  -- the records of a service with such records behind it have its history
  pub still_lead : (base : Base setting) (records : List Record) (history : History) → LeadTo setting bare base.first base.history → IsHistoryBehind setting base records history → LeadTo setting bare records history
  still_lead base records history small its =
      let more = records_behind base.history its.rest its.behind.frames small.ended its.behind.are in
      let same : history_from setting base.history its.behind.frames ≡ history = sym its.behind.history_is in
      let have : HaveHistory setting bare base.history its.rest history = subst (λ (h : History). HaveHistory setting bare base.history its.rest h) same more.0 in
      record {
        have = subst (λ (l : List Record). HaveHistory setting bare [] l history) (sym its.parts) (have_append [] base.first its.rest base.history history small.have have);
        ended = subst Ended same more.1;
      }

  -- what is found after a crash
  pub record Found (its : List Record) (synced all : History) : Type 0 where
    pub history : History
    pub small : LeadTo setting bare its history
    pub some : HasBare its
    pub between : IsBetween synced history all

  pub found_small : (base : Base setting) (first its written : List Record) (synced all : History) → LeadTo setting bare base.first base.history → HasBare base.first → IsFront first its → IsFront its written
      → IsHistoryBehind setting base first synced → IsHistoryBehind setting base written all → Found its synced all
  found_small base first its written synced all small some one other on_disk accepted =
      let found = some_history setting base first its written synced all one other on_disk accepted in
      record {
        history = found.0;
        small = still_lead base its found.0 small found.1;
        some = bare_front first its one (bare_front base.first first (on_disk.rest, on_disk.parts) some);
        between = between setting base first its written synced found.0 all one other on_disk found.1 accepted;
      }

-- those of a journal that was never made small
pub whole_lead : (setting : Setting) (records : List Record) (history : History) → IsHistoryOf setting records history → LeadTo setting (λ profile file. false) records history
whole_lead setting records history its =
    still_lead setting (λ profile file. false) (no_base setting) records history (record { have = refl; ended = λ profile file is. absurd (false≢true is) }) (record { rest = records; parts = refl; behind = its })

-- those of any service
pub each_leads : (setting : Setting) (base : Base setting) (records : List Record) (history : History) → IsHistoryBehind setting base records history → (bare : Bare) × LeadTo setting bare records history
each_leads setting base records history its =
    elim base.came [
      | inl none ↦ ((λ profile file. false), whole_lead setting records history (as_history setting records history (as_behind_nothing setting base records history none.0 none.1 its)))
      | inr small ↦ (small.0, still_lead setting small.0 base records history small.1 its)
    ]
