-- Holdings that were recovered for a history are so for one entry more.
use Rattle.std.proofs.Common.{◌≡◌, inl, inr, ℕ, ◌<◌, ◌^◌, nat_lt, [], ◌∷◌, ◌++◌, Bool, true, false, cond, Option, Some, None, option_map, refl, sym, ap, subst, ◌∙◌}
use Rattle.std.proofs.lemmas.Bool.{cases_Bool, ltb-true}
use Rattle.std.specs.Prelude.{MatchBool}
use Rattle.droid_frame.specs.Replies.{HasReplySpelling, is_refused}
use Rattle.droid_frame.specs.RequestValues.{request_in, request_value}
use Rattle.droid_frame.specs.declared.frame.Frame.{Frame}
use Rattle.droid_frame.specs.declared.reply.Reply.{Reply}
use Rattle.droid_frame.specs.declared.request.Request.{Request}
use Rattle.droid_recovery.proofs.BareVerdicts.{command_so}
use Rattle.droid_recovery.specs.BareWorlds.{Bare, bare_world, bare_verdict}
use Rattle.droid_recovery.specs.Recovering.{IsWhole, Recovers}
use Rattle.droid_core.specs.Answering.{Answers}
use Rattle.droid_core_spec.proofs.Asked.{asked_in_a_version}
use Rattle.droid_core_spec.proofs.Legal.{GoesOn-push, world_next}
use Rattle.droid_core_spec.specs.Histories.{Entry, History, IsNext, command, kept, verdict_reply, world_of}
use Rattle.droid_core_spec.specs.MemoryFaults.{is_out_of_memory}
use Rattle.droid_core_spec.specs.Judging.{Verdict, Accepted, Answered, Refuses, judge}
use Rattle.droid_core_spec.specs.Verdicts.{MayCome, is_command}
use Rattle.droid_core_spec.proofs.Judged.{judged, judged_as}
use Rattle.droid_core_spec.specs.Setting.{Setting}
use Rattle.droid_core_spec.specs.World.{World}
use Rattle.droid_core.proofs.LookUps.{reply_found}
use Rattle.droid_core.proofs.Replying.{kept_one_more}
use Rattle.droid_core.specs.Changes.{Comes, Leaves, Stays, stamp_of, stamped}
use Rattle.droid_core.specs.Replies.{KeepsReplies, entry_row}
use Rattle.droid_core.specs.HoldingsStanding.{IsIn}
use Rattle.droid_core.specs.declared.holdings.Holdings.{Holdings}
use Rattle.droid_core.specs.declared.stamps.Stamp.{Stamp}
use Rattle.droid_store.specs.Rows.{Rows, reply_for}

-- ---- the entry's number

where_it_holds : (b : Bool) (value : Option Request) (request : Request) → cond b value None ≡ Some request → b ≡ true
where_it_holds true value request is = refl
where_it_holds false value request is = absurd cc

pub small_number : (frame : Frame) (request : Request) → command frame ≡ Some request → frame.number < 2 ^ 63
unfolding command request_in
small_number frame request is = ltb-true frame.number (2 ^ 63) (where_it_holds (nat_lt frame.number (2 ^ 63)) (request_value frame.version frame.kind frame.body) request is)

pub none_there : (history : History) (rows : Rows) (client number : ℕ) → KeepsReplies history rows → kept history client number ≡ None → reply_for client number rows ≡ None
none_there history rows client number keeps is = reply_found history rows client number keeps ∙ ap (option_map entry_row) is

-- the same of a stamp
module _ (setting : Setting) (history : History) (entry : Entry) (may : IsNext setting history entry) (stamp : Stamp) (is : stamp ≡ stamp_of entry.frame) where
  pub stamp_small : stamp.number < 2 ^ 63
  stamp_small = rw is (small_number entry.frame may.request may.asked)

  pub stamp_new : (rows : Rows) → KeepsReplies history rows → reply_for stamp.client stamp.number rows ≡ None
  stamp_new rows keeps = rw is (none_there history rows entry.frame.client entry.frame.number keeps may.is_new)

  pub row_is : stamped stamp entry.reply ≡ entry_row entry
  row_is = rw (is, may.marked) refl

-- ---- one entry more

pub goes_on : (setting : Setting) (bare : Bare) (old new : Holdings) (history : History) (entry : Entry) (may : IsNext setting history entry) → Recovers setting bare old history
    → new.store.replies ≡ old.store.replies ++ entry_row entry ∷ [] → HasReplySpelling entry.frame.version entry.reply → IsIn setting (bare_world bare may.after) new
    → Recovers setting bare new (history ++ entry ∷ [])
goes_on setting bare old new history entry may was one spelled is = record {
  legal = GoesOn-push setting [] history entry was.legal may;
  replies = kept_one_more history entry old.store new.store was.replies one (record { version = asked_in_a_version entry.frame may.request may.asked; reply = spelled });
  world = subst (λ (there : World). IsIn setting (bare_world bare there) new) (sym (world_next setting history entry may)) is;
}

-- the same replies and the same world
pub stays_so : (setting : Setting) (bare : Bare) (old new : Holdings) (history : History) → Recovers setting bare old history → Stays setting (bare_world bare (world_of setting history)) old new → Recovers setting bare new history
stays_so setting bare old new history was stays = record {
  legal = was.legal;
  replies = record { replies = stays.replies ∙ was.replies.replies; spelled = was.replies.spelled };
  world = stays.world_is;
}

-- a command that was judged without the bytes
by_memory : (b : Bool) {P Q R S T : Type 0} → MatchBool b P (Q × R) → (P → S) → (Q → R → T) → MatchBool b S T
by_memory true came out_of_memory answered = out_of_memory came
by_memory false came out_of_memory answered = answered came.0 came.1

pub judged_on : (setting : Setting) (bare : Bare) (old new : Holdings) (history : History) (entry : Entry) (may : IsNext setting history entry) (stamp : Stamp) (reply : Reply) → stamp ≡ stamp_of entry.frame
    → Recovers setting bare old history → judge setting (bare_world bare (world_of setting history)) entry.frame.version may.request ≡ Accepted entry.reply (bare_world bare may.after)
    → HasReplySpelling entry.frame.version reply
    → Comes setting (bare_world bare (world_of setting history)) old new stamp (judge setting (bare_world bare (world_of setting history)) stamp.version may.request) reply
    → MatchBool (is_out_of_memory reply) (Recovers setting bare new history) ((reply ≡ entry.reply) × Recovers setting bare new (history ++ entry ∷ []))
judged_on setting bare old new history entry may stamp reply is was judged spelled comes =
    let version : stamp.version ≡ entry.frame.version = ap (λ (s : Stamp). s.version) is in
    let verdict = ap (λ v. judge setting (bare_world bare (world_of setting history)) v may.request) version ∙ judged in
    let came = subst (λ v. Comes setting (bare_world bare (world_of setting history)) old new stamp v reply) verdict comes in
    by_memory (is_out_of_memory reply) came
    (stays_so setting bare old new history was)
    (λ replied takes. (
      replied,
      goes_on setting bare old new history entry may was
          (takes.replies ∙ ap (λ row. old.store.replies ++ row ∷ []) (row_is setting history entry may stamp is))
          (subst (HasReplySpelling entry.frame.version) replied spelled) takes.world_is,
    ))

-- ---- a refusal

contrary : (b : Bool) → b ≡ true → b ≡ false → ⊥
contrary b is isnt = cc

by_verdict : (setting : Setting) (world : World) (old new : Holdings) (stamp : Stamp) (request : Request) (verdict : Verdict) (reply : Reply) → MayCome world request verdict → is_refused reply ≡ true → reply ≡ verdict_reply verdict
    → Leaves setting world old new stamp verdict → Stays setting world old new
by_verdict setting world old new stamp request (Accepted its after) reply may refused same_reply leaves = absurd (contrary (is_refused its) (ap (λ (r : Reply). is_refused r) (sym same_reply) ∙ refused) may.no_refusal)
by_verdict setting world old new stamp request (Answered its) reply may refused same_reply leaves = leaves
by_verdict setting world old new stamp request (Refuses refusal) reply may refused same_reply leaves = leaves

either_stays : (b : Bool) {P Q R : Type 0} → MatchBool b P (Q × R) → (Q → R → P) → P
either_stays true came stays = came
either_stays false came stays = stays came.0 came.1

pub refused_still : (setting : Setting) (bare : Bare) (old new : Holdings) (history : History) (stamp : Stamp) (version : ℕ) (request : Request) (reply : Reply) → Recovers setting bare old history → is_refused reply ≡ true
    → Comes setting (bare_world bare (world_of setting history)) old new stamp (judge setting (bare_world bare (world_of setting history)) version request) reply → Recovers setting bare new history
refused_still setting bare old new history stamp version request reply was refused comes =
    let world = bare_world bare (world_of setting history) in
    stays_so setting bare old new history was
    (either_stays (is_out_of_memory reply) comes (λ same_reply leaves. by_verdict setting world old new stamp request (judge setting world version request) reply (judged setting world version request) refused same_reply leaves))

-- ---- a command that needs no bytes, as the code has it

pub whole_on : (setting : Setting) (bare : Bare) (old new : Holdings) (history : History) (entry : Entry) (stamp : Stamp) (request : Request) (reply : Reply) (is : IsWhole setting bare history entry stamp) → is.may.request ≡ request
    → Recovers setting bare old history → HasReplySpelling stamp.version reply → (is_command request ≡ true → Answers (λ setting world. judge setting world stamp.version request) stamp old new reply)
    → MatchBool (is_out_of_memory reply) (Recovers setting bare new history) ((reply ≡ entry.reply) × Recovers setting bare new (history ++ entry ∷ []))
whole_on setting bare old new history entry stamp request reply is asked was spelled answers =
    let may = is.may in
    let world = world_of setting history in
    let command = (judged_as setting world entry.frame.version may.request (Accepted entry.reply may.after) may.accepted).command in
    let judged_there = command_so setting bare world entry.frame.version may.request command is.needs_none ∙ ap (bare_verdict bare) may.accepted in
    let comes = (answers (ap (λ (r : Request). is_command r) (sym asked) ∙ command)).comes setting (bare_world bare world) was.world in
    judged_on setting bare old new history entry may stamp reply is.stamped was judged_there
    (subst (λ (s : Stamp). HasReplySpelling s.version reply) is.stamped spelled)
    (subst (λ (r : Request). Comes setting (bare_world bare world) old new stamp (judge setting (bare_world bare world) stamp.version r) reply) (sym asked) comes)

pub still_on : (setting : Setting) (bare : Bare) (old new : Holdings) (history : History) (stamp : Stamp) (request : Request) (reply : Reply) → Recovers setting bare old history → is_refused reply ≡ true
    → (is_command request ≡ true → Answers (λ setting world. judge setting world stamp.version request) stamp old new reply) → (is_command request ≡ false → new ≡ old) → Recovers setting bare new history
still_on setting bare old new history stamp request reply was refused answers query = elim (cases_Bool (is_command request)) [
  | inl command ↦ refused_still setting bare old new history stamp stamp.version request reply was refused ((answers command).comes setting (bare_world bare (world_of setting history)) was.world)
  | inr queries ↦ subst (λ (h : Holdings). Recovers setting bare h history) (sym (query queries)) was
]
