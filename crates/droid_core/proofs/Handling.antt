-- How a service that stands for a history stands for the next one.
use Rattle.std.proofs.Common.{◌≡◌, ◌≢◌, Bool, true, false, [], ◌∷◌, ◌++◌, Some, None, IsTrue, refl, sym, ap, subst, ◌∙◌}
use Rattle.std.specs.Prelude.{MatchBool, IsSome, ⊤}
use Rattle.droid_frame.specs.declared.frame.Frame.{Frame}
use Rattle.droid_frame.specs.declared.refusal.Refusal.{Refusal}
use Rattle.droid_frame.specs.declared.refusal.Refusal.TheVariants.{Malformed, Store}
use Rattle.droid_frame.specs.declared.reply.Reply.{Reply}
use Rattle.droid_frame.specs.declared.reply.Reply.TheVariants.{Refused}
use Rattle.droid_frame.specs.declared.request.Request.{Request}
use Rattle.droid_frame.specs.Replies.{HasReplySpelling, SpellsReply}
use Rattle.droid_core_spec.specs.Histories.{History, IsLegal, IsNext, New, command, kept, world_of, entry_of, history_with, verdict_reply, Handles}
use Rattle.droid_core_spec.specs.Judging.{Verdict, Accepted, Answered, Refuses, judge}
use Rattle.droid_core_spec.specs.Setting.{Setting}
use Rattle.droid_core_spec.specs.MemoryFaults.{is_out_of_memory, is_out_of_memory_of}
use Rattle.droid_core_spec.specs.World.{World}
use Rattle.droid_core_spec.proofs.Asked.{asked_in_a_version}
use Rattle.droid_core_spec.proofs.Legal.{world_next, GoesOn-push}
use Rattle.droid_core_spec.proofs.Meetings.{answer_malformed, next_malformed, answer_kept, next_kept, answer_new, next_new}
use Rattle.droid_core_spec.proofs.Replied.{answer_no_store}
use Rattle.droid_core.proofs.Replying.{kept_one_more}
use Rattle.droid_store.specs.declared.rows.Entry as rows
use Rattle.droid_store.specs.Rows.{Rows, reply_for}
use Rattle.droid_core.specs.declared.holdings.Holdings.{Holdings}
use Rattle.droid_core.specs.declared.stamps.Stamp.{Stamp}
use Rattle.droid_core.specs.Changes.{again, stamp_of, Stays, TakesOne, Leaves, Comes}
use Rattle.droid_core.specs.Standing.{Stand}
use Rattle.droid_core.specs.HoldingsStanding.{IsIn}
use Rattle.droid_core.proofs.KeptReplies.{entry_kept, none_kept, reply_spelled}

-- ---- what a service stands for after a request

-- the same rows stand for the same history
pub stands_still : (setting : Setting) (service : Holdings) (store : Rows) (history : History) → store ≡ service.store → Stand setting service history → Stand setting (record service { store = store }) history
stands_still setting service store history same stands = subst (λ (rows : Rows). Stand setting (record service { store = rows }) history) (sym same) stands

same_stands : (setting : Setting) (old new : Holdings) (history : History) → Stays setting (world_of setting history) old new → Stand setting old history → Stand setting new history
same_stands setting old new history same stands = record {
  legal = stands.legal;
  replies = record { replies = same.replies ∙ stands.replies.replies; spelled = stands.replies.spelled };
  world = same.world_is;
}

-- one entry more, with the world that its verdict leaves
taken_stands : (setting : Setting) (old new : Holdings) (history : History) (frame : Frame) (request : Request) (reply : Reply) (after : World) → command frame ≡ Some request → kept history frame.client frame.number ≡ None
    → judge setting (world_of setting history) frame.version request ≡ Accepted reply after → HasReplySpelling frame.version reply → TakesOne setting after old new (stamp_of frame) reply → Stand setting old history
    → Stand setting new (history ++ entry_of frame reply ∷ [])
taken_stands setting old new history frame request reply after asked is_new accepted spelled takes stands =
    let entry = entry_of frame reply in
    let may : IsNext setting history entry = record { is_new = is_new; marked = refl; request = request; asked = asked; after = after; accepted = accepted } in
    record {
      legal = GoesOn-push setting [] history entry stands.legal may;
      replies = kept_one_more history entry old.store new.store stands.replies takes.replies (record { version = asked_in_a_version frame request asked; reply = spelled });
      world = subst (λ (there : World). IsIn setting there new) (sym (world_next setting history entry may)) takes.world_is;
    }

leaves_next : (setting : Setting) (old new : Holdings) (history : History) (frame : Frame) (request : Request) (verdict : Verdict) → command frame ≡ Some request → kept history frame.client frame.number ≡ None
    → judge setting (world_of setting history) frame.version request ≡ verdict → HasReplySpelling frame.version (verdict_reply verdict) → Leaves setting (world_of setting history) old new (stamp_of frame) verdict → Stand setting old history
    → Stand setting new (history_with history frame (New verdict))
leaves_next setting old new history frame request (Accepted reply after) asked is_new judged spelled leaves stands = taken_stands setting old new history frame request reply after asked is_new judged spelled leaves stands
leaves_next setting old new history frame request (Answered reply) asked is_new judged spelled leaves stands = same_stands setting old new history leaves stands
leaves_next setting old new history frame request (Refuses refusal) asked is_new judged spelled leaves stands = same_stands setting old new history leaves stands

-- ---- the ways to handle a request

some_is_some : (frame : Frame) (request : Request) → command frame ≡ Some request → IsSome (command frame)
some_is_some frame request asked = rw asked refl

pub handles_malformed : (setting : Setting) (history : History) (frame : Frame) (Stands : History → Type 0) → command frame ≡ None → Stands history → Handles setting history frame (Refused Malformed) Stands
handles_malformed setting history frame Stands malformed stands =
    (sym (answer_malformed setting history frame malformed), subst Stands (sym (next_malformed setting history frame malformed)) stands)

out_of_memory : (b : Bool) (P Q : Type 0) → b ≡ true → P → MatchBool b P Q
out_of_memory true P Q is it = it
out_of_memory false P Q is it = absurd cc

-- memory ran out, and nothing is changed
pub handles_memory_fault : (setting : Setting) (service : Holdings) (history : History) (frame : Frame) (refusal : Refusal) → IsSome (command frame) → IsTrue (is_out_of_memory_of refusal) → Stand setting service history
    → Handles setting history frame (Refused refusal) (Stand setting service)
handles_memory_fault setting service history frame refusal asked failure stands = out_of_memory (is_out_of_memory_of refusal) _ _ failure (asked, stands)

-- that the database refused for another cause than memory is never the answer
pub never_store : (setting : Setting) (history : History) (frame : Frame) (reply : Reply) (Stands : History → Type 0) → IsLegal setting history → Handles setting history frame reply Stands → reply ≢ Refused Store
never_store setting history frame reply Stands legal handled same =
    let answered = subst (λ (r : Reply). Handles setting history frame r Stands) same handled in
    answer_no_store setting history frame legal (sym answered.0)

-- running out of memory, or else what follows from an answer
unless_out_of_memory : (b : Bool) {P Q R : Type 0} → MatchBool b ⊤ P → Q → (P → R) → MatchBool b Q R
unless_out_of_memory true is out_of_memory answered = out_of_memory
unless_out_of_memory false is out_of_memory answered = answered is

-- what a kept row answers is the answer, and the history stays
pub handles_again : (setting : Setting) (service : Holdings) (history : History) (frame : Frame) (request : Request) (row : rows.Entry) (reply : Reply) → command frame ≡ Some request
    → reply_for frame.client frame.number service.store ≡ Some row → ((kept : Reply) → SpellsReply row.version row.kind row.body kept → MatchBool (is_out_of_memory reply) ⊤ (reply ≡ again row (stamp_of frame) kept))
    → Stand setting service history → Handles setting history frame reply (Stand setting service)
handles_again setting service history frame request row reply asked found answers stands =
    let there = entry_kept history service.store frame.client frame.number row stands.replies found in
    let spelled = reply_spelled history frame.client frame.number there.0 stands.replies.spelled there.1 in
    let is = answers there.0.reply (subst (λ (r : rows.Entry). SpellsReply r.version r.kind r.body there.0.reply) there.2 (record { version_is = spelled.version; kind_is = refl; body_is = refl; has_spelling = spelled.reply })) in
    let answer_is = answer_kept setting history frame request asked there.0 there.1 in
    let next_is = next_kept setting history frame request asked there.0 there.1 in
    unless_out_of_memory (is_out_of_memory reply) is (some_is_some frame request asked, stands)
    (λ same. (same ∙ (ap (λ (r : rows.Entry). again r (stamp_of frame) there.0.reply) (sym there.2) ∙ sym answer_is), subst (Stand setting service) (sym next_is) stands))

by_memory_fault : (b : Bool) {P Q R S T U : Type 0} → MatchBool b P (Q × R) → (P → S) → (Q → T) → (Q → R → U) → MatchBool b S (T × U)
by_memory_fault true came out_of_memory answered left = out_of_memory came
by_memory_fault false came out_of_memory answered left = (answered came.0, left came.0 came.1)

-- what its verdict says, under a new number
pub handles_anew : (setting : Setting) (old new : Holdings) (history : History) (frame : Frame) (request : Request) (reply : Reply) → command frame ≡ Some request → Stand setting old history
    → reply_for frame.client frame.number old.store ≡ None → HasReplySpelling frame.version reply → Comes setting (world_of setting history) old new (stamp_of frame) (judge setting (world_of setting history) frame.version request) reply
    → Handles setting history frame reply (Stand setting new)
handles_anew setting old new history frame request reply asked stands absent spelled comes =
    let is_new = none_kept history old.store frame.client frame.number stands.replies absent in
    let verdict = judge setting (world_of setting history) frame.version request in
    let answer_is = answer_new setting history frame request asked is_new in
    let next_is = next_new setting history frame request asked is_new in
    by_memory_fault (is_out_of_memory reply) comes
    (λ same. (some_is_some frame request asked, same_stands setting old new history same stands))
    (λ is. is ∙ sym answer_is)
    (λ is leaves. subst (Stand setting new) (sym next_is) (leaves_next setting old new history frame request verdict asked is_new refl (subst (HasReplySpelling frame.version) is spelled) leaves stands))

-- ---- the same, as the code has them

pub answers_again : (setting : Setting) (service : Holdings) (history : History) (frame : Frame) (request : Request) (stamp : Stamp) (row : rows.Entry) (reply : Reply) → stamp ≡ stamp_of frame → command frame ≡ Some request
    → reply_for stamp.client stamp.number service.store ≡ Some row → ((kept : Reply) → SpellsReply row.version row.kind row.body kept → MatchBool (is_out_of_memory reply) ⊤ (reply ≡ again row stamp kept))
    → Stand setting service history → Handles setting history frame reply (Stand setting service)
answers_again setting service history frame request stamp row reply is asked found answers stands =
    handles_again setting service history frame request row reply asked
    (subst (λ (s : Stamp). reply_for s.client s.number service.store ≡ Some row) is found)
    (subst (λ (s : Stamp). (kept : Reply) → SpellsReply row.version row.kind row.body kept → MatchBool (is_out_of_memory reply) ⊤ (reply ≡ again row s kept)) is answers) stands

pub answers_anew : (setting : Setting) (old new : Holdings) (history : History) (frame : Frame) (request : Request) (stamp : Stamp) (reply : Reply) → stamp ≡ stamp_of frame → command frame ≡ Some request → Stand setting old history
    → reply_for stamp.client stamp.number old.store ≡ None → HasReplySpelling stamp.version reply → Comes setting (world_of setting history) old new stamp (judge setting (world_of setting history) stamp.version request) reply
    → Handles setting history frame reply (Stand setting new)
answers_anew setting old new history frame request stamp reply is asked stands absent spelled comes =
    handles_anew setting old new history frame request reply asked stands
    (subst (λ (s : Stamp). reply_for s.client s.number old.store ≡ None) is absent)
    (subst (λ (s : Stamp). HasReplySpelling s.version reply) is spelled)
    (subst (λ (s : Stamp). Comes setting (world_of setting history) old new s (judge setting (world_of setting history) s.version request) reply) is comes)
