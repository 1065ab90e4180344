-- What is answered in a history: never running out of memory, nothing new after a refusal, and an accepted reply for ever.
use Rattle.std.proofs.Common.{◌≡◌, ◌≢◌, ℕ, ◌==◌, Bool, true, false, cond, List, [], ◌∷◌, ◌++◌, find, Option, Some, None, IsSome, refl, sym, ap, subst, ◌∙◌, append-nil}
use Rattle.std.specs.Option.{option_or}
use Rattle.std.proofs.lemmas.Bool.{and_parts, eq-eqb, eqb-true}
use Rattle.std.proofs.lemmas.List.Folds.{find-append}
use Rattle.std.proofs.lemmas.Slice.Eq.{bytes_eq-Decides}
use Rattle.droid_frame.specs.declared.frame.Frame.{Frame}
use Rattle.droid_frame.specs.declared.refusal.Refusal.{Refusal}
use Rattle.droid_frame.specs.declared.refusal.Refusal.TheVariants.{NumberReused, Memory, Store}
use Rattle.droid_frame.specs.declared.reply.Reply.{Reply}
use Rattle.droid_frame.specs.declared.reply.Reply.TheVariants.{Refused}
use Rattle.droid_frame.specs.declared.request.Request.{Request}
use Rattle.droid_frame.specs.RequestValues.{request_in}
use Rattle.droid_core_spec.specs.Histories.{Entry, History, IsLegal, HasReply, command, frame_mark, is_under, kept, world_of, is_same_request, is_request_of, Meeting, Nothing, Repeat, Reuse, New, meeting, verdict_reply, reply_to, answer, entry_of, history_with, next, history_from}
use Rattle.droid_core_spec.specs.Judging.{Verdict, Accepted, Answered, Refuses, judge}
use Rattle.droid_core_spec.specs.Setting.{Setting}
use Rattle.droid_core_spec.specs.Verdicts.{is_command, is_of_judging, MayCome}
use Rattle.droid_frame.specs.Replies.{is_refused}
use Rattle.droid_core_spec.specs.MemoryFaults.{is_out_of_memory, is_out_of_memory_of}
use Rattle.droid_core_spec.specs.World.{World}
use Rattle.droid_core_spec.proofs.Asked.{asks_something}
use Rattle.droid_core_spec.proofs.Judged.{judged, judged_as}
use Rattle.droid_core_spec.proofs.Legal.{kept_came}
use Rattle.droid_core_spec.proofs.Meetings.{answer_kept, next_kept, answer_new, next_new, whatever_meets}

-- ---- never out of memory

no_memory_fault_of : (refusal : Refusal) → is_of_judging refusal ≡ true → is_out_of_memory_of refusal ≡ false
no_memory_fault_of Memory is = absurd cc
no_memory_fault_of Store is = absurd cc
no_memory_fault_of _ is = refl

no_memory_fault : (reply : Reply) → is_refused reply ≡ false → is_out_of_memory reply ≡ false
no_memory_fault (Refused refusal) is = absurd cc
no_memory_fault _ is = refl

no_verdict_runs_out : (world : World) (request : Request) (verdict : Verdict) → MayCome world request verdict → is_out_of_memory (verdict_reply verdict) ≡ false
no_verdict_runs_out world request (Accepted reply after) may = no_memory_fault reply may.no_refusal
no_verdict_runs_out world request (Answered reply) may = no_memory_fault reply may.no_refusal
no_verdict_runs_out world request (Refuses refusal) may = no_memory_fault_of refusal may

-- ---- no database that refused

no_store_of : (refusal : Refusal) → is_of_judging refusal ≡ true → Refused refusal ≢ Refused Store
no_store_of refusal is same =
    let it : refusal ≡ Store = cc in
    absurd (let wrong = ap is_of_judging it in cc)

no_store : (reply : Reply) → is_refused reply ≡ false → reply ≢ Refused Store
no_store reply is same = absurd (let wrong = ap is_refused same in cc)

no_verdict_stores : (world : World) (request : Request) (verdict : Verdict) → MayCome world request verdict → verdict_reply verdict ≢ Refused Store
no_verdict_stores world request (Accepted reply after) may = no_store reply may.no_refusal
no_verdict_stores world request (Answered reply) may = no_store reply may.no_refusal
no_verdict_stores world request (Refuses refusal) may = no_store_of refusal may

-- ---- no answer is either

-- a kept reply of a legal history is no refusal
pub kept_unrefused : (setting : Setting) (history : History) (client number : ℕ) (entry : Entry) → IsLegal setting history → kept history client number ≡ Some entry → is_refused entry.reply ≡ false
kept_unrefused setting history client number entry legal there =
    let came = kept_came setting history client number entry legal there in
    (judged_as setting (world_of setting came.past) entry.frame.version came.may.request (Accepted entry.reply came.may.after) came.may.accepted).no_refusal

pub answer_no_memory_fault : (setting : Setting) (history : History) (frame : Frame) → IsLegal setting history → is_out_of_memory (answer setting history frame) ≡ false
unfolding answer
answer_no_memory_fault setting history frame legal =
    whatever_meets setting history frame (λ (met : Meeting). is_out_of_memory (reply_to met) ≡ false) refl
    (λ entry there. no_memory_fault entry.reply (kept_unrefused setting history frame.client frame.number entry legal there)) refl
    (λ request asked is_new. no_verdict_runs_out (world_of setting history) request (judge setting (world_of setting history) frame.version request) (judged setting (world_of setting history) frame.version request))

pub answer_no_store : (setting : Setting) (history : History) (frame : Frame) → IsLegal setting history → answer setting history frame ≢ Refused Store
unfolding answer
answer_no_store setting history frame legal =
    whatever_meets setting history frame (λ (met : Meeting). reply_to met ≢ Refused Store) (λ same. absurd cc)
    (λ entry there. no_store entry.reply (kept_unrefused setting history frame.client frame.number entry legal there)) (λ same. absurd cc)
    (λ request asked is_new. no_verdict_stores (world_of setting history) request (judge setting (world_of setting history) frame.version request) (judged setting (world_of setting history) frame.version request))

-- ---- a refusal changes nothing

by_verdict : (history : History) (frame : Frame) (world : World) (request : Request) (verdict : Verdict) → MayCome world request verdict → is_refused (verdict_reply verdict) ≡ true → history_with history frame (New verdict) ≡ history
by_verdict history frame world request (Accepted reply after) may refused = absurd (let is = may.no_refusal in cc)
by_verdict history frame world request (Answered reply) may refused = refl
by_verdict history frame world request (Refuses refusal) may refused = refl

pub refused_stays : (setting : Setting) (history : History) (frame : Frame) → is_refused (answer setting history frame) ≡ true → next setting history frame ≡ history
unfolding answer next
refused_stays setting history frame =
    whatever_meets setting history frame (λ (met : Meeting). is_refused (reply_to met) ≡ true → history_with history frame met ≡ history)
    (λ refused. refl) (λ entry there refused. refl) (λ refused. refl)
    (λ request asked is_new refused. by_verdict history frame (world_of setting history) request (judge setting (world_of setting history) frame.version request) (judged setting (world_of setting history) frame.version request) refused)

-- ---- what is kept stays kept

with_is_more : (history : History) (frame : Frame) (met : Meeting) → (more : History) × (history_with history frame met ≡ history ++ more)
with_is_more history frame Nothing = ([], sym (append-nil history))
with_is_more history frame (Repeat entry) = ([], sym (append-nil history))
with_is_more history frame Reuse = ([], sym (append-nil history))
with_is_more history frame (New (Accepted reply after)) = (entry_of frame reply ∷ [], refl)
with_is_more history frame (New (Answered reply)) = ([], sym (append-nil history))
with_is_more history frame (New (Refuses refusal)) = ([], sym (append-nil history))

next_is_more : (setting : Setting) (history : History) (frame : Frame) → (more : History) × (next setting history frame ≡ history ++ more)
unfolding next
next_is_more setting history frame = with_is_more history frame (meeting setting history frame)

kept_more : (history more : History) (client number : ℕ) (entry : Entry) → kept history client number ≡ Some entry → kept (history ++ more) client number ≡ Some entry
kept_more history more client number entry there =
    find-append (is_under client number) history more ∙ ap (λ (o : Option Entry). option_or o (find (is_under client number) more)) there

pub kept_next : (setting : Setting) (history : History) (frame : Frame) (client number : ℕ) (entry : Entry) → kept history client number ≡ Some entry → kept (next setting history frame) client number ≡ Some entry
kept_next setting history frame client number entry there =
    let more = next_is_more setting history frame in
    subst (λ (longer : History). kept longer client number ≡ Some entry) (sym more.1) (kept_more history more.0 client number entry there)

pub kept_from : (setting : Setting) (history : History) (frames : List Frame) (client number : ℕ) (entry : Entry) → kept history client number ≡ Some entry → kept (history_from setting history frames) client number ≡ Some entry
kept_from setting history [] client number entry there = there
kept_from setting history (frame ∷ frames) client number entry there =
    kept_from setting (next setting history frame) frames client number entry (kept_next setting history frame client number entry there)

-- ---- the answer to what is kept

module _ (setting : Setting) (history : History) (frames : List Frame) (frame : Frame) (entry : Entry) (there : kept history frame.client frame.number ≡ Some entry) where
  answer_either : (request : Request) → command frame ≡ Some request → answer setting (history_from setting history frames) frame ≡ cond (is_request_of entry frame) entry.reply (Refused NumberReused)
  answer_either request asked = answer_kept setting (history_from setting history frames) frame request asked entry (kept_from setting history frames frame.client frame.number entry there)

  pub answer_marked : IsSome (command frame) → is_request_of entry frame ≡ true → answer setting (history_from setting history frames) frame ≡ entry.reply
  answer_marked some same =
      let asked = asks_something (command frame) some in
      answer_either asked.0 asked.1 ∙ ap (λ b. cond b entry.reply (Refused NumberReused)) same

  pub answer_reused : IsSome (command frame) → is_request_of entry frame ≡ false → answer setting (history_from setting history frames) frame ≡ Refused NumberReused
  answer_reused some other =
      let asked = asks_something (command frame) some in
      answer_either asked.0 asked.1 ∙ ap (λ b. cond b entry.reply (Refused NumberReused)) other

-- ---- the very request sent again

-- the first that passes, or one that passes among the rest
passes_or : (b : Bool) (p : Entry → Bool) (first : Entry) (rest : Option Entry) (entry : Entry) → p first ≡ b → (rest ≡ Some entry → p entry ≡ true) → cond b (Some first) rest ≡ Some entry → p entry ≡ true
passes_or true p first rest entry passes later is = let same : first ≡ entry = cc in subst (λ (e : Entry). p e ≡ true) same passes
passes_or false p first rest entry passes later is = later is

found_passes : (p : Entry → Bool) (entries : History) (entry : Entry) → find p entries ≡ Some entry → p entry ≡ true
found_passes p [] entry is = absurd cc
found_passes p (first ∷ entries) entry is = passes_or (p first) p first (find p entries) entry refl (found_passes p entries entry) is

same_number : (history : History) (client number : ℕ) (entry : Entry) → kept history client number ≡ Some entry → entry.frame.number ≡ number
same_number history client number entry there =
    let parts = and_parts (entry.frame.client == client) (entry.frame.number == number) (found_passes (is_under client number) history entry there) in
    eqb-true entry.frame.number number parts.1

-- what is asked goes by number, version, kind and body
asks_the_same : (one other : Frame) → one.number ≡ other.number → one.version ≡ other.version → one.kind ≡ other.kind → one.body ≡ other.body → command one ≡ command other
unfolding command request_in
asks_the_same one other number version kind body = rw (number, version, kind, body) refl

same_mark : (one other : Frame) → one.kind ≡ other.kind → one.body ≡ other.body → frame_mark one ≡ frame_mark other
same_mark one other kind body = rw (kind, body) refl

-- of one version and one mark
is_itself : (one_version version : ℕ) (one mark : List ℕ) → one_version ≡ version → one ≡ mark → is_same_request one_version one version mark ≡ true
is_itself one_version version one mark same_version same = rw (eq-eqb one_version version same_version) ((bytes_eq-Decides one mark).1 same)

some_is_some : (o : Option Request) (request : Request) → o ≡ Some request → IsSome o
some_is_some o request is = rw is refl

pub answer_again : (setting : Setting) (history : History) (frames : List Frame) (frame : Frame) (entry : Entry) → IsLegal setting history → kept history frame.client frame.number ≡ Some entry
    → frame.version ≡ entry.frame.version → frame.kind ≡ entry.frame.kind → frame.body ≡ entry.frame.body → answer setting (history_from setting history frames) frame ≡ entry.reply
answer_again setting history frames frame entry legal there version kind body =
    let came = kept_came setting history frame.client frame.number entry legal there in
    let asked = asks_the_same frame entry.frame (sym (same_number history frame.client frame.number entry there)) version kind body ∙ came.may.asked in
    let same = is_itself entry.frame.version frame.version entry.mark (frame_mark frame) (sym version) (came.may.marked ∙ same_mark entry.frame frame (sym kind) (sym body)) in
    answer_marked setting history frames frame entry there (some_is_some (command frame) came.may.request asked) same

-- ---- the answer to an accepted command is its answer ever after

-- what the history has of the request is its answer from then on
pub answer_had : (setting : Setting) (history : History) (frames : List Frame) (frame : Frame) (reply : Reply) → HasReply history frame reply → IsSome (command frame) → answer setting (history_from setting history frames) frame ≡ reply
answer_had setting history frames frame reply has some = answer_marked setting history frames frame has.entry has.there some has.same ∙ has.its

-- an entry that is added under a new number is kept there
kept_added : (history : History) (frame : Frame) (reply : Reply) → kept history frame.client frame.number ≡ None → kept (history ++ entry_of frame reply ∷ []) frame.client frame.number ≡ Some (entry_of frame reply)
kept_added history frame reply is_new =
    let its = entry_of frame reply in
    find-append (is_under frame.client frame.number) history (its ∷ [])
    ∙ (ap (λ (o : Option Entry). option_or o (find (is_under frame.client frame.number) (its ∷ []))) is_new
    ∙ rw (eq-eqb frame.client frame.client refl, eq-eqb frame.number frame.number refl) refl)

-- the same reply by another name
had_as : (history : History) (frame : Frame) (reply other : Reply) → HasReply history frame reply → reply ≡ other → HasReply history frame other
had_as history frame reply other has same = subst (HasReply history frame) same has

module _ (setting : Setting) (history : History) (frame : Frame) (request : Request) (asked : command frame ≡ Some request) (commands : is_command request ≡ true) where
  repeated : (entry : Entry) (same : Bool) → kept history frame.client frame.number ≡ Some entry → is_request_of entry frame ≡ same
      → is_refused (cond same entry.reply (Refused NumberReused)) ≡ false → HasReply (next setting history frame) frame (cond same entry.reply (Refused NumberReused))
  repeated entry true there same unrefused = record { entry = entry; there = kept_next setting history frame frame.client frame.number entry there; same = same; its = refl }
  repeated entry false there same unrefused = absurd cc

  judged_first : (verdict : Verdict) → kept history frame.client frame.number ≡ None → MayCome (world_of setting history) request verdict → next setting history frame ≡ history_with history frame (New verdict)
      → is_refused (verdict_reply verdict) ≡ false → HasReply (next setting history frame) frame (verdict_reply verdict)
  judged_first (Accepted reply after) is_new may goes unrefused = record {
    entry = entry_of frame reply;
    there = ap (λ (longer : History). kept longer frame.client frame.number) goes ∙ kept_added history frame reply is_new;
    same = is_itself frame.version frame.version (frame_mark frame) (frame_mark frame) refl refl;
    its = refl;
  }
  judged_first (Answered reply) is_new may goes unrefused = absurd (let query = may.query in cc)
  judged_first (Refuses refusal) is_new may goes unrefused = absurd cc

  by_kept : (o : Option Entry) → kept history frame.client frame.number ≡ o → is_refused (answer setting history frame) ≡ false → HasReply (next setting history frame) frame (answer setting history frame)
  by_kept (Some entry) there unrefused =
      let is = answer_kept setting history frame request asked entry there in
      had_as (next setting history frame) frame _ _ (repeated entry (is_request_of entry frame) there refl (ap is_refused (sym is) ∙ unrefused)) (sym is)
  by_kept None is_new unrefused =
      let is = answer_new setting history frame request asked is_new in
      had_as (next setting history frame) frame _ _
      (judged_first (judge setting (world_of setting history) frame.version request) is_new (judged setting (world_of setting history) frame.version request) (next_new setting history frame request asked is_new) (ap is_refused (sym is) ∙ unrefused)) (sym is)

  -- a command that isn't refused is kept with its answer
  pub accepted_is_kept : is_refused (answer setting history frame) ≡ false → HasReply (next setting history frame) frame (answer setting history frame)
  accepted_is_kept unrefused = by_kept (kept history frame.client frame.number) refl unrefused

  pub accepted_for_ever : (frames : List Frame) → is_refused (answer setting history frame) ≡ false → answer setting (history_from setting (next setting history frame) frames) frame ≡ answer setting history frame
  accepted_for_ever frames unrefused =
      answer_had setting (next setting history frame) frames frame (answer setting history frame) (accepted_is_kept unrefused) (some_is_some (command frame) request asked)

-- ---- a query changes nothing

module _ (setting : Setting) (history : History) (frame : Frame) (request : Request) (asked : command frame ≡ Some request) (queries : is_command request ≡ false) where
  reported_only : (verdict : Verdict) → MayCome (world_of setting history) request verdict → history_with history frame (New verdict) ≡ history
  reported_only (Accepted reply after) may = absurd (let commands = may.command in cc)
  reported_only (Answered reply) may = refl
  reported_only (Refuses refusal) may = refl

  asked_kept : (o : Option Entry) → kept history frame.client frame.number ≡ o → next setting history frame ≡ history
  asked_kept (Some entry) there = next_kept setting history frame request asked entry there
  asked_kept None is_new = next_new setting history frame request asked is_new ∙ reported_only (judge setting (world_of setting history) frame.version request) (judged setting (world_of setting history) frame.version request)

  pub query_stays : next setting history frame ≡ history
  query_stays = asked_kept (kept history frame.client frame.number) refl
