-- How a service that stands for a history stands for the next one, with its cached rows and its last text.
use Rattle.std.proofs.Common.{◌≡◌, ℕ, Bool, true, false, List, [], ◌∷◌, ◌++◌, find, Option, Some, None, option_map, refl, sym, ap, subst, ◌∙◌}
use Rattle.std.proofs.lemmas.Bool.{eq-eqb}
use Rattle.std.proofs.lemmas.List.Folds.{find-append}
use Rattle.std.specs.Option.{option_or}
use Rattle.std.specs.Prelude.{MatchBool, IsSome}
use Rattle.droid_frame.specs.declared.frame.Frame.{Frame}
use Rattle.droid_frame.specs.declared.reply.Reply.{Reply}
use Rattle.droid_frame.specs.declared.reply.Reply.TheVariants.{Refused}
use Rattle.droid_frame.specs.declared.request.Request.{Request}
use Rattle.droid_core_spec.specs.Histories.{Entry, History, New, command, is_under, kept, world_of, entry_of, answer, next, history_with, verdict_reply, Handles}
use Rattle.droid_core_spec.specs.Judging.{Verdict, Accepted, Answered, Refuses, judge}
use Rattle.droid_core_spec.specs.Setting.{Setting}
use Rattle.droid_core_spec.specs.Verdicts.{is_command, MayCome}
use Rattle.droid_frame.specs.Replies.{is_refused}
use Rattle.droid_core_spec.specs.MemoryFaults.{is_out_of_memory}
use Rattle.droid_core_spec.specs.World.{World}
use Rattle.droid_core_spec.proofs.Judged.{judged}
use Rattle.droid_core_spec.proofs.Meetings.{next_kept, answer_new, next_new}
use Rattle.droid_core_spec.proofs.Replied.{kept_next}
use Rattle.droid_core.specs.Replies.{entry_row, KeepsReplies}
use Rattle.droid_core.proofs.LookUps.{reply_found}
use Rattle.droid_store.specs.declared.rows.Entry as rows
use Rattle.droid_store.specs.Rows.{Rows, reply_for}
use Rattle.droid_core.specs.declared.stamps.Stamp.{Stamp}
use Rattle.droid_core.specs.Changes.{stamp_of, stamped}
use Rattle.droid_core.specs.KeptTexts.{IsLastText}
use Rattle.droid_core.specs.declared.queries.kept_text.KeptText.{KeptText}
use Rattle.droid_core.specs.Recent.{Whose, IsKeptRow, AreKept}
use Rattle.droid_core.specs.Standing.{Stand, StandsFor}
use Rattle.droid_core.specs.declared.service.Service.{Service}
use Rattle.droid_core.proofs.KeptReplies.{entry_kept, none_kept}

-- ---- a cached row is the store's

pub store_has : (history : History) (store : Rows) (client number : ℕ) (row : rows.Entry) → KeepsReplies history store → IsKeptRow history (client, number) row → reply_for client number store ≡ Some row
store_has history store client number row keeps is = reply_found history store client number keeps ∙ is

pub kept_in_store : (history : History) (store : Rows) (client number : ℕ) (row : rows.Entry) → KeepsReplies history store → reply_for client number store ≡ Some row → IsKeptRow history (client, number) row
kept_in_store history store client number row keeps found = sym (reply_found history store client number keeps) ∙ found

-- a number with a row is not new
no_row : {P : Type 0} (o : Option Entry) (row : rows.Entry) → option_map entry_row o ≡ Some row → o ≡ None → P
no_row None row e is = absurd cc
no_row (Some entry) row e is = absurd cc

pub not_new : {P : Type 0} (history : History) (client number : ℕ) (row : rows.Entry) → IsKeptRow history (client, number) row → kept history client number ≡ None → P
not_new history client number row its is_new = no_row (kept history client number) row its is_new

-- ---- the cached rows are the next history's too

row_next : (setting : Setting) (history : History) (frame : Frame) (whose : Whose) (row : rows.Entry) (o : Option Entry) → kept history whose.0 whose.1 ≡ o → option_map entry_row o ≡ Some row → IsKeptRow (next setting history frame) whose row
row_next setting history frame whose row None there is = absurd cc
row_next setting history frame whose row (Some entry) there is = ap (option_map entry_row) (kept_next setting history frame whose.0 whose.1 entry there) ∙ is

rows_next : (setting : Setting) (history : History) (frame : Frame) (pairs : List (Whose × rows.Entry)) → AreKept history pairs → AreKept (next setting history frame) pairs
rows_next setting history frame pairs all = λ pair there. row_next setting history frame pair.0 pair.1 (kept history pair.0.0 pair.0.1) refl (all pair there)

-- ---- what handling gives, with the cached rows

each_way : (b : Bool) (P Q : Type 0) {R S T U : Type 0} → MatchBool b (P × R) (Q × S) → (R → T) → (S → U) → MatchBool b (P × T) (Q × U)
each_way true P Q came one other = (came.0, one came.1)
each_way false P Q came one other = (came.0, other came.1)

-- the reply to a request under a kept number, which changes no history
pub with_recent : (setting : Setting) (history : History) (frame : Frame) (request : Request) (row : rows.Entry) (reply : Reply) (before service : Service) → command frame ≡ Some request
    → reply_for frame.client frame.number before.holdings.store ≡ Some row → StandsFor setting before history → service.last ≡ before.last → Handles setting history frame reply (Stand setting service.holdings)
    → AreKept history service.recent.rows.entries → Handles setting history frame reply (StandsFor setting service)
with_recent setting history frame request row reply before service asked found stands same handled all =
    let there = entry_kept history before.holdings.store frame.client frame.number row stands.holdings.replies found in
    let stays = next_kept setting history frame request asked there.0 there.1 in
    let last = subst (IsLastText setting (world_of setting history)) (sym same) stands.last in
    each_way (is_out_of_memory reply) (IsSome (command frame)) (reply ≡ answer setting history frame) handled (λ holdings. record { holdings = holdings; recent = all; last = last })
    (λ holdings. record {
      holdings = holdings;
      recent = rows_next setting history frame service.recent.rows.entries all;
      last = subst (λ (h : History). IsLastText setting (world_of setting h) service.last) (sym stays) last;
    })

-- an entry that is added under a new number is what is kept there
kept_last : (history : History) (frame : Frame) (reply : Reply) → kept history frame.client frame.number ≡ None → kept (history ++ entry_of frame reply ∷ []) frame.client frame.number ≡ Some (entry_of frame reply)
kept_last history frame reply is_new =
    let its = entry_of frame reply in
    find-append (is_under frame.client frame.number) history (its ∷ [])
    ∙ (ap (λ (o : Option Entry). option_or o (find (is_under frame.client frame.number) (its ∷ []))) is_new
    ∙ rw (eq-eqb frame.client frame.client refl, eq-eqb frame.number frame.number refl) refl)

-- what is accepted of a new command is kept as it is stamped
accepted_row : (setting : Setting) (history : History) (frame : Frame) (request : Request) (verdict : Verdict) → kept history frame.client frame.number ≡ None → MayCome (world_of setting history) request verdict → next setting history frame ≡ history_with history frame (New verdict)
    → is_command request ≡ true → is_refused (verdict_reply verdict) ≡ false → IsKeptRow (next setting history frame) (frame.client, frame.number) (stamped (stamp_of frame) (verdict_reply verdict))
accepted_row setting history frame request (Accepted reply after) is_new may goes commands unrefused =
    ap (option_map entry_row) (ap (λ (longer : History). kept longer frame.client frame.number) goes ∙ kept_last history frame reply is_new)
accepted_row setting history frame request (Answered reply) is_new may goes commands unrefused = absurd (let query = may.query in cc)
accepted_row setting history frame request (Refuses refusal) is_new may goes commands unrefused = absurd cc

answered_row : (setting : Setting) (history : History) (frame : Frame) (request : Request) (reply : Reply) → command frame ≡ Some request → kept history frame.client frame.number ≡ None → reply ≡ answer setting history frame
    → is_command request ≡ true → is_refused reply ≡ false → IsKeptRow (next setting history frame) (frame.client, frame.number) (stamped (stamp_of frame) reply)
answered_row setting history frame request reply asked is_new is commands unrefused =
    let verdict = judge setting (world_of setting history) frame.version request in
    let its : verdict_reply verdict ≡ reply = sym (is ∙ answer_new setting history frame request asked is_new) in
    subst (λ (r : Reply). IsKeptRow (next setting history frame) (frame.client, frame.number) (stamped (stamp_of frame) r)) its
    (accepted_row setting history frame request verdict is_new (judged setting (world_of setting history) frame.version request) (next_new setting history frame request asked is_new) commands (ap is_refused its ∙ unrefused))

no_memory_fault : (reply : Reply) → is_refused reply ≡ false → is_out_of_memory reply ≡ false
no_memory_fault (Refused refusal) is = absurd cc
no_memory_fault _ is = refl

-- caching a reply leaves the cached rows those of any history that has this reply
abbrev Keeps : List (Whose × rows.Entry) → List (Whose × rows.Entry) → Bool → Stamp → Reply → Type 0
Keeps old new commands stamp reply = (history : History) → AreKept history old → (commands ≡ true → is_refused reply ≡ false → IsKeptRow history (stamp.client, stamp.number) (stamped stamp reply)) → AreKept history new

-- ---- and the text of the last export

-- a text of the world that is forgotten with it
abbrev Forgets : Setting → World → Option KeptText → Bool → Reply → Type 0
Forgets setting world last commands reply = IsLastText setting world last × (commands ≡ true → is_refused reply ≡ false → last ≡ None)

last_after : (setting : Setting) (history : History) (frame : Frame) (request : Request) (verdict : Verdict) (last : Option KeptText) → MayCome (world_of setting history) request verdict
    → Forgets setting (world_of setting history) last (is_command request) (verdict_reply verdict) → IsLastText setting (world_of setting (history_with history frame (New verdict))) last
last_after setting history frame request (Accepted reply after) last may is = rw (is.1 may.command may.no_refusal) tt
last_after setting history frame request (Answered reply) last may is = is.0
last_after setting history frame request (Refuses refusal) last may is = is.0

last_next : (setting : Setting) (history : History) (frame : Frame) (request : Request) (reply : Reply) (last : Option KeptText) → command frame ≡ Some request → kept history frame.client frame.number ≡ None
    → reply ≡ answer setting history frame → Forgets setting (world_of setting history) last (is_command request) reply → IsLastText setting (world_of setting (next setting history frame)) last
last_next setting history frame request reply last asked is_new is forgets =
    let verdict = judge setting (world_of setting history) frame.version request in
    let its : reply ≡ verdict_reply verdict = is ∙ answer_new setting history frame request asked is_new in
    subst (λ (h : History). IsLastText setting (world_of setting h) last) (sym (next_new setting history frame request asked is_new))
    (last_after setting history frame request verdict last (judged setting (world_of setting history) frame.version request) (subst (Forgets setting (world_of setting history) last (is_command request)) its forgets))

kept_by : (b : Bool) (setting : Setting) (history : History) (frame : Frame) (request : Request) (reply : Reply) (old : List (Whose × rows.Entry)) (service : Service) → is_out_of_memory reply ≡ b → command frame ≡ Some request
    → kept history frame.client frame.number ≡ None → AreKept history old → Keeps old service.recent.rows.entries (is_command request) (stamp_of frame) reply
    → Forgets setting (world_of setting history) service.last (is_command request) reply
    → (P : Type 0) → MatchBool b (P × Stand setting service.holdings history) ((reply ≡ answer setting history frame) × Stand setting service.holdings (next setting history frame))
    → MatchBool b (P × StandsFor setting service history) ((reply ≡ answer setting history frame) × StandsFor setting service (next setting history frame))
kept_by true setting history frame request reply old service failure asked is_new all keeps forgets P handled =
    (handled.0, record { holdings = handled.1; recent = keeps history all (λ commands unrefused. absurd (let stays_unless = no_memory_fault reply unrefused in cc)); last = forgets.0 })
kept_by false setting history frame request reply old service failure asked is_new all keeps forgets P handled = (
  handled.0,
  record {
    holdings = handled.1;
    recent = keeps (next setting history frame) (rows_next setting history frame old all) (answered_row setting history frame request reply asked is_new handled.0);
    last = last_next setting history frame request reply service.last asked is_new handled.0 forgets;
  },
)

-- the reply to a new request, cached where it is kept
pub with_new : (setting : Setting) (history : History) (frame : Frame) (request : Request) (stamp : Stamp) (reply : Reply) (commands : Bool) (before : Service) (service : Service) → stamp ≡ stamp_of frame → command frame ≡ Some request
    → commands ≡ is_command request → StandsFor setting before history → reply_for stamp.client stamp.number before.holdings.store ≡ None
    → Keeps before.recent.rows.entries service.recent.rows.entries commands stamp reply
    → Forgets setting (world_of setting history) service.last commands reply
    → Handles setting history frame reply (Stand setting service.holdings) → Handles setting history frame reply (StandsFor setting service)
with_new setting history frame request stamp reply commands before service is asked commands_is stands absent keeps forgets handled =
    let is_new = none_kept history before.holdings.store frame.client frame.number stands.holdings.replies (subst (λ (s : Stamp). reply_for s.client s.number before.holdings.store ≡ None) is absent) in
    let stamped_keeps = subst (λ (s : Stamp). Keeps before.recent.rows.entries service.recent.rows.entries commands s reply) is keeps in
    let all_keep = subst (λ (b : Bool). Keeps before.recent.rows.entries service.recent.rows.entries b (stamp_of frame) reply) commands_is stamped_keeps in
    kept_by (is_out_of_memory reply) setting history frame request reply before.recent.rows.entries service refl asked is_new stands.recent all_keep
    (subst (λ (b : Bool). Forgets setting (world_of setting history) service.last b reply) commands_is forgets) (IsSome (command frame)) handled
