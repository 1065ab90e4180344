-- On frames of version 1 alone the service is what it was before there was a version 2: one step after the other, from
-- what a frame asks to the bytes that are written.
use Rattle.std.proofs.Common.{◌≡◌, ◌^◌, ℕ, ℤ, ◌==◌, ◌&&◌, ◌+◌, nat_lt, cond, false, inl, inr, List, [], ◌∷◌, ◌++◌, fold, length, Option, Some, None, refl, ap, ap₂, sym, subst, ◌∙◌}
use Rattle.std.proofs.lemmas.Bool.{cases_Bool, eqb-true}
use Rattle.std.proofs.lemmas.List.{append-nil}
use Rattle.std.specs.List.{AllByRecursion}
use Rattle.std.specs.Str.{bytes_eq}
use Rattle.droid_frame.specs.Bodies.{SpellsRequest, HasSpelling, HashFits, request_body}
use Rattle.droid_frame.specs.Fields.{u32_bytes, truth_bytes}
use Rattle.droid_frame.specs.HashFields.{carried_kind_at}
use Rattle.droid_frame.specs.Hashes.{hash}
use Rattle.droid_frame.specs.Frames.{spelling}
use Rattle.droid_frame.specs.Replies.{reply_bytes, reply_kind}
use Rattle.droid_frame.specs.ReplyFrames.{reply_frame}
use Rattle.droid_frame.specs.RequestValues.{create_profile_value, plain_value, any_value, request_value, request_in}
use Rattle.droid_frame.specs.declared.filter.Filter.{Filter}
use Rattle.droid_frame.specs.declared.frame.Frame.{Frame}
use Rattle.droid_frame.specs.declared.hash_kind.HashKind.{HashKind}
use Rattle.droid_frame.specs.declared.hash_kind.HashKind.TheVariants as hash_kinds
use Rattle.droid_frame.specs.declared.hash_value.HashValue.TheVariants as hashes
use Rattle.droid_frame.specs.declared.method.Method.TheVariants.{Unidentified}
use Rattle.droid_frame.specs.declared.node_kind.NodeKind.TheVariants as node_kinds
use Rattle.droid_frame.specs.declared.record.Record.{Record}
use Rattle.droid_frame.specs.declared.refusal.Refusal.{Refusal}
use Rattle.droid_frame.specs.declared.reply.Reply.{Reply}
use Rattle.droid_frame.specs.declared.reply.Reply.TheVariants as replies
use Rattle.droid_frame.specs.declared.request.Request.{Request}
use Rattle.droid_frame.specs.declared.request.Request.TheVariants.{CreateProfile, AddFolder, AddFile, Piece, Finish, Abandon, Status, Export}
use Rattle.droid_core_spec.specs.BeforeVersion2 as before
use Rattle.droid_core_spec.specs.Conditions.{is_piece_size}
use Rattle.droid_core_spec.specs.Exported.{part, part_of}
use Rattle.droid_core_spec.specs.Files.{Finding, bytes_of, as_finished, identified, found_as, finding_of, finished_reply}
use Rattle.droid_core_spec.specs.FirstVersion.{IsOfVersion1, IsWorldOfVersion1}
use Rattle.droid_core_spec.specs.Histories.{Entry, History, Repeat, Reuse, New, command, frame_mark, is_request_of, is_under, kept, world_after, world_asked, world_of, meeting_under, meeting_asked, meeting, reply_to, answer, history_with, next, history_from, answers}
use Rattle.droid_core_spec.specs.Judging.{Verdict, Accepted, Answered, refusal_of, unless_refused, in_profile, in_file, create_checks, finish_checks, export_checks, judge, judge_create, judge_folder, judge_file, judge_piece, judge_finish, judge_abandon, judge_status, judge_export, world_set, node_set}
use Rattle.droid_core_spec.specs.Records.{found_record, option_list, record_of, records_from}
use Rattle.droid_core_spec.specs.Setting.{Setting}
use Rattle.droid_core_spec.specs.World.{Content, Node, Folder, File, Abandoned, Profile, World, empty_world, numbered, node_at, path, world_with}
use Rattle.droid_core_spec.specs.Written.{reply_frames}
use Rattle.droid_core_spec.proofs.Asked.{asks, asked_by}
use Rattle.droid_core_spec.proofs.Each.{each_found}
use Rattle.droid_core_spec.proofs.FirstVersion.{AreOfVersion1, asks_fitting, plain_asked, plain_world, next_of_version_1, history_of_version_1, its_profile}

-- ---- what a frame asks

value_as_before : (kind : ℕ) (body : List ℕ) → request_value 1 kind body ≡ before.request_value kind body
unfolding request_value any_value plain_value create_profile_value carried_kind_at
value_as_before kind body = elim (cases_Bool (kind == 8)) [
  | inl is ↦ let its : kind ≡ 8 = eqb-true kind 8 is in rw its refl
  | inr isnt ↦ rw isnt refl
]

pub command_as_before : (frame : Frame) → IsOfVersion1 frame → command frame ≡ before.command frame
unfolding command request_in before.command
command_as_before frame is =
    ap (λ (value : Option Request). cond (nat_lt frame.number (2 ^ 63)) value None)
    (ap (λ version. request_value version frame.kind frame.body) is.version ∙ value_as_before frame.kind frame.body)

body_as_before : (request : Request) → request_body 1 request ≡ before.request_body request
body_as_before (CreateProfile scan_limit match_all kind) = ap (λ (rest : List ℕ). u32_bytes scan_limit ++ rest) (append-nil (truth_bytes match_all))
body_as_before (AddFolder number parent modified name) = refl
body_as_before (AddFile number parent modified size piece_size name) = refl
body_as_before (Piece number file index bytes) = refl
body_as_before (Finish number file) = refl
body_as_before (Abandon number file) = refl
body_as_before (Status number file) = refl
body_as_before (Export number from max filter) = refl

spelling_as_before : (request : Request) → HasSpelling 1 request → before.HasSpelling request
spelling_as_before (CreateProfile scan_limit match_all kind) has = has
spelling_as_before (AddFolder number parent modified name) has = has
spelling_as_before (AddFile number parent modified size piece_size name) has = has
spelling_as_before (Piece number file index bytes) has = has
spelling_as_before (Finish number file) has = has
spelling_as_before (Abandon number file) has = has
spelling_as_before (Status number file) has = has
spelling_as_before (Export number from max filter) has = has

spelling_as_now : (request : Request) → before.HasSpelling request → HasSpelling 1 request
spelling_as_now (CreateProfile scan_limit match_all kind) has = has
spelling_as_now (AddFolder number parent modified name) has = has
spelling_as_now (AddFile number parent modified size piece_size name) has = has
spelling_as_now (Piece number file index bytes) has = has
spelling_as_now (Finish number file) has = has
spelling_as_now (Abandon number file) has = has
spelling_as_now (Status number file) has = has
spelling_as_now (Export number from max filter) has = has

module _ (frame : Frame) (request : Request) (is : IsOfVersion1 frame) where
  pub asks_as_before : before.command frame ≡ Some request → before.Asks frame request
  asks_as_before asked =
      let its = asks frame request is.bytes (command_as_before frame is ∙ asked) in
      let spelled = subst (λ version. SpellsRequest version frame.kind frame.body request) is.version its.spelled in
      record {
        small = its.small;
        kind_is = spelled.kind_is;
        body_is = spelled.body_is ∙ body_as_before request;
        has_spelling = spelling_as_before request spelled.has_spelling;
      }

  spelled_as_now : before.Asks frame request → SpellsRequest 1 frame.kind frame.body request
  spelled_as_now its = record {
    version_is = refl;
    kind_is = its.kind_is;
    body_is = its.body_is ∙ sym (body_as_before request);
    has_spelling = spelling_as_now request its.has_spelling;
  }

  pub asked_as_before : before.Asks frame request → before.command frame ≡ Some request
  asked_as_before its =
      sym (command_as_before frame is)
      ∙ asked_by frame request (record {
        small = its.small;
        spelled = subst (λ version. SpellsRequest version frame.kind frame.body request) (sym is.version) (spelled_as_now its);
      })

-- ---- a profile whose hash is MD5

module _ (setting : Setting) (profile : Profile) (is : profile.hash ≡ hash_kinds.Md5) where
  finding_as_before : (name : List ℕ) (content : Content) → finding_of setting profile name content ≡ before.finding_of setting profile name content
  finding_as_before name content = ap (λ (kind : HashKind). found_as (identified setting profile name content) (hash kind (bytes_of content))) is

  record_as_before : (id : ℕ) (node : Node) → record_of setting profile id node ≡ before.record_of setting profile id node
  record_as_before id (Folder parent modified name) = refl
  record_as_before id (File parent modified name content) =
      ap (λ (finding : Finding). cond content.finished (Some (found_record
      (record { id = id; parent = parent; path = path profile.nodes id; name = name; kind = node_kinds.File; size = content.size; modified = modified; method = Unidentified; mismatch = false; hash = hashes.Nothing; puids = [] })
      finding)) None) (finding_as_before name content)
  record_as_before id Abandoned = refl

  records_as_before : (id : ℕ) (nodes : List Node) → records_from setting profile id nodes ≡ before.records_from setting profile id nodes
  records_as_before id [] = refl
  records_as_before id (node ∷ nodes) =
      ap₂ (λ (one : Option Record) (others : List Record). option_list one ++ others) (record_as_before id node) (records_as_before (id + 1) nodes)

  part_as_before : (accepted from max : ℕ) (filter : Filter) → part_of setting accepted profile from max filter ≡ before.part_of setting accepted profile from max filter
  part_as_before accepted from max filter =
      ap₂ (λ (shown : List Record) (kind : HashKind). part accepted (setting.export_text shown filter kind) from max) (records_as_before 1 profile.nodes) is

-- ---- judging

same_in_profile : (found : Option Profile) (one other : Profile → Verdict) → ((profile : Profile) → found ≡ Some profile → one profile ≡ other profile) → in_profile found one ≡ in_profile found other
same_in_profile None one other same = refl
same_in_profile (Some profile) one other same = same profile refl

same_in_file : (found : Option Node) (one other : ℕ → ℤ → List ℕ → Content → Verdict)
    → ((parent : ℕ) (modified : ℤ) (name : List ℕ) (content : Content) → one parent modified name content ≡ other parent modified name content) → in_file found one ≡ in_file found other
same_in_file None one other same = refl
same_in_file (Some (Folder parent modified name)) one other same = refl
same_in_file (Some (File parent modified name content)) one other same = same parent modified name content
same_in_file (Some Abandoned) one other same = refl

module _ (setting : Setting) (world : World) (plain : IsWorldOfVersion1 world) where
  finished_as_before : (number file parent : ℕ) (modified : ℤ) (name : List ℕ) (content : Content) (profile : Profile) → profile.hash ≡ hash_kinds.Md5
      → unless_refused (refusal_of (finish_checks 1 profile.hash content)) (Accepted (finished_reply (finding_of setting profile name content)) (world_set world number (node_set profile file (File parent modified name (as_finished content)))))
      ≡ unless_refused (refusal_of (before.finish_checks content)) (Accepted (finished_reply (before.finding_of setting profile name content)) (world_set world number (node_set profile file (File parent modified name (as_finished content)))))
  finished_as_before number file parent modified name content profile is =
      ap₂ (λ (refused : Option Refusal) (finding : Finding). unless_refused refused (Accepted (finished_reply finding) (world_set world number (node_set profile file (File parent modified name (as_finished content))))))
      (ap (λ (kind : HashKind). refusal_of (finish_checks 1 kind content)) is) (finding_as_before setting profile is name content)

  judged_as_before : (request : Request) → HashFits 1 request → judge setting world 1 request ≡ before.judge setting world request
  unfolding judge judge_create judge_folder judge_file judge_piece judge_finish judge_abandon judge_status judge_export is_piece_size before.judge before.is_piece_size
  judged_as_before (CreateProfile scan_limit match_all kind) fits =
      ap (λ (its : HashKind). unless_refused (refusal_of (create_checks setting.limits world scan_limit))
      (Accepted (replies.Made (length world.profiles + 1)) (world_with world (world.profiles ++ record { scan_limit = scan_limit; match_all = match_all; hash = its; nodes = [] } ∷ [])))) fits
  judged_as_before (AddFolder number parent modified name) fits = refl
  judged_as_before (AddFile number parent modified size piece_size name) fits = refl
  judged_as_before (Piece number file index bytes) fits = refl
  judged_as_before (Finish number file) fits =
      same_in_profile (numbered world.profiles number) _ _ (λ profile is.
      same_in_file (node_at profile.nodes file) _ _ (λ parent modified name content.
      finished_as_before number file parent modified name content profile (its_profile world plain number profile is).hash))
  judged_as_before (Abandon number file) fits = refl
  judged_as_before (Status number file) fits = refl
  judged_as_before (Export number from max filter) fits =
      same_in_profile (numbered world.profiles number) _ _ (λ profile is.
      ap (λ (its : Reply). unless_refused (refusal_of (export_checks max)) (Answered its)) (part_as_before setting profile (its_profile world plain number profile is).hash world.accepted from max filter))

  verdict_as_before : (frame : Frame) (request : Request) → IsOfVersion1 frame → command frame ≡ Some request → judge setting world frame.version request ≡ before.judge setting world request
  verdict_as_before frame request is asked =
      ap (λ version. judge setting world version request) is.version ∙ judged_as_before request (asks_fitting frame request is asked)

  asked_world_as_before : (frame : Frame) (asked : Option Request) → IsOfVersion1 frame → command frame ≡ asked → world_asked setting world frame.version asked ≡ before.world_asked setting world asked
  asked_world_as_before frame None is asked = refl
  asked_world_as_before frame (Some request) is asked = ap (world_after world) (verdict_as_before frame request is asked)

-- ---- the world of a history

world_from_as_before : (setting : Setting) (world : World) (history : History) → AreOfVersion1 history → IsWorldOfVersion1 world
    → fold (λ (one : World) (entry : Entry). world_asked setting one entry.frame.version (command entry.frame)) world history
    ≡ fold (λ (one : World) (entry : Entry). before.world_asked setting one (before.command entry.frame)) world history
world_from_as_before setting world [] are plain = refl
world_from_as_before setting world (entry ∷ entries) are plain =
    let frame = entry.frame in
    world_from_as_before setting (world_asked setting world frame.version (command frame)) entries are.1 (plain_asked setting world frame (command frame) refl are.0 plain)
    ∙ ap (λ (next_world : World). fold (λ (one : World) (each : Entry). before.world_asked setting one (before.command each.frame)) next_world entries)
    (asked_world_as_before setting world plain frame (command frame) are.0 refl ∙ ap (before.world_asked setting world) (command_as_before frame are.0))

world_as_before : (setting : Setting) (history : History) → AreOfVersion1 history → world_of setting history ≡ before.world_of setting history
unfolding world_of before.world_of
world_as_before setting history are = world_from_as_before setting empty_world history are tt

-- ---- the answer, and the history after it

module _ (setting : Setting) (history : History) (frame : Frame) (are : AreOfVersion1 history) (is : IsOfVersion1 frame) where
  request_as_before : (entry : Entry) → kept history frame.client frame.number ≡ Some entry → is_request_of entry frame ≡ bytes_eq entry.mark (frame_mark frame)
  request_as_before entry there =
      let its = each_found (λ (one : Entry). IsOfVersion1 one.frame) (is_under frame.client frame.number) history entry are there in
      ap₂ (λ one other. (one == other) && bytes_eq entry.mark (frame_mark frame)) its.version is.version

  under_as_before : (request : Request) (found : Option Entry) → command frame ≡ Some request → kept history frame.client frame.number ≡ found
      → meeting_under setting history found frame request ≡ before.meeting_under setting history found frame request
  under_as_before request None asked there =
      ap New (verdict_as_before setting (world_of setting history) (plain_world setting history are) frame request is asked
      ∙ ap (λ (world : World). before.judge setting world request) (world_as_before setting history are))
  under_as_before request (Some entry) asked there = ap (λ same. cond same (Repeat entry) Reuse) (request_as_before entry there)

  asked_meeting_as_before : (asked : Option Request) → command frame ≡ asked → meeting_asked setting history frame asked ≡ before.meeting_asked setting history frame asked
  asked_meeting_as_before None asked = refl
  asked_meeting_as_before (Some request) asked = under_as_before request (kept history frame.client frame.number) asked refl

  meeting_as_before : meeting setting history frame ≡ before.meeting setting history frame
  unfolding meeting before.meeting
  meeting_as_before = asked_meeting_as_before (command frame) refl ∙ ap (before.meeting_asked setting history frame) (command_as_before frame is)

  pub answer_as_before : answer setting history frame ≡ before.answer setting history frame
  unfolding answer before.answer
  answer_as_before = ap reply_to meeting_as_before

  next_as_before : next setting history frame ≡ before.next setting history frame
  unfolding next before.next
  next_as_before = ap (history_with history frame) meeting_as_before

-- ---- a list of requests

pub history_as_before : (setting : Setting) (history : History) (frames : List Frame) → AreOfVersion1 history → AllByRecursion IsOfVersion1 frames
    → history_from setting history frames ≡ before.history_from setting history frames
history_as_before setting history [] are all = refl
history_as_before setting history (frame ∷ frames) are all =
    history_as_before setting (next setting history frame) frames (next_of_version_1 history frame are all.0 setting) all.1
    ∙ ap (λ (after : History). before.history_from setting after frames) (next_as_before setting history frame are all.0)

pub answers_as_before : (setting : Setting) (history : History) (frames : List Frame) → AreOfVersion1 history → AllByRecursion IsOfVersion1 frames
    → answers setting history frames ≡ before.answers setting history frames
answers_as_before setting history [] are all = refl
answers_as_before setting history (frame ∷ frames) are all =
    ap₂ (λ (first : Reply) (others : List Reply). first ∷ others) (answer_as_before setting history frame are all.0)
    (answers_as_before setting (next setting history frame) frames (next_of_version_1 history frame are all.0 setting) all.1
    ∙ ap (λ (after : History). before.answers setting after frames) (next_as_before setting history frame are all.0))

-- the world that they make
pub world_after_as_before : (setting : Setting) (frames : List Frame) → AllByRecursion IsOfVersion1 frames
    → world_of setting (history_from setting [] frames) ≡ before.world_of setting (before.history_from setting [] frames)
world_after_as_before setting frames all =
    world_as_before setting (history_from setting [] frames) (history_of_version_1 setting [] frames tt all)
    ∙ ap (before.world_of setting) (history_as_before setting [] frames tt all)

-- the answer to one frame more
pub answer_after_as_before : (setting : Setting) (frames : List Frame) (frame : Frame) → AllByRecursion IsOfVersion1 frames → IsOfVersion1 frame
    → answer setting (history_from setting [] frames) frame ≡ before.answer setting (before.history_from setting [] frames) frame
answer_after_as_before setting frames frame all is =
    answer_as_before setting (history_from setting [] frames) frame (history_of_version_1 setting [] frames tt all) is
    ∙ ap (λ (history : History). before.answer setting history frame) (history_as_before setting [] frames tt all)

-- ---- the bytes

reply_bytes_as_before : (reply : Reply) → reply_bytes 1 reply ≡ before.reply_bytes reply
reply_bytes_as_before (replies.Made profile) = refl
reply_bytes_as_before (replies.Node id) = refl
reply_bytes_as_before (replies.Taken held) = refl
reply_bytes_as_before (replies.Finished method mismatch digest puids) = refl
reply_bytes_as_before replies.Abandoned = refl
reply_bytes_as_before (replies.Progress held missing) = refl
reply_bytes_as_before (replies.Part as_of total bytes) = refl
reply_bytes_as_before (replies.Refused refusal) = refl

pub frame_as_before : (client number : ℕ) (reply : Reply) → reply_frame 1 client number reply ≡ before.reply_frame client number reply
frame_as_before client number reply = ap (λ (body : List ℕ). spelling 1 (reply_kind reply) client number body) (reply_bytes_as_before reply)

frames_as_before : (frames : List Frame) (its_replies : List Reply) → AllByRecursion IsOfVersion1 frames → reply_frames frames its_replies ≡ before.reply_frames frames its_replies
frames_as_before [] its_replies all = refl
frames_as_before (frame ∷ frames) [] all = refl
frames_as_before (frame ∷ frames) (reply ∷ its_replies) all =
    ap₂ (λ (first others : List ℕ). first ++ others)
    (ap (λ version. reply_frame version frame.client frame.number reply) all.0.version ∙ frame_as_before frame.client frame.number reply)
    (frames_as_before frames its_replies all.1)

pub written_as_before : (setting : Setting) (frames : List Frame) → AllByRecursion IsOfVersion1 frames
    → reply_frames frames (answers setting [] frames) ≡ before.reply_frames frames (before.answers setting [] frames)
written_as_before setting frames all =
    frames_as_before frames (answers setting [] frames) all ∙ ap (before.reply_frames frames) (answers_as_before setting [] frames tt all)
