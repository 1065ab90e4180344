-- The service as it was before there was a version 2 (this project's own): which request a frame asks, the verdict on
-- it, the answer, and the bytes that are written. No definition here takes a version or a choice of hash: every hash is
-- MD5 (RFC 1321). Requests, replies and worlds have the types of today, whose hash is always MD5 here. The law
-- `laws::version_1_is_as_before` compares the service of today with these definitions.
use Rattle.std.specs.Prelude.{◌≡◌, ℕ, ℤ, ◌+◌, ◌<◌, ◌^◌, ◌==◌, ◌&&◌, ◌||◌, nat_lt, nat_le, if◌then◌else◌, Bool, false}
use Rattle.std.specs.Prelude.{not, List, [], ◌∷◌, ◌++◌, fold, length, Option, Some, None}
use Rattle.std.specs.Int.{w32}
use Rattle.std.specs.Str.{IsUtf8, bytes_eq}
use Rattle.md5.specs.Md5.{md5}
use Rattle.droid_frame.specs.Bodies.{request_kind}
use Rattle.droid_frame.specs.Fields.{IsBytes, IsU32, IsU64, IsI64, u16_bytes, u32_bytes, u64_bytes, i64_bytes}
use Rattle.droid_frame.specs.Fields.{truth_bytes, method_bytes}
use Rattle.droid_frame.specs.Filters.{IsFilter, filter_bytes}
use Rattle.droid_frame.specs.Hashes.{hash_bytes}
use Rattle.droid_frame.specs.Reading.{◌>>=◌, number_at, truth_at, whole}
use Rattle.droid_frame.specs.Replies.{reply_kind, refusal_bytes}
use Rattle.droid_frame.specs.TextLists.{texts_bytes}
use Rattle.droid_frame.specs.RequestValues.{add_folder_value, add_file_value, piece_value, finish_value, abandon_value}
use Rattle.droid_frame.specs.RequestValues.{status_value, export_value}
use Rattle.droid_frame.specs.declared.filter.Filter.{Filter}
use Rattle.droid_frame.specs.declared.frame.Frame.{Frame}
use Rattle.droid_frame.specs.declared.hash_kind.HashKind.TheVariants as hash_kinds
use Rattle.droid_frame.specs.declared.hash_value.HashValue.TheVariants as hashes
use Rattle.droid_frame.specs.declared.method.Method.TheVariants.{Unidentified}
use Rattle.droid_frame.specs.declared.node_kind.NodeKind.TheVariants as node_kinds
use Rattle.droid_frame.specs.declared.record.Record.{Record}
use Rattle.droid_frame.specs.declared.refusal.Limit.TheVariants as reached
use Rattle.droid_frame.specs.declared.refusal.Refusal.TheVariants.{NoSuchNode, NotAFolder, BadName, PathTooLong}
use Rattle.droid_frame.specs.declared.refusal.Refusal.TheVariants.{NameTaken, BadOption, TooLarge, AlreadyFinished}
use Rattle.droid_frame.specs.declared.refusal.Refusal.TheVariants.{BadPiece, PieceHeld, TooFarAhead, Incomplete}
use Rattle.droid_frame.specs.declared.refusal.Refusal.TheVariants.{LimitReached}
use Rattle.droid_frame.specs.declared.reply.Reply.{Reply}
use Rattle.droid_frame.specs.declared.reply.Reply.TheVariants as replies
use Rattle.droid_frame.specs.declared.request.Request.{Request}
use Rattle.droid_frame.specs.declared.request.Request.TheVariants.{CreateProfile, AddFolder, AddFile, Piece, Finish}
use Rattle.droid_frame.specs.declared.request.Request.TheVariants.{Abandon, Status, Export}
use Rattle.droid_core_spec.specs.Conditions.{is_scan_limit, is_part_size, is_too_large, is_moment, is_bad_name}
use Rattle.droid_core_spec.specs.Conditions.{is_missing, is_file, is_too_deep}
use Rattle.droid_core_spec.specs.Exported.{part}
use Rattle.droid_core_spec.specs.Files.{Finding, bytes_of, count_of, missing_of, has_piece, is_due, is_too_far}
use Rattle.droid_core_spec.specs.Files.{with_piece, as_finished, identified, found_as, finished_reply, progress_of}
use Rattle.droid_core_spec.specs.Files.{unfinished_in}
use Rattle.droid_core_spec.specs.Histories.{Entry, History, Meeting, Nothing, Repeat, Reuse, New, frame_mark, kept}
use Rattle.droid_core_spec.specs.Histories.{world_after, reply_to, history_with}
use Rattle.droid_core_spec.specs.Judging.{Verdict, Accepted, Answered, Check, refusal_of, unless_refused, in_profile}
use Rattle.droid_core_spec.specs.Judging.{in_file, world_set, with_node, node_set}
use Rattle.droid_core_spec.specs.Limits.{Limits}
use Rattle.droid_core_spec.specs.Records.{found_record, option_list}
use Rattle.droid_core_spec.specs.Setting.{Setting}
use Rattle.droid_core_spec.specs.World.{Content, Node, Folder, File, Abandoned, Profile, World, empty_world, numbered}
use Rattle.droid_core_spec.specs.World.{node_at, path, is_taken, world_with}

-- ---- requests

-- the fields of a request, one after the other; a CreateProfile has no field for a hash
abbrev pub request_body : Request → List ℕ
request_body (CreateProfile scan_limit match_all hash) = u32_bytes scan_limit ++ truth_bytes match_all
request_body (AddFolder profile parent modified name) =
    u32_bytes profile ++ (u32_bytes parent ++ (i64_bytes modified ++ name))
request_body (AddFile profile parent modified size piece_size name) =
    u32_bytes profile
    ++ (u32_bytes parent ++ (i64_bytes modified ++ (u64_bytes size ++ (u32_bytes piece_size ++ name))))
request_body (Piece profile file index bytes) = u32_bytes profile ++ (u32_bytes file ++ (u32_bytes index ++ bytes))
request_body (Finish profile file) = u32_bytes profile ++ u32_bytes file
request_body (Abandon profile file) = u32_bytes profile ++ u32_bytes file
request_body (Status profile file) = u32_bytes profile ++ u32_bytes file
request_body (Export profile from max filter) =
    u32_bytes profile ++ (u64_bytes from ++ (u32_bytes max ++ filter_bytes filter))

-- the request has a spelling: each number fits its field, each text is UTF-8, each list fits its count, and the hash of
-- a CreateProfile is MD5
abbrev pub HasSpelling : Request → Type 0
HasSpelling (CreateProfile scan_limit match_all hash) = IsU32 scan_limit × (hash ≡ hash_kinds.Md5)
HasSpelling (AddFolder profile parent modified name) = IsU32 profile × IsU32 parent × IsI64 modified × IsUtf8 name
HasSpelling (AddFile profile parent modified size piece_size name) =
    IsU32 profile × IsU32 parent × IsI64 modified × IsU64 size × IsU32 piece_size × IsUtf8 name
HasSpelling (Piece profile file index bytes) = IsU32 profile × IsU32 file × IsU32 index × IsBytes bytes
HasSpelling (Finish profile file) = IsU32 profile × IsU32 file
HasSpelling (Abandon profile file) = IsU32 profile × IsU32 file
HasSpelling (Status profile file) = IsU32 profile × IsU32 file
HasSpelling (Export profile from max filter) = IsU32 profile × IsU64 from × IsU32 max × IsFilter filter

-- the frame asks the request: its number is below 2^63, and its kind and whole body spell the request
pub record Asks (frame : Frame) (request : Request) : Type 0 where
  pub small : frame.number < 2 ^ 63
  pub kind_is : frame.kind ≡ request_kind request
  pub body_is : frame.body ≡ request_body request
  pub has_spelling : HasSpelling request

-- reads a CreateProfile, whose hash is MD5
abbrev pub create_profile_value : List ℕ → Option Request
create_profile_value body = do
  scan_limit ← number_at w32 body
  match_all ← truth_at scan_limit.1
  whole match_all.1 (CreateProfile scan_limit.0 match_all.0 hash_kinds.Md5)

-- the request that the kind and the body spell, if there is one
abbrev pub request_value : ℕ → List ℕ → Option Request
request_value kind body =
    if kind == 1 then create_profile_value body
    else if kind == 2 then add_folder_value body
    else if kind == 3 then add_file_value body
    else if kind == 4 then piece_value body
    else if kind == 5 then finish_value body
    else if kind == 6 then abandon_value body
    else if kind == 7 then status_value body
    else if kind == 8 then export_value body
    else None

-- the request that the frame asks, found by reading the body; the law's clause `requests` says that it is that of
-- `Asks`
unfoldable pub command : Frame → Option Request
command frame = if nat_lt frame.number (2 ^ 63) then request_value frame.kind frame.body else None

-- ---- checks, in their order

-- of a new profile
abbrev pub create_checks : Limits → World → ℕ → List Check
create_checks limits world scan_limit =
    (not (is_scan_limit scan_limit), BadOption)
    ∷ (nat_le limits.profiles (length world.profiles), LimitReached reached.Profiles)
    ∷ []

-- of a new node in this folder
abbrev pub place_checks : List Node → ℕ → List ℕ → List Check
place_checks nodes parent name =
    (is_missing nodes parent, NoSuchNode)
    ∷ (is_file (node_at nodes parent), NotAFolder)
    ∷ (is_bad_name name, BadName)
    ∷ (is_too_deep nodes parent name, PathTooLong)
    ∷ (is_taken nodes parent name, NameTaken)
    ∷ []

-- of a new folder
abbrev pub folder_checks : Limits → List Node → ℕ → ℤ → List ℕ → List Check
folder_checks limits nodes parent modified name =
    place_checks nodes parent name
    ++ (not (is_moment modified), BadOption)
    ∷ (nat_le limits.nodes (length nodes), LimitReached reached.Nodes)
    ∷ []

-- the size of a piece: from 1 to 1,048,576
unfoldable pub is_piece_size : ℕ → Bool
is_piece_size n = nat_le 1 n && nat_le n 1048576

-- of a new file; the limit of unfinished files is that of the whole service
abbrev pub file_checks : Limits → World → List Node → ℕ → ℤ → ℕ → ℕ → List ℕ → List Check
file_checks limits world nodes parent modified size piece_size name =
    place_checks nodes parent name
    ++ (not (is_moment modified) || not (is_piece_size piece_size), BadOption)
    ∷ (is_too_large size piece_size, TooLarge)
    ∷ (nat_le limits.nodes (length nodes), LimitReached reached.Nodes)
    ∷ (nat_le limits.unfinished (unfinished_in world), LimitReached reached.Unfinished)
    ∷ []

-- of a piece for a file
abbrev pub piece_checks : Content → ℕ → List ℕ → List Check
piece_checks content index bytes =
    (content.finished, AlreadyFinished)
    ∷ (not (is_due content index bytes), BadPiece)
    ∷ (has_piece content index, PieceHeld)
    ∷ (is_too_far content index, TooFarAhead (missing_of content))
    ∷ []

-- of a Finish
abbrev pub finish_checks : Content → List Check
finish_checks content =
    (content.finished, AlreadyFinished)
    ∷ (nat_lt (missing_of content) (count_of content), Incomplete (missing_of content))
    ∷ []

-- of an Abandon
abbrev pub abandon_checks : Content → List Check
abandon_checks content = (content.finished, AlreadyFinished) ∷ []

-- of an Export of at most this many bytes
abbrev pub export_checks : ℕ → List Check
export_checks max = (not (is_part_size max), BadOption) ∷ []

-- ---- finished files and exports

-- what the whole file is found to be, with the MD5 of all its bytes
abbrev pub finding_of : Setting → Profile → List ℕ → Content → Finding
finding_of setting profile name content =
    found_as (identified setting profile name content) (hashes.Md5 (md5 (bytes_of content)))

-- the record of the node with this number: that of a folder has no hash, and an unfinished or abandoned file has no
-- record
abbrev pub record_of : Setting → Profile → ℕ → Node → Option Record
record_of setting profile id (Folder parent modified name) =
    Some (record {
      id = id;
      parent = parent;
      path = path profile.nodes id;
      name = name;
      kind = node_kinds.Folder;
      size = 0;
      modified = modified;
      method = Unidentified;
      mismatch = false;
      hash = hashes.Nothing;
      puids = [];
    })
record_of setting profile id (File parent modified name content) =
    if content.finished then Some (found_record
    (record {
      id = id;
      parent = parent;
      path = path profile.nodes id;
      name = name;
      kind = node_kinds.File;
      size = content.size;
      modified = modified;
      method = Unidentified;
      mismatch = false;
      hash = hashes.Nothing;
      puids = [];
    })
    (finding_of setting profile name content))
    else None
record_of setting profile id Abandoned = None

-- the records of the nodes from this number on
abbrev pub records_from : Setting → Profile → ℕ → List Node → List Record
records_from setting profile id [] = []
records_from setting profile id (node ∷ nodes) =
    option_list (record_of setting profile id node) ++ records_from setting profile (id + 1) nodes

-- the part of an export that a request asks for; the column of hashes is that of MD5
abbrev pub part_of : Setting → ℕ → Profile → ℕ → ℕ → Filter → Reply
part_of setting accepted profile from max filter =
    part accepted (setting.export_text (records_from setting profile 1 profile.nodes) filter hash_kinds.Md5) from max

-- ---- judging; profiles and nodes are numbered from 1, in order of acceptance

-- the verdict on a request, by its kind
unfoldable pub judge : Setting → World → Request → Verdict
judge setting world (CreateProfile scan_limit match_all hash) =
    unless_refused (refusal_of (create_checks setting.limits world scan_limit))
    (Accepted (replies.Made (length world.profiles + 1))
    (world_with world
    (world.profiles
    ++ record { scan_limit = scan_limit; match_all = match_all; hash = hash_kinds.Md5; nodes = [] } ∷ [])))
judge setting world (AddFolder profile parent modified name) =
    in_profile (numbered world.profiles profile) (λ its.
    unless_refused (refusal_of (folder_checks setting.limits its.nodes parent modified name))
    (Accepted (replies.Node (length its.nodes + 1))
    (world_set world profile (with_node its (Folder parent modified name)))))
judge setting world (AddFile profile parent modified size piece_size name) =
    in_profile (numbered world.profiles profile) (λ its.
    unless_refused (refusal_of (file_checks setting.limits world its.nodes parent modified size piece_size name))
    (Accepted (replies.Node (length its.nodes + 1)) (world_set world profile (with_node its
    (File parent modified name (record { size = size; piece_size = piece_size; pieces = []; finished = false }))))))
judge setting world (Piece profile file index bytes) =
    in_profile (numbered world.profiles profile) (λ its.
    in_file (node_at its.nodes file) (λ parent modified name content.
    unless_refused (refusal_of (piece_checks content index bytes))
    (Accepted (replies.Taken (length content.pieces + 1))
    (world_set world profile (node_set its file (File parent modified name (with_piece content index bytes)))))))
judge setting world (Finish profile file) =
    in_profile (numbered world.profiles profile) (λ its.
    in_file (node_at its.nodes file) (λ parent modified name content.
    unless_refused (refusal_of (finish_checks content))
    (Accepted (finished_reply (finding_of setting its name content))
    (world_set world profile (node_set its file (File parent modified name (as_finished content)))))))
judge setting world (Abandon profile file) =
    in_profile (numbered world.profiles profile) (λ its.
    in_file (node_at its.nodes file) (λ parent modified name content.
    unless_refused (refusal_of (abandon_checks content))
    (Accepted replies.Abandoned (world_set world profile (node_set its file Abandoned)))))
judge setting world (Status profile file) =
    in_profile (numbered world.profiles profile) (λ its.
    in_file (node_at its.nodes file) (λ parent modified name content.
    Answered (progress_of content)))
judge setting world (Export profile from max filter) =
    in_profile (numbered world.profiles profile) (λ its.
    unless_refused (refusal_of (export_checks max))
    (Answered (part_of setting world.accepted its from max filter)))

-- ---- histories

-- the world after a request, if one is asked
abbrev pub world_asked : Setting → World → Option Request → World
world_asked setting world None = world
world_asked setting world (Some request) = world_after world (judge setting world request)

-- the world after the commands of the history, from the empty world
unfoldable pub world_of : Setting → History → World
world_of setting history = fold (λ world entry. world_asked setting world (command entry.frame)) empty_world history

-- by the entry of its client and number, if one is kept: the request is the accepted one if it has the same mark
abbrev pub meeting_under : Setting → History → Option Entry → Frame → Request → Meeting
meeting_under setting history (Some entry) frame request =
    if bytes_eq entry.mark (frame_mark frame) then Repeat entry else Reuse
meeting_under setting history None frame request = New (judge setting (world_of setting history) request)

-- by the request, if one is asked
abbrev pub meeting_asked : Setting → History → Frame → Option Request → Meeting
meeting_asked setting history frame None = Nothing
meeting_asked setting history frame (Some request) =
    meeting_under setting history (kept history frame.client frame.number) frame request

-- what the request of the frame meets in the history
unfoldable pub meeting : Setting → History → Frame → Meeting
meeting setting history frame = meeting_asked setting history frame (command frame)

-- the answer to the request after the history
unfoldable pub answer : Setting → History → Frame → Reply
answer setting history frame = reply_to (meeting setting history frame)

-- the history after the request
unfoldable pub next : Setting → History → Frame → History
next setting history frame = history_with history frame (meeting setting history frame)

-- the history after a list of requests, from this one
abbrev pub history_from : Setting → History → List Frame → History
history_from setting history [] = history
history_from setting history (frame ∷ frames) = history_from setting (next setting history frame) frames

-- the answers to the requests of a list, in order
abbrev pub answers : Setting → History → List Frame → List Reply
answers setting history [] = []
answers setting history (frame ∷ frames) =
    answer setting history frame ∷ answers setting (next setting history frame) frames

-- ---- the bytes of replies

-- the fields of a reply, one after the other; a Finished has the 16 bytes of the MD5 with nothing in front of them
abbrev pub reply_bytes : Reply → List ℕ
reply_bytes (replies.Made profile) = u32_bytes profile
reply_bytes (replies.Node id) = u32_bytes id
reply_bytes (replies.Taken held) = u32_bytes held
reply_bytes (replies.Finished method mismatch hash puids) =
    method_bytes method
    ++ (truth_bytes mismatch ++ (hash_bytes hash ++ (u16_bytes (length puids) ++ texts_bytes puids)))
reply_bytes replies.Abandoned = []
reply_bytes (replies.Progress held missing) = u32_bytes held ++ u32_bytes missing
reply_bytes (replies.Part as_of total bytes) = u64_bytes as_of ++ (u64_bytes total ++ bytes)
reply_bytes (replies.Refused refusal) = refusal_bytes refusal

-- the byte 1, kind, client, number, the length of the body, the body
abbrev pub frame_bytes : ℕ → ℕ → ℕ → List ℕ → List ℕ
frame_bytes kind client number body = 1 ∷ kind
    ∷ (u32_bytes client ++ (u64_bytes number ++ (u32_bytes (length body) ++ body)))

-- the frame of a reply: client and number are those of the request
abbrev pub reply_frame : ℕ → ℕ → Reply → List ℕ
reply_frame client number reply = frame_bytes (reply_kind reply) client number (reply_bytes reply)

-- the bytes written for these requests with these replies: the frame of each reply, in order
abbrev pub reply_frames : List Frame → List Reply → List ℕ
reply_frames [] its_replies = []
reply_frames (frame ∷ frames) [] = []
reply_frames (frame ∷ frames) (reply ∷ its_replies) =
    reply_frame frame.client frame.number reply ++ reply_frames frames its_replies
