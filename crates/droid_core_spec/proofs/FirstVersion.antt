-- Where all frames are of version 1 each profile has MD5s and no file larger pieces: each request leaves it so.
use Rattle.std.proofs.Common.{◌≡◌, ◌≢◌, ◌≤◌, ℕ, ℤ, ◌-◌, ◌||◌, Bool, true, false, not, nat_le, nat_lt, cond, List, [], ◌∷◌, fold, Option, Some, None, refl, sym, subst}
use Rattle.std.proofs.lemmas.Bool.{and_parts, or_parts, not-false, leb-true}
use Rattle.std.specs.List.{AllByRecursion}
use Rattle.droid_frame.specs.Bodies.{HasSpelling, HashFits}
use Rattle.droid_frame.specs.declared.frame.Frame.{Frame}
use Rattle.droid_frame.specs.declared.hash_kind.HashKind.{HashKind}
use Rattle.droid_frame.specs.declared.hash_kind.HashKind.TheVariants as hashes
use Rattle.droid_frame.specs.declared.refusal.Refusal.TheVariants.{AlreadyFinished, BadOption, Incomplete}
use Rattle.droid_frame.specs.declared.reply.Reply.{Reply}
use Rattle.droid_frame.specs.declared.request.Request.{Request}
use Rattle.droid_frame.specs.declared.request.Request.TheVariants.{CreateProfile, AddFolder, AddFile, Piece, Finish, Abandon, Status, Export}
use Rattle.droid_core_spec.specs.Conditions.{is_moment, is_piece_size}
use Rattle.droid_core_spec.specs.Exported.{part_of}
use Rattle.droid_core_spec.specs.Files.{count_of, missing_of, with_piece, as_finished, finding_of, finished_reply, progress_of}
use Rattle.droid_core_spec.specs.FirstVersion.{IsOfVersion1, HasSmallPieces, IsProfileOfVersion1, IsWorldOfVersion1}
use Rattle.droid_core_spec.specs.Histories.{Entry, History, Meeting, Nothing, Repeat, Reuse, New, command, entry_of, history_with, history_from, meeting, next, world_after, world_asked, world_of}
use Rattle.droid_core_spec.specs.Judging.{Accepted, Answered, Refuses, refusal_of, unless_refused, in_profile, in_file, create_checks, folder_checks, file_checks, piece_checks, finish_checks, abandon_checks, export_checks, judge, judge_create, judge_folder, judge_file, judge_piece, judge_finish, judge_abandon, judge_status, judge_export, world_set, with_node, node_set}
use Rattle.droid_core_spec.specs.Setting.{Setting}
use Rattle.droid_core_spec.specs.World.{Content, Node, Folder, File, Abandoned, Profile, World, empty_world, numbered, node_at}
use Rattle.droid_core_spec.proofs.After.{profile_there, file_there, after_checks, after_profile, after_file}
use Rattle.droid_core_spec.proofs.Asked.{asks}
use Rattle.droid_core_spec.proofs.Each.{each_with_one_more, each_with_one_set}
use Rattle.droid_core_spec.proofs.Whole.{none_holds}

-- a size of pieces that isn't refused in version 1
small_pieces : (modified : ℤ) (piece_size : ℕ) → (not (is_moment modified) || not (is_piece_size 1 piece_size)) ≡ false → piece_size ≤ 1048576
unfolding is_piece_size
small_pieces modified piece_size none =
    let is = not-false (is_piece_size 1 piece_size) (or_parts (not (is_moment modified)) (not (is_piece_size 1 piece_size)) none).1 in
    leb-true piece_size 1048576 (and_parts (nat_le 1 piece_size) (nat_le piece_size 1048576) is).1

-- ---- a world after a request of version 1

module _ (world : World) (plain : IsWorldOfVersion1 world) where
  pub its_profile : (number : ℕ) (profile : Profile) → numbered world.profiles number ≡ Some profile → IsProfileOfVersion1 profile
  its_profile number profile is = profile_there IsProfileOfVersion1 world.profiles number profile plain is

  node_added : (number : ℕ) (profile : Profile) (node : Node) → numbered world.profiles number ≡ Some profile → HasSmallPieces node → IsWorldOfVersion1 (world_set world number (with_node profile node))
  node_added number profile node is small =
      let its = its_profile number profile is in
      each_with_one_set IsProfileOfVersion1 world.profiles (number - 1) (with_node profile node) plain
      (record { hash = its.hash; nodes = each_with_one_more HasSmallPieces profile.nodes node its.nodes small })

  node_changed : (number id : ℕ) (profile : Profile) (node : Node) → numbered world.profiles number ≡ Some profile → HasSmallPieces node → IsWorldOfVersion1 (world_set world number (node_set profile id node))
  node_changed number id profile node is small =
      let its = its_profile number profile is in
      each_with_one_set IsProfileOfVersion1 world.profiles (number - 1) (node_set profile id node) plain
      (record { hash = its.hash; nodes = each_with_one_set HasSmallPieces profile.nodes (id - 1) node its.nodes small })

  file_in : (number id parent : ℕ) (modified : ℤ) (name : List ℕ) (content : Content) (profile : Profile) → numbered world.profiles number ≡ Some profile
      → node_at profile.nodes id ≡ Some (File parent modified name content) → content.piece_size ≤ 1048576
  file_in number id parent modified name content profile is at = file_there HasSmallPieces profile.nodes id parent modified name content (its_profile number profile is).nodes at

  plain_after : (setting : Setting) (request : Request) → HashFits 1 request → IsWorldOfVersion1 (world_after world (judge setting world 1 request))
  unfolding judge judge_create judge_folder judge_file judge_piece judge_finish judge_abandon judge_status judge_export
  plain_after setting (CreateProfile scan_limit match_all hash) fits =
      after_checks world IsWorldOfVersion1 plain _ _ (λ (none : refusal_of (create_checks setting.limits world scan_limit) ≡ None).
      each_with_one_more IsProfileOfVersion1 world.profiles (record { scan_limit = scan_limit; match_all = match_all; hash = hash; nodes = [] }) plain (record { hash = fits; nodes = tt }))
  plain_after setting (AddFolder number parent modified name) fits =
      after_profile world IsWorldOfVersion1 plain _ _ (λ profile is.
      after_checks world IsWorldOfVersion1 plain _ _ (λ (none : refusal_of (folder_checks setting.limits profile.nodes parent modified name) ≡ None).
      node_added number profile (Folder parent modified name) is tt))
  plain_after setting (AddFile number parent modified size piece_size name) fits =
      after_profile world IsWorldOfVersion1 plain _ _ (λ profile is.
      after_checks world IsWorldOfVersion1 plain _ _ (λ (none : refusal_of (file_checks setting.limits world 1 profile.nodes parent modified size piece_size name) ≡ None).
      node_added number profile (File parent modified name (record { size = size; piece_size = piece_size; pieces = []; finished = false })) is
      (small_pieces modified piece_size (none_holds (file_checks setting.limits world 1 profile.nodes parent modified size piece_size name) none).1.1.1.1.1.0)))
  plain_after setting (Piece number id index bytes) fits =
      after_profile world IsWorldOfVersion1 plain _ _ (λ profile is. after_file world IsWorldOfVersion1 plain _ _ (λ parent modified name content at.
      after_checks world IsWorldOfVersion1 plain _ _ (λ (none : refusal_of (piece_checks content index bytes) ≡ None).
      node_changed number id profile (File parent modified name (with_piece content index bytes)) is (file_in number id parent modified name content profile is at))))
  plain_after setting (Finish number id) fits =
      after_profile world IsWorldOfVersion1 plain _ _ (λ profile is. after_file world IsWorldOfVersion1 plain _ _ (λ parent modified name content at.
      after_checks world IsWorldOfVersion1 plain _ _ (λ (none : refusal_of (finish_checks 1 profile.hash content) ≡ None).
      node_changed number id profile (File parent modified name (as_finished content)) is (file_in number id parent modified name content profile is at))))
  plain_after setting (Abandon number id) fits =
      after_profile world IsWorldOfVersion1 plain _ _ (λ profile is. after_file world IsWorldOfVersion1 plain (node_at profile.nodes id) _ (λ parent modified name content at.
      after_checks world IsWorldOfVersion1 plain _ _ (λ (none : refusal_of (abandon_checks content) ≡ None). node_changed number id profile Abandoned is tt)))
  plain_after setting (Status number id) fits =
      after_profile world IsWorldOfVersion1 plain (numbered world.profiles number) _ (λ profile is.
      after_file world IsWorldOfVersion1 plain (node_at profile.nodes id) (λ parent modified name content. Answered (progress_of content)) (λ parent modified name content at. plain))
  plain_after setting (Export number from max filter) fits =
      after_profile world IsWorldOfVersion1 plain (numbered world.profiles number) _ (λ profile is.
      after_checks world IsWorldOfVersion1 plain (refusal_of (export_checks max)) (Answered (part_of setting world.accepted profile from max filter)) (λ none. plain))

-- ---- what a frame of version 1 asks

hash_fits : (version : ℕ) (request : Request) → HasSpelling version request → HashFits version request
hash_fits version (CreateProfile scan_limit match_all hash) has = has.1
hash_fits version (AddFolder number parent modified name) has = tt
hash_fits version (AddFile number parent modified size piece_size name) has = tt
hash_fits version (Piece number file index bytes) has = tt
hash_fits version (Finish number file) has = tt
hash_fits version (Abandon number file) has = tt
hash_fits version (Status number file) has = tt
hash_fits version (Export number from max filter) has = tt

pub asks_fitting : (frame : Frame) (request : Request) → IsOfVersion1 frame → command frame ≡ Some request → HashFits 1 request
asks_fitting frame request is asked =
    subst (λ version. HashFits version request) is.version (hash_fits frame.version request (asks frame request is.bytes asked).spelled.has_spelling)

pub plain_asked : (setting : Setting) (world : World) (frame : Frame) (o : Option Request) → command frame ≡ o → IsOfVersion1 frame → IsWorldOfVersion1 world
    → IsWorldOfVersion1 (world_asked setting world frame.version o)
plain_asked setting world frame None asked is plain = plain
plain_asked setting world frame (Some request) asked is plain =
    subst (λ version. IsWorldOfVersion1 (world_after world (judge setting world version request))) (sym is.version) (plain_after world plain setting request (asks_fitting frame request is asked))

-- ---- the history and the world after a list of them

-- each accepted request was a frame of version 1
abbrev pub AreOfVersion1 : History → Type 0
AreOfVersion1 history = AllByRecursion (λ entry. IsOfVersion1 entry.frame) history

module _ (history : History) (frame : Frame) (are : AreOfVersion1 history) (is : IsOfVersion1 frame) where
  with_one : (met : Meeting) → AreOfVersion1 (history_with history frame met)
  with_one Nothing = are
  with_one (Repeat entry) = are
  with_one Reuse = are
  with_one (New (Accepted reply after)) = each_with_one_more (λ (entry : Entry). IsOfVersion1 entry.frame) history (entry_of frame reply) are is
  with_one (New (Answered reply)) = are
  with_one (New (Refuses refusal)) = are

  pub next_of_version_1 : (setting : Setting) → AreOfVersion1 (next setting history frame)
  unfolding next
  next_of_version_1 setting = with_one (meeting setting history frame)

pub history_of_version_1 : (setting : Setting) (history : History) (frames : List Frame) → AreOfVersion1 history → AllByRecursion IsOfVersion1 frames → AreOfVersion1 (history_from setting history frames)
history_of_version_1 setting history [] are all = are
history_of_version_1 setting history (frame ∷ frames) are all =
    history_of_version_1 setting (next setting history frame) frames (next_of_version_1 history frame are all.0 setting) all.1

plain_from : (setting : Setting) (world : World) (history : History) → AreOfVersion1 history → IsWorldOfVersion1 world
    → IsWorldOfVersion1 (fold (λ (before : World) (entry : Entry). world_asked setting before entry.frame.version (command entry.frame)) world history)
plain_from setting world [] are plain = plain
plain_from setting world (entry ∷ entries) are plain =
    plain_from setting (world_asked setting world entry.frame.version (command entry.frame)) entries are.1 (plain_asked setting world entry.frame (command entry.frame) refl are.0 plain)

pub plain_world : (setting : Setting) (history : History) → AreOfVersion1 history → IsWorldOfVersion1 (world_of setting history)
unfolding world_of
plain_world setting history are = plain_from setting empty_world history are tt

pub world_of_version_1 : (setting : Setting) (frames : List Frame) → AllByRecursion IsOfVersion1 frames → IsWorldOfVersion1 (world_of setting (history_from setting [] frames))
world_of_version_1 setting frames all = plain_world setting (history_from setting [] frames) (history_of_version_1 setting [] frames tt all)

-- ---- a Finish of version 1 there

module _ (setting : Setting) (world : World) (number file : ℕ) (plain : IsWorldOfVersion1 world) where
  not_bad : (finished lacks : Bool) (missing : ℕ) (reply : Reply) (after : World)
      → unless_refused (cond finished (Some AlreadyFinished) (cond lacks (Some (Incomplete missing)) None)) (Accepted reply after) ≢ Refuses BadOption
  not_bad true lacks missing reply after is = absurd cc
  not_bad false true missing reply after is = absurd cc
  not_bad false false missing reply after is = absurd cc

  with_md5 : (hash : HashKind) (content : Content) (reply : Reply) (after : World) → hash ≡ hashes.Md5 → unless_refused (refusal_of (finish_checks 1 hash content)) (Accepted reply after) ≢ Refuses BadOption
  with_md5 hash content reply after is = rw is (not_bad content.finished (nat_lt (missing_of content) (count_of content)) (missing_of content) reply after)

  at_node : (profile : Profile) (found : Option Node) → IsProfileOfVersion1 profile
      → in_file found (λ parent modified name content.
      unless_refused (refusal_of (finish_checks 1 profile.hash content))
      (Accepted (finished_reply (finding_of setting profile name content)) (world_set world number (node_set profile file (File parent modified name (as_finished content))))))
      ≢ Refuses BadOption
  at_node profile None its is = absurd cc
  at_node profile (Some (Folder parent modified name)) its is = absurd cc
  at_node profile (Some (File parent modified name content)) its is =
      with_md5 profile.hash content (finished_reply (finding_of setting profile name content)) (world_set world number (node_set profile file (File parent modified name (as_finished content)))) its.hash is
  at_node profile (Some Abandoned) its is = absurd cc

  at_profile : (found : Option Profile) → numbered world.profiles number ≡ found
      → in_profile found (λ profile. in_file (node_at profile.nodes file) (λ parent modified name content.
      unless_refused (refusal_of (finish_checks 1 profile.hash content))
      (Accepted (finished_reply (finding_of setting profile name content)) (world_set world number (node_set profile file (File parent modified name (as_finished content)))))))
      ≢ Refuses BadOption
  at_profile None there is = absurd cc
  at_profile (Some profile) there is = at_node profile (node_at profile.nodes file) (its_profile world plain number profile there) is

  pub finish_of_version_1 : judge setting world 1 (Finish number file) ≢ Refuses BadOption
  unfolding judge judge_finish
  finish_of_version_1 = at_profile (numbered world.profiles number) refl
