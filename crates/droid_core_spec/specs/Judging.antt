-- Judging a request in a world: the first refusal whose condition holds, or else the reply and, for a command, the
-- world after it (this project's own). Only AddFile and Finish are judged by the version in which they were sent.
use Rattle.std.specs.Prelude.{ℕ, ℤ, ◌+◌, ◌-◌, ◌||◌, nat_lt, nat_le, if◌then◌else◌, Bool, false, not, List, [], ◌∷◌}
use Rattle.std.specs.Prelude.{◌++◌, length, slice_set, Option, Some, None}
use Rattle.droid_frame.specs.declared.filter.Filter.{Filter}
use Rattle.droid_frame.specs.declared.hash_kind.HashKind.{HashKind}
use Rattle.droid_frame.specs.declared.refusal.Limit.TheVariants as reached
use Rattle.droid_frame.specs.declared.refusal.Refusal.{Refusal}
use Rattle.droid_frame.specs.declared.refusal.Refusal.TheVariants.{NoSuchProfile, NoSuchNode, NotAFolder, NotAFile}
use Rattle.droid_frame.specs.declared.refusal.Refusal.TheVariants.{BadName, PathTooLong, NameTaken, BadOption, TooLarge}
use Rattle.droid_frame.specs.declared.refusal.Refusal.TheVariants.{AlreadyFinished, BadPiece, PieceHeld, TooFarAhead}
use Rattle.droid_frame.specs.declared.refusal.Refusal.TheVariants.{Incomplete, LimitReached}
use Rattle.droid_frame.specs.declared.reply.Reply.{Reply}
use Rattle.droid_frame.specs.declared.reply.Reply.TheVariants as replies
use Rattle.droid_frame.specs.declared.request.Request.{Request}
use Rattle.droid_frame.specs.declared.request.Request.TheVariants.{CreateProfile, AddFolder, AddFile, Piece, Finish}
use Rattle.droid_frame.specs.declared.request.Request.TheVariants.{Abandon, Status, Export}
use Rattle.droid_core_spec.specs.Limits.{Limits}
use Rattle.droid_core_spec.specs.Conditions.{is_scan_limit, is_piece_size, is_part_size, is_too_large, is_moment}
use Rattle.droid_core_spec.specs.Conditions.{is_bad_name, is_missing, is_file, is_too_deep, is_carried}
use Rattle.droid_core_spec.specs.Exported.{part_of}
use Rattle.droid_core_spec.specs.Files.{count_of, missing_of, has_piece, is_due, is_too_far, with_piece, as_finished}
use Rattle.droid_core_spec.specs.Files.{finding_of, finished_reply, progress_of, unfinished_in}
use Rattle.droid_core_spec.specs.Setting.{Setting}
use Rattle.droid_core_spec.specs.World.{Content, Node, Folder, File, Abandoned, Profile, World, numbered, node_at}
use Rattle.droid_core_spec.specs.World.{is_taken, world_with}

-- a command is accepted, with its reply and the world after it; or a query is answered and changes nothing; or either
-- is refused and changes nothing
pub data Verdict : Type 0 where
  Accepted : (reply : Reply) (after : World) → Verdict
  Answered : (reply : Reply) → Verdict
  Refuses : (refusal : Refusal) → Verdict

-- a condition, and the refusal if it holds
abbrev pub Check : Type 0
Check = Bool × Refusal

-- the first refusal whose condition holds
abbrev pub refusal_of : List Check → Option Refusal
refusal_of [] = None
refusal_of (check ∷ checks) = if check.0 then Some check.1 else refusal_of checks

-- the refusal, or else the verdict on the request
abbrev pub unless_refused : Option Refusal → Verdict → Verdict
unless_refused (Some refusal) verdict = Refuses refusal
unless_refused None verdict = verdict

-- ---- look-ups come first

-- the verdict on a request in the profile, if there is one
abbrev pub in_profile : Option Profile → (Profile → Verdict) → Verdict
in_profile None judge_there = Refuses NoSuchProfile
in_profile (Some profile) judge_there = judge_there profile

-- the verdict on a request for the file, if the node is one
abbrev pub in_file : Option Node → (ℕ → ℤ → List ℕ → Content → Verdict) → Verdict
in_file None judge_there = Refuses NoSuchNode
in_file (Some Abandoned) judge_there = Refuses NoSuchNode
in_file (Some (Folder parent modified name)) judge_there = Refuses NotAFile
in_file (Some (File parent modified name content)) judge_there = judge_there parent modified name content

-- ---- changes

-- the world with this profile in the place of another
abbrev pub world_set : World → ℕ → Profile → World
world_set world profile its = world_with world (slice_set world.profiles (profile - 1) its)

-- the profile with one node more
abbrev pub with_node : Profile → Node → Profile
with_node profile node = record profile { nodes = profile.nodes ++ node ∷ [] }

-- the profile with this node in the place of another
abbrev pub node_set : Profile → ℕ → Node → Profile
node_set profile id node = record profile { nodes = slice_set profile.nodes (id - 1) node }

-- ---- checks, in their order

-- of a CreateProfile
abbrev pub create_checks : Limits → World → ℕ → List Check
create_checks limits world scan_limit =
    (not (is_scan_limit scan_limit), BadOption)
    ∷ (nat_le limits.profiles (length world.profiles), LimitReached reached.Profiles)
    ∷ []

-- a new node of this folder
abbrev pub place_checks : List Node → ℕ → List ℕ → List Check
place_checks nodes parent name =
    (is_missing nodes parent, NoSuchNode)
    ∷ (is_file (node_at nodes parent), NotAFolder)
    ∷ (is_bad_name name, BadName)
    ∷ (is_too_deep nodes parent name, PathTooLong)
    ∷ (is_taken nodes parent name, NameTaken)
    ∷ []

-- of an AddFolder
abbrev pub folder_checks : Limits → List Node → ℕ → ℤ → List ℕ → List Check
folder_checks limits nodes parent modified name =
    place_checks nodes parent name
    ++ (not (is_moment modified), BadOption)
    ∷ (nat_le limits.nodes (length nodes), LimitReached reached.Nodes)
    ∷ []

-- of an AddFile: the limit of unfinished files is that of the whole service, and version 2 allows larger pieces
abbrev pub file_checks : Limits → World → ℕ → List Node → ℕ → ℤ → ℕ → ℕ → List ℕ → List Check
file_checks limits world version nodes parent modified size piece_size name =
    place_checks nodes parent name
    ++ (not (is_moment modified) || not (is_piece_size version piece_size), BadOption)
    ∷ (is_too_large size piece_size, TooLarge)
    ∷ (nat_le limits.nodes (length nodes), LimitReached reached.Nodes)
    ∷ (nat_le limits.unfinished (unfinished_in world), LimitReached reached.Unfinished)
    ∷ []

-- of a Piece of this file
abbrev pub piece_checks : Content → ℕ → List ℕ → List Check
piece_checks content index bytes =
    (content.finished, AlreadyFinished)
    ∷ (not (is_due content index bytes), BadPiece)
    ∷ (has_piece content index, PieceHeld)
    ∷ (is_too_far content index, TooFarAhead (missing_of content))
    ∷ []

-- of a file with this hash, which the reply has to carry in the version of the request
abbrev pub finish_checks : ℕ → HashKind → Content → List Check
finish_checks version hash content =
    (content.finished, AlreadyFinished)
    ∷ (not (is_carried version hash), BadOption)
    ∷ (nat_lt (missing_of content) (count_of content), Incomplete (missing_of content))
    ∷ []

-- of an Abandon of this file
abbrev pub abandon_checks : Content → List Check
abandon_checks content = (content.finished, AlreadyFinished) ∷ []

-- of an Export, which asks for up to this many bytes
abbrev pub export_checks : ℕ → List Check
export_checks max = (not (is_part_size max), BadOption) ∷ []

-- ---- requests, each by its kind; profiles and nodes are numbered from 1, in order of acceptance

-- a CreateProfile, which adds an empty profile
unfoldable pub judge_create : Setting → World → ℕ → Bool → HashKind → Verdict
judge_create setting world scan_limit match_all hash =
    unless_refused (refusal_of (create_checks setting.limits world scan_limit))
    (Accepted (replies.Made (length world.profiles + 1))
    (world_with world
    (world.profiles ++ record { scan_limit = scan_limit; match_all = match_all; hash = hash; nodes = [] } ∷ [])))

-- an AddFolder, which adds a folder to the profile
unfoldable pub judge_folder : Setting → World → ℕ → ℕ → ℤ → List ℕ → Verdict
judge_folder setting world profile parent modified name =
    in_profile (numbered world.profiles profile) (λ its.
    unless_refused (refusal_of (folder_checks setting.limits its.nodes parent modified name))
    (Accepted (replies.Node (length its.nodes + 1))
    (world_set world profile (with_node its (Folder parent modified name)))))

-- an AddFile, which adds an unfinished file without pieces to the profile
unfoldable pub judge_file : Setting → World → ℕ → ℕ → ℕ → ℤ → ℕ → ℕ → List ℕ → Verdict
judge_file setting world version profile parent modified size piece_size name =
    in_profile (numbered world.profiles profile) (λ its.
    unless_refused
    (refusal_of (file_checks setting.limits world version its.nodes parent modified size piece_size name))
    (Accepted (replies.Node (length its.nodes + 1)) (world_set world profile (with_node its
    (File parent modified name (record { size = size; piece_size = piece_size; pieces = []; finished = false }))))))

-- a Piece, which the file takes last
unfoldable pub judge_piece : World → ℕ → ℕ → ℕ → List ℕ → Verdict
judge_piece world profile file index bytes =
    in_profile (numbered world.profiles profile) (λ its.
    in_file (node_at its.nodes file) (λ parent modified name content.
    unless_refused (refusal_of (piece_checks content index bytes))
    (Accepted (replies.Taken (length content.pieces + 1))
    (world_set world profile (node_set its file (File parent modified name (with_piece content index bytes)))))))

-- a Finish, which says what the file is found to be
unfoldable pub judge_finish : Setting → World → ℕ → ℕ → ℕ → Verdict
judge_finish setting world version profile file =
    in_profile (numbered world.profiles profile) (λ its.
    in_file (node_at its.nodes file) (λ parent modified name content.
    unless_refused (refusal_of (finish_checks version its.hash content))
    (Accepted (finished_reply (finding_of setting its name content))
    (world_set world profile (node_set its file (File parent modified name (as_finished content)))))))

-- an Abandon, after which the file's number is still taken, but no node has it
unfoldable pub judge_abandon : World → ℕ → ℕ → Verdict
judge_abandon world profile file =
    in_profile (numbered world.profiles profile) (λ its.
    in_file (node_at its.nodes file) (λ parent modified name content.
    unless_refused (refusal_of (abandon_checks content))
    (Accepted replies.Abandoned (world_set world profile (node_set its file Abandoned)))))

-- a Status, which says how many pieces the file has
unfoldable pub judge_status : World → ℕ → ℕ → Verdict
judge_status world profile file =
    in_profile (numbered world.profiles profile) (λ its.
    in_file (node_at its.nodes file) (λ parent modified name content.
    Answered (progress_of content)))

-- an Export, which says a part of the profile's text
unfoldable pub judge_export : Setting → World → ℕ → ℕ → ℕ → Filter → Verdict
judge_export setting world profile from max filter =
    in_profile (numbered world.profiles profile) (λ its.
    unless_refused (refusal_of (export_checks max))
    (Answered (part_of setting world.accepted its from max filter)))

-- by the kind of request, in the version in which it was sent
unfoldable pub judge : Setting → World → ℕ → Request → Verdict
judge setting world version (CreateProfile scan_limit match_all hash) =
    judge_create setting world scan_limit match_all hash
judge setting world version (AddFolder profile parent modified name) =
    judge_folder setting world profile parent modified name
judge setting world version (AddFile profile parent modified size piece_size name) =
    judge_file setting world version profile parent modified size piece_size name
judge setting world version (Piece profile file index bytes) = judge_piece world profile file index bytes
judge setting world version (Finish profile file) = judge_finish setting world version profile file
judge setting world version (Abandon profile file) = judge_abandon world profile file
judge setting world version (Status profile file) = judge_status world profile file
judge setting world version (Export profile from max filter) = judge_export setting world profile from max filter
