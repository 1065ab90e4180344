-- Each file of a world has as many pieces as indexes that are there, each of its due length, and a finished one lacks
-- none: each request leaves it so.
use Rattle.std.proofs.Common.{◌≡◌, ◌≤◌, inl, inr, ℕ, ℤ, ◌+◌, ◌-◌, ◌<◌, nat_lt, nat_le, List, [], ◌∷◌, length, fold, true, false, not, ◌==◌, ◌||◌, Option, Some, None, sym, ap, ◌∙◌, arith}
use Rattle.std.proofs.lemmas.Bool.{cases_Bool, and_parts, or_parts, not-false, ltb-true, ltb-false, leb-true, eqb-true}
use Rattle.std.proofs.lemmas.List.{length-append}
use Rattle.std.proofs.lemmas.List.Elements.{All-from_recursion}
use Rattle.std.specs.List.{AllByRecursion}
use Rattle.droid_assembly.specs.Pieces.{due_length, IsDue}
use Rattle.droid_assembly.proofs.Indexes.{missing_before, length-whole}
use Rattle.droid_frame.specs.declared.hash_kind.HashKind.{HashKind}
use Rattle.droid_frame.specs.declared.request.Request.{Request}
use Rattle.droid_frame.specs.declared.request.Request.TheVariants.{CreateProfile, AddFolder, AddFile, Piece, Finish, Abandon, Status, Export}
use Rattle.droid_core_spec.specs.Conditions.{is_moment, is_piece_size, piece_size_limit}
use Rattle.droid_core_spec.specs.Exported.{part_of}
use Rattle.droid_core_spec.specs.Files.{count_of, missing_of, is_due, with_piece, as_finished, progress_of}
use Rattle.droid_core_spec.specs.Histories.{History, Entry, world_after, world_asked, world_of, command}
use Rattle.droid_core_spec.specs.Judging.{Answered, Check, refusal_of, create_checks, folder_checks, file_checks, piece_checks, finish_checks, abandon_checks, export_checks, judge, judge_create, judge_folder, judge_file, judge_piece, judge_finish, judge_abandon, judge_status, judge_export, world_set, with_node, node_set}
use Rattle.droid_core_spec.specs.Setting.{Setting}
use Rattle.droid_core_spec.specs.Whole.{IsWhole, FinishedAreWhole}
use Rattle.droid_core_spec.specs.World.{Content, Node, Folder, File, Abandoned, Profile, World, empty_world, numbered, node_at}
use Rattle.droid_core_spec.proofs.Counted.{there_below, none_below, one_more_below, all_below, missing_within, lacks_where_none}
use Rattle.droid_core_spec.proofs.Each.{each_with_one_more, each_with_one_set}
use Rattle.droid_core_spec.proofs.After.{profile_there, file_there, after_checks, after_profile, after_file}

-- as many pieces as indexes, each of its due length, and none missing where it is finished
pub record IsCounted (content : Content) : Type 0 where
  pub taken : length content.pieces ≡ there_below (count_of content) content.pieces
  pub complete : content.finished ≡ true → missing_of content ≡ count_of content
  pub positive : 1 ≤ content.piece_size
  pub due : AllByRecursion (IsDue content.size content.piece_size) content.pieces

abbrev pub IsCountedNode : Node → Type 0
IsCountedNode (Folder parent modified name) = Unit {0}
IsCountedNode (File parent modified name content) = IsCounted content
IsCountedNode Abandoned = Unit {0}

abbrev pub IsCountedProfile : Profile → Type 0
IsCountedProfile profile = AllByRecursion IsCountedNode profile.nodes

abbrev pub AreCounted : World → Type 0
AreCounted world = AllByRecursion IsCountedProfile world.profiles

-- ---- a file

counted_new : (size piece_size : ℕ) → 1 ≤ piece_size → IsCounted (record { size = size; piece_size = piece_size; pieces = []; finished = false })
counted_new size piece_size positive = record {
  taken = sym (none_below (count_of (record { size = size; piece_size = piece_size; pieces = []; finished = false })));
  complete = λ is. absurd cc;
  positive = positive;
  due = tt;
}

-- where nothing is refused, no condition holds
pub none_holds : (checks : List Check) → refusal_of checks ≡ None → AllByRecursion (λ (check : Check). check.0 ≡ false) checks
none_holds [] none = tt
none_holds (check ∷ checks) none = elim (cases_Bool check.0) [
  | inl is ↦ absurd (let it = rw is at none in cc)
  | inr isnt ↦ (isnt, none_holds checks (rw isnt at none))
]

-- a size of pieces that isn't refused is 1 at least
is_positive : (version piece_size : ℕ) → is_piece_size version piece_size ≡ true → 1 ≤ piece_size
unfolding is_piece_size
is_positive version piece_size is = leb-true 1 piece_size (and_parts (nat_le 1 piece_size) (nat_le piece_size (piece_size_limit version)) is).0

positive_where_none : (version : ℕ) (modified : ℤ) (piece_size : ℕ) → (not (is_moment modified) || not (is_piece_size version piece_size)) ≡ false → 1 ≤ piece_size
positive_where_none version modified piece_size none =
    is_positive version piece_size (not-false (is_piece_size version piece_size) (or_parts (not (is_moment modified)) (not (is_piece_size version piece_size)) none).1)

counted_taken : (content : Content) (index : ℕ) (bytes : List ℕ) → IsCounted content → refusal_of (piece_checks content index bytes) ≡ None → IsCounted (with_piece content index bytes)
counted_taken content index bytes counted none =
    let all = none_holds (piece_checks content index bytes) none in
    let due = and_parts (nat_lt index (count_of content)) (length bytes == due_length content.size content.piece_size index) (not-false (is_due content index bytes) all.1.0) in
    let within : index < count_of content = ltb-true index (count_of content) due.0 in
    let more = one_more_below (count_of content) content.pieces (index, bytes) within (lacks_where_none content.pieces index all.1.1.0) in
    record {
      taken = length-append content.pieces ((index, bytes) ∷ []) ∙ (ap (λ n. n + 1) counted.taken ∙ sym more);
      complete = λ is. absurd (let unfinished = all.0 in cc);
      positive = counted.positive;
      due = each_with_one_more (IsDue content.size content.piece_size) content.pieces (index, bytes) counted.due
          (within, eqb-true (length bytes) (due_length content.size content.piece_size index) due.1);
    }

counted_finished : (version : ℕ) (hash : HashKind) (content : Content) → IsCounted content → refusal_of (finish_checks version hash content) ≡ None → IsCounted (as_finished content)
counted_finished version hash content counted none =
    let all = none_holds (finish_checks version hash content) none in
    let past = ltb-false (missing_of content) (count_of content) all.1.1.0 in
    record {
      taken = counted.taken;
      complete = λ is. omega (arith, past, missing_within (count_of content) content.pieces);
      positive = counted.positive;
      due = counted.due;
    }

pub whole_where_finished : (content : Content) → IsCounted content → content.finished ≡ true → IsWhole content
whole_where_finished content counted is =
    let none_missing = counted.complete is in
    let there = λ (k : ℕ) (below : k < count_of content). missing_before (count_of content) content.pieces k (omega (arith, none_missing, below)) in
    record {
      none_missing = none_missing;
      all_taken = counted.taken ∙ all_below (count_of content) content.pieces there;
      size = length-whole content.size content.piece_size content.pieces counted.positive
          (All-from_recursion (IsDue content.size content.piece_size) content.pieces counted.due) there;
    }

-- ---- a world after a request

module _ (world : World) (counted : AreCounted world) where
  node_added : (number : ℕ) (profile : Profile) (node : Node) → numbered world.profiles number ≡ Some profile → IsCountedNode node → AreCounted (world_set world number (with_node profile node))
  node_added number profile node is it =
      each_with_one_set IsCountedProfile world.profiles (number - 1) (with_node profile node) counted
      (each_with_one_more IsCountedNode profile.nodes node (profile_there IsCountedProfile world.profiles number profile counted is) it)

  node_changed : (number id : ℕ) (profile : Profile) (node : Node) → numbered world.profiles number ≡ Some profile → IsCountedNode node → AreCounted (world_set world number (node_set profile id node))
  node_changed number id profile node is it =
      each_with_one_set IsCountedProfile world.profiles (number - 1) (node_set profile id node) counted
      (each_with_one_set IsCountedNode profile.nodes (id - 1) node (profile_there IsCountedProfile world.profiles number profile counted is) it)

  file_in : (number id parent : ℕ) (modified : ℤ) (name : List ℕ) (content : Content) (profile : Profile) → numbered world.profiles number ≡ Some profile
      → node_at profile.nodes id ≡ Some (File parent modified name content) → IsCounted content
  file_in number id parent modified name content profile is at = file_there IsCountedNode profile.nodes id parent modified name content (profile_there IsCountedProfile world.profiles number profile counted is) at

  pub counted_after : (setting : Setting) (version : ℕ) (request : Request) → AreCounted (world_after world (judge setting world version request))
  unfolding judge judge_create judge_folder judge_file judge_piece judge_finish judge_abandon judge_status judge_export
  counted_after setting version (CreateProfile scan_limit match_all hash) =
      after_checks world AreCounted counted _ _ (λ (none : refusal_of (create_checks setting.limits world scan_limit) ≡ None).
      each_with_one_more IsCountedProfile world.profiles (record { scan_limit = scan_limit; match_all = match_all; hash = hash; nodes = [] }) counted tt)
  counted_after setting version (AddFolder number parent modified name) =
      after_profile world AreCounted counted _ _ (λ profile is. after_checks world AreCounted counted _ _ (λ (none : refusal_of (folder_checks setting.limits profile.nodes parent modified name) ≡ None).
      node_added number profile (Folder parent modified name) is tt))
  counted_after setting version (AddFile number parent modified size piece_size name) =
      after_profile world AreCounted counted _ _ (λ profile is. after_checks world AreCounted counted _ _ (λ (none : refusal_of (file_checks setting.limits world version profile.nodes parent modified size piece_size name) ≡ None).
      node_added number profile (File parent modified name (record { size = size; piece_size = piece_size; pieces = []; finished = false })) is (counted_new size piece_size (positive_where_none version modified piece_size (none_holds (file_checks setting.limits world version profile.nodes parent modified size piece_size name) none).1.1.1.1.1.0))))
  counted_after setting version (Piece number id index bytes) =
      after_profile world AreCounted counted _ _ (λ profile is. after_file world AreCounted counted _ _ (λ parent modified name content at. after_checks world AreCounted counted _ _ (λ none.
      node_changed number id profile (File parent modified name (with_piece content index bytes)) is
      (counted_taken content index bytes (file_in number id parent modified name content profile is at) none))))
  counted_after setting version (Finish number id) =
      after_profile world AreCounted counted _ _ (λ profile is. after_file world AreCounted counted _ _ (λ parent modified name content at. after_checks world AreCounted counted _ _ (λ none.
      node_changed number id profile (File parent modified name (as_finished content)) is
      (counted_finished version profile.hash content (file_in number id parent modified name content profile is at) none))))
  counted_after setting version (Abandon number id) =
      after_profile world AreCounted counted _ _ (λ profile is. after_file world AreCounted counted (node_at profile.nodes id) _ (λ parent modified name content at. after_checks world AreCounted counted _ _ (λ (none : refusal_of (abandon_checks content) ≡ None).
      node_changed number id profile Abandoned is tt)))
  counted_after setting version (Status number id) =
      after_profile world AreCounted counted (numbered world.profiles number) _ (λ profile is. after_file world AreCounted counted (node_at profile.nodes id) (λ parent modified name content. Answered (progress_of content)) (λ parent modified name content at. counted))
  counted_after setting version (Export number from max filter) =
      after_profile world AreCounted counted (numbered world.profiles number) _ (λ profile is.
      after_checks world AreCounted counted (refusal_of (export_checks max)) (Answered (part_of setting world.accepted profile from max filter)) (λ none. counted))

counted_asked : (setting : Setting) (world : World) (version : ℕ) (asked : Option Request) → AreCounted world → AreCounted (world_asked setting world version asked)
counted_asked setting world version None counted = counted
counted_asked setting world version (Some request) counted = counted_after world counted setting version request

counted_from : (setting : Setting) (world : World) (history : History) → AreCounted world → AreCounted (fold (λ (before : World) (entry : Entry). world_asked setting before entry.frame.version (command entry.frame)) world history)
counted_from setting world [] counted = counted
counted_from setting world (entry ∷ entries) counted =
    counted_from setting (world_asked setting world entry.frame.version (command entry.frame)) entries (counted_asked setting world entry.frame.version (command entry.frame) counted)

-- in each world that a history leads to the files are counted
pub counted_world : (setting : Setting) (history : History) → AreCounted (world_of setting history)
unfolding world_of
counted_world setting history = counted_from setting empty_world history tt

pub finished_are_whole : (world : World) → AreCounted world → FinishedAreWhole world
finished_are_whole world counted number id parent modified name content profile is at finished =
    whole_where_finished content (file_in world counted number id parent modified name content profile is at) finished

-- so it is in each world that a history leads to
pub finished_of_history : (setting : Setting) (history : History) → FinishedAreWhole (world_of setting history)
finished_of_history setting history = finished_are_whole (world_of setting history) (counted_world setting history)
