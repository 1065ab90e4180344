-- A sound world stays sound with each command that is accepted.
use Rattle.std.proofs.Common.{◌≡◌, inl, inr, ℕ, zero, suc, ℤ, ◌-◌, List, [], ◌∷◌, ◌++◌, Bool, false, not, Option, Some, None, is_none, IsTrue, slice_get, slice_set, refl, sym, ap, ◌∙◌, arith}
use Rattle.std.proofs.lemmas.Bool.{cases_Bool, false≢true, true≢false, not-false, or_parts}
use Rattle.std.specs.List.{AllByRecursion}
use Rattle.droid_frame.specs.declared.hash_kind.HashKind.{HashKind}
use Rattle.droid_core_spec.specs.Conditions.{is_moment, is_piece_size, is_scan_limit, is_missing, is_file}
use Rattle.droid_core_spec.specs.Judging.{Check, refusal_of, create_checks, place_checks, folder_checks, file_checks, world_set, with_node, node_set}
use Rattle.droid_core_spec.specs.Limits.{Limits}
use Rattle.droid_core_spec.specs.World.{Content, Node, Folder, File, Abandoned, Profile, World, empty_world, world_with, numbered, node_at, unless_abandoned}
use Rattle.droid_core.specs.Sound.{is_folder, IsPlace, IsSized, IsSoundNode, IsSoundProfile, IsSoundWorld}
use Rattle.droid_core_spec.proofs.Each.{each_at, each_with_one_more, each_with_one_set}
use Rattle.droid_core.proofs.Lists.{each_weaker}
use Rattle.droid_core.proofs.Sizes.{allowed_in_2}

pub sound_empty : IsSoundWorld empty_world
sound_empty = tt

pub sound_made : (world : World) (scan_limit : ℕ) (match_all : Bool) (hash : HashKind) → IsSoundWorld world → IsTrue (is_scan_limit scan_limit)
    → IsSoundWorld (world_with world (world.profiles ++ record { scan_limit = scan_limit; match_all = match_all; hash = hash; nodes = [] } ∷ []))
sound_made world scan_limit match_all hash sound within =
    each_with_one_more IsSoundProfile world.profiles (record { scan_limit = scan_limit; match_all = match_all; hash = hash; nodes = [] }) sound (record { scan_limit = within; nodes = tt })

pub sound_profile : (world : World) (number : ℕ) (profile : Profile) → IsSoundWorld world → numbered world.profiles number ≡ Some profile → IsSoundProfile profile
sound_profile world zero profile sound is = absurd cc
sound_profile world (suc place) profile sound is = each_at IsSoundProfile world.profiles place profile sound is

-- ---- nodes stay where they lie

-- a change of the nodes after which each folder is one still
AreFoldersStill : List Node → List Node → Type 0
AreFoldersStill old new = (place : ℕ) → IsTrue (is_folder (node_at old (suc place))) → IsTrue (is_folder (node_at new (suc place)))

module _ (old new : List Node) (still : AreFoldersStill old new) where
  place_still : (place : ℕ) → IsPlace old place → IsPlace new place
  unfolding AreFoldersStill
  place_still zero it = tt
  place_still (suc place) it = still place it

  node_still : (node : Node) → IsSoundNode old node → IsSoundNode new node
  node_still (Folder parent modified name) it = (place_still parent it.0, it.1)
  node_still (File parent modified name content) it = (place_still parent it.0, it.1, it.2)
  node_still Abandoned it = tt

  nodes_still : (nodes : List Node) → AllByRecursion (IsSoundNode old) nodes → AllByRecursion (IsSoundNode new) nodes
  nodes_still = each_weaker (IsSoundNode old) (IsSoundNode new) node_still

-- ---- one node more

folders_of_more : (nodes more : List Node) → AreFoldersStill nodes (nodes ++ more)
unfolding AreFoldersStill
folders_of_more [] more place is = absurd (false≢true is)
folders_of_more (node ∷ nodes) more zero is = is
folders_of_more (node ∷ nodes) more (suc place) is = folders_of_more nodes more place is

pub sound_added : (world : World) (number : ℕ) (profile : Profile) (node : Node) → IsSoundWorld world → numbered world.profiles number ≡ Some profile → IsSoundNode profile.nodes node
    → IsSoundWorld (world_set world number (with_node profile node))
sound_added world number profile node sound is it =
    let old = sound_profile world number profile sound is in
    let more = profile.nodes ++ node ∷ [] in
    let still = folders_of_more profile.nodes (node ∷ []) in
    each_with_one_set IsSoundProfile world.profiles (number - 1) (with_node profile node) sound (record {
      scan_limit = old.scan_limit;
      nodes = each_with_one_more (IsSoundNode more) profile.nodes node (nodes_still profile.nodes more still profile.nodes old.nodes) (node_still profile.nodes more still node it);
    })

-- ---- a node in the place of a file

folders_of_set : (nodes : List Node) (place : ℕ) (node : Node) → is_folder (node_at nodes (suc place)) ≡ false → AreFoldersStill nodes (slice_set nodes place node)
unfolding AreFoldersStill
folders_of_set [] place node isnt other is = absurd (false≢true is)
folders_of_set (old ∷ nodes) zero node isnt zero is = absurd (true≢false (sym is ∙ isnt))
folders_of_set (old ∷ nodes) zero node isnt (suc other) is = is
folders_of_set (old ∷ nodes) (suc place) node isnt zero is = is
folders_of_set (old ∷ nodes) (suc place) node isnt (suc other) is = folders_of_set nodes place node isnt other is

-- where the file is, counted from 0
pub file_place : (nodes : List Node) (id parent : ℕ) (modified : ℤ) (name : List ℕ) (content : Content) → node_at nodes id ≡ Some (File parent modified name content)
    → slice_get nodes (id - 1) ≡ Some (File parent modified name content)
file_place nodes zero parent modified name content is = absurd cc
file_place nodes (suc place) parent modified name content is =
    let here : suc place - 1 ≡ place = omega arith in
    rw here (unless (slice_get nodes place) is)
  where
    unless : (found : Option Node) → unless_abandoned found ≡ Some (File parent modified name content) → found ≡ Some (File parent modified name content)
    unless None it = absurd cc
    unless (Some (Folder p m n)) it = it
    unless (Some (File p m n c)) it = it
    unless (Some Abandoned) it = absurd cc

module _ (world : World) (number : ℕ) (profile : Profile) (id parent : ℕ) (modified : ℤ) (name : List ℕ) (content : Content) (sound : IsSoundWorld world)
    (is : numbered world.profiles number ≡ Some profile) (there : node_at profile.nodes id ≡ Some (File parent modified name content)) where
  sound_set : (node : Node) → IsSoundNode profile.nodes node → IsSoundWorld (world_set world number (node_set profile id node))
  sound_set node it =
      let old = sound_profile world number profile sound is in
      let place = id - 1 in
      let now = slice_set profile.nodes place node in
      let still = folders_of_set profile.nodes place node (ap (λ found. is_folder (unless_abandoned found)) (file_place profile.nodes id parent modified name content there)) in
      each_with_one_set IsSoundProfile world.profiles (number - 1) (node_set profile id node) sound (record {
        scan_limit = old.scan_limit;
        nodes = each_with_one_set (IsSoundNode now) profile.nodes place node (nodes_still profile.nodes now still profile.nodes old.nodes) (node_still profile.nodes now still node it);
      })

  its_soundness : IsSoundNode profile.nodes (File parent modified name content)
  its_soundness = each_at (IsSoundNode profile.nodes) profile.nodes (id - 1) (File parent modified name content) (sound_profile world number profile sound is).nodes (file_place profile.nodes id parent modified name content there)

  pub sound_sizes : IsSized content.size content.piece_size
  sound_sizes = its_soundness.2

  -- another content of the same sizes
  pub sound_file_set : (after : Content) → after.size ≡ content.size → after.piece_size ≡ content.piece_size → IsSoundWorld (world_set world number (node_set profile id (File parent modified name after)))
  sound_file_set after size piece_size = sound_set (File parent modified name after) (its_soundness.0, its_soundness.1, rw (size, piece_size) its_soundness.2)

  pub sound_abandoned : IsSoundWorld (world_set world number (node_set profile id Abandoned))
  sound_abandoned = sound_set Abandoned tt

-- ---- what the checks of a command see to

-- where nothing is refused, no condition holds
pub none_holds : (checks : List Check) → refusal_of checks ≡ None → AllByRecursion (λ (check : Check). check.0 ≡ false) checks
none_holds [] none = tt
none_holds (check ∷ checks) none = elim (cases_Bool check.0) [
  | inl is ↦ absurd (let it = rw is at none in cc)
  | inr isnt ↦ (isnt, none_holds checks (rw isnt at none))
]

folder_there : (found : Option Node) → is_none (unless_abandoned found) ≡ false → is_file (unless_abandoned found) ≡ false → IsTrue (is_folder (unless_abandoned found))
unfolding is_file
folder_there None some plain = absurd (true≢false some)
folder_there (Some (Folder parent modified name)) some plain = refl
folder_there (Some (File parent modified name content)) some plain = absurd (true≢false plain)
folder_there (Some Abandoned) some plain = absurd (true≢false some)

pub place_of : (nodes : List Node) (parent : ℕ) → is_missing nodes parent ≡ false → is_file (node_at nodes parent) ≡ false → IsPlace nodes parent
unfolding is_missing
place_of nodes zero there plain = tt
place_of nodes (suc place) there plain = folder_there (slice_get nodes place) there plain

pub place_of_checks : (nodes : List Node) (parent : ℕ) (name : List ℕ) (more : List Check) → refusal_of (place_checks nodes parent name ++ more) ≡ None → IsPlace nodes parent
place_of_checks nodes parent name more none =
    let all = none_holds (place_checks nodes parent name ++ more) none in
    place_of nodes parent all.0 all.1.0

pub scan_limit_of_checks : (limits : Limits) (world : World) (scan_limit : ℕ) → refusal_of (create_checks limits world scan_limit) ≡ None → IsTrue (is_scan_limit scan_limit)
scan_limit_of_checks limits world scan_limit none = not-false (is_scan_limit scan_limit) (none_holds (create_checks limits world scan_limit) none).0

pub folder_of_checks : (limits : Limits) (nodes : List Node) (parent : ℕ) (modified : ℤ) (name : List ℕ) → refusal_of (folder_checks limits nodes parent modified name) ≡ None
    → IsSoundNode nodes (Folder parent modified name)
folder_of_checks limits nodes parent modified name none =
    let all = none_holds (folder_checks limits nodes parent modified name) none in
    (place_of nodes parent all.0 all.1.0, not-false (is_moment modified) all.1.1.1.1.1.0)

pub file_of_checks : (limits : Limits) (world : World) (version : ℕ) (nodes : List Node) (parent : ℕ) (modified : ℤ) (size piece_size : ℕ) (name : List ℕ) (content : Content)
    → content.size ≡ size → content.piece_size ≡ piece_size → refusal_of (file_checks limits world version nodes parent modified size piece_size name) ≡ None → IsSoundNode nodes (File parent modified name content)
file_of_checks limits world version nodes parent modified size piece_size name content size_is piece_size_is none =
    let all = none_holds (file_checks limits world version nodes parent modified size piece_size name) none in
    let fits = or_parts (not (is_moment modified)) (not (is_piece_size version piece_size)) all.1.1.1.1.1.0 in
    (place_of nodes parent all.0 all.1.0, not-false (is_moment modified) fits.0, rw (size_is, piece_size_is) (record { pieces = allowed_in_2 version piece_size (not-false (is_piece_size version piece_size) fits.1); whole = all.1.1.1.1.1.1.0 }))
