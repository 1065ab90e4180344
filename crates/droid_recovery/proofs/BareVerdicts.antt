-- A command that needs no bytes of a bare file is judged as with them.
use Rattle.std.proofs.Common.{◌≡◌, ℕ, suc, ◌+◌, ℤ, List, [], ◌∷◌, ◌++◌, length, Bool, true, false, not, ◌||◌, Option, Some, None, option_map, refl, sym, ap, ◌∙◌}
use Rattle.std.specs.Prelude.{nat_le}
use Rattle.droid_frame.specs.declared.hash_kind.HashKind.{HashKind}
use Rattle.droid_frame.specs.declared.refusal.Limit.TheVariants as reached
use Rattle.droid_frame.specs.declared.refusal.Refusal.{Refusal}
use Rattle.droid_frame.specs.declared.refusal.Refusal.TheVariants.{NoSuchNode, NotAFolder, BadName, PathTooLong, NameTaken, BadOption, TooLarge, LimitReached}
use Rattle.droid_frame.specs.declared.reply.Reply.{Reply}
use Rattle.droid_frame.specs.declared.reply.Reply.TheVariants as replies
use Rattle.droid_frame.specs.declared.request.Request.{Request}
use Rattle.droid_frame.specs.declared.request.Request.TheVariants.{CreateProfile, AddFolder, AddFile, Piece, Finish, Abandon, Status, Export}
use Rattle.droid_core_spec.specs.Conditions.{is_scan_limit, is_missing, is_file, is_bad_name, is_too_deep, is_moment, is_piece_size, is_too_large}
use Rattle.droid_core_spec.specs.Files.{with_piece, as_finished, finding_of, finished_reply, unfinished_in}
use Rattle.droid_core_spec.specs.Judging.{Check, Verdict, Accepted, unless_refused, refusal_of, in_profile, in_file, world_set, with_node, node_set, create_checks, folder_checks, file_checks, place_checks, piece_checks, finish_checks, abandon_checks, judge, judge_create, judge_folder, judge_file, judge_piece, judge_finish, judge_abandon}
use Rattle.droid_core_spec.specs.Limits.{Limits}
use Rattle.droid_core_spec.specs.Setting.{Setting}
use Rattle.droid_core_spec.specs.Verdicts.{is_command}
use Rattle.droid_core_spec.specs.World.{Content, Node, Folder, File, Abandoned, Profile, World, numbered, node_at, unless_abandoned, is_taken, world_with}
use Rattle.droid_core_spec.proofs.ByKind.{is_create, is_folder, is_file as is_add_file, is_piece, is_finish, is_abandon}
use Rattle.droid_recovery.specs.BareWorlds.{Bare, bare_node, bare_nodes, bare_profile, bare_world, bare_verdict, needs_bytes}
use Rattle.droid_recovery.proofs.BareNodes.{same_finished, not_bare, node_so, missing_so, place_so, taken_so, deep_so, unfinished_in_so}
use Rattle.droid_recovery.proofs.ByPlace.{numbered_by, length_by, push_by, set_by}

-- a new file has no pieces yet
new_file_so : (bare : Bool) (parent : ℕ) (modified : ℤ) (name : List ℕ) (size piece_size : ℕ)
    → bare_node bare (File parent modified name (record { size = size; piece_size = piece_size; pieces = []; finished = false })) ≡ File parent modified name (record { size = size; piece_size = piece_size; pieces = []; finished = false })
new_file_so true parent modified name size piece_size = refl
new_file_so false parent modified name size piece_size = refl

pub file_here : (nodes : List Node) (id parent : ℕ) (modified : ℤ) (name : List ℕ) (content : Content) → node_at nodes id ≡ Some (File parent modified name content) → numbered nodes id ≡ Some (File parent modified name content)
file_here nodes id parent modified name content is = here (numbered nodes id) is
  where
    here : (found : Option Node) → unless_abandoned found ≡ Some (File parent modified name content) → found ≡ Some (File parent modified name content)
    here None it = absurd cc
    here (Some (Folder p m n)) it = it
    here (Some (File p m n c)) it = it
    here (Some Abandoned) it = absurd cc

-- ---- profiles and nodes

module _ (bare : ℕ → Bool) (its : Profile) where
  pub with_node_so : (node : Node) → bare_profile bare (with_node its node) ≡ with_node (bare_profile bare its) (bare_node (bare (suc (length its.nodes))) node)
  with_node_so node = ap (λ nodes. record its { nodes = nodes }) (push_by (λ at. bare_node (bare at)) its.nodes node)

  pub node_set_so : (id : ℕ) (was node : Node) → numbered its.nodes id ≡ Some was → bare_profile bare (node_set its id node) ≡ node_set (bare_profile bare its) id (bare_node (bare id) node)
  node_set_so id was node is = ap (λ nodes. record its { nodes = nodes }) (set_by (λ at. bare_node (bare at)) its.nodes id was node is)

  place_checks_so : (parent : ℕ) (name : List ℕ) → place_checks (bare_nodes bare its.nodes) parent name ≡ place_checks its.nodes parent name
  place_checks_so parent name =
      ap (λ b. (b, NoSuchNode) ∷ (is_file (node_at (bare_nodes bare its.nodes) parent), NotAFolder) ∷ (is_bad_name name, BadName) ∷ (is_too_deep (bare_nodes bare its.nodes) parent name, PathTooLong) ∷ (is_taken (bare_nodes bare its.nodes) parent name, NameTaken) ∷ []) (missing_so bare its.nodes parent)
      ∙ ap (λ b. (is_missing its.nodes parent, NoSuchNode) ∷ (b, NotAFolder) ∷ (is_bad_name name, BadName) ∷ (is_too_deep (bare_nodes bare its.nodes) parent name, PathTooLong) ∷ (is_taken (bare_nodes bare its.nodes) parent name, NameTaken) ∷ []) (place_so bare its.nodes parent)
      ∙ ap (λ b. (is_missing its.nodes parent, NoSuchNode) ∷ (is_file (node_at its.nodes parent), NotAFolder) ∷ (is_bad_name name, BadName) ∷ (b, PathTooLong) ∷ (is_taken (bare_nodes bare its.nodes) parent name, NameTaken) ∷ []) (deep_so bare its.nodes parent name)
      ∙ ap (λ b. (is_missing its.nodes parent, NoSuchNode) ∷ (is_file (node_at its.nodes parent), NotAFolder) ∷ (is_bad_name name, BadName) ∷ (is_too_deep its.nodes parent name, PathTooLong) ∷ (b, NameTaken) ∷ []) (taken_so bare its.nodes parent name)

  folder_checks_so : (limits : Limits) (parent : ℕ) (modified : ℤ) (name : List ℕ) → folder_checks limits (bare_nodes bare its.nodes) parent modified name ≡ folder_checks limits its.nodes parent modified name
  folder_checks_so limits parent modified name =
      ap (λ (cs : List Check). cs ++ (not (is_moment modified), BadOption) ∷ (nat_le limits.nodes (length (bare_nodes bare its.nodes)), LimitReached reached.Nodes) ∷ []) (place_checks_so parent name)
      ∙ ap (λ n. place_checks its.nodes parent name ++ (not (is_moment modified), BadOption) ∷ (nat_le limits.nodes n, LimitReached reached.Nodes) ∷ []) (length_by (λ at. bare_node (bare at)) its.nodes)

  file_checks_so : (limits : Limits) (bares : Bare) (world : World) (version parent : ℕ) (modified : ℤ) (size piece_size : ℕ) (name : List ℕ)
      → file_checks limits (bare_world bares world) version (bare_nodes bare its.nodes) parent modified size piece_size name ≡ file_checks limits world version its.nodes parent modified size piece_size name
  file_checks_so limits bares world version parent modified size piece_size name =
      let unfit = not (is_moment modified) || not (is_piece_size version piece_size) in
      let large = is_too_large size piece_size in
      ap (λ (cs : List Check). cs ++ (unfit, BadOption) ∷ (large, TooLarge) ∷ (nat_le limits.nodes (length (bare_nodes bare its.nodes)), LimitReached reached.Nodes) ∷ (nat_le limits.unfinished (unfinished_in (bare_world bares world)), LimitReached reached.Unfinished) ∷ []) (place_checks_so parent name)
      ∙ ap (λ n. place_checks its.nodes parent name ++ (unfit, BadOption) ∷ (large, TooLarge) ∷ (nat_le limits.nodes n, LimitReached reached.Nodes) ∷ (nat_le limits.unfinished (unfinished_in (bare_world bares world)), LimitReached reached.Unfinished) ∷ []) (length_by (λ at. bare_node (bare at)) its.nodes)
      ∙ ap (λ n. place_checks its.nodes parent name ++ (unfit, BadOption) ∷ (large, TooLarge) ∷ (nat_le limits.nodes (length its.nodes), LimitReached reached.Nodes) ∷ (nat_le limits.unfinished n, LimitReached reached.Unfinished) ∷ []) (unfinished_in_so bares world)

module _ (bare : Bare) (world : World) where
  abbrev there : World
  there = bare_world bare world

  pub profile_so : (number : ℕ) → numbered there.profiles number ≡ option_map (bare_profile (bare number)) (numbered world.profiles number)
  profile_so number = numbered_by (λ n. bare_profile (bare n)) world.profiles number

  pub world_set_so : (number : ℕ) (its after : Profile) → numbered world.profiles number ≡ Some its → bare_world bare (world_set world number after) ≡ world_set there number (bare_profile (bare number) after)
  world_set_so number its after is = ap (λ profiles. world_with there profiles) (set_by (λ n. bare_profile (bare n)) world.profiles number its after is)

  unless_so : (first : Option Refusal) (reply : Reply) (after there_after : World) → bare_world bare after ≡ there_after
      → unless_refused first (Accepted reply there_after) ≡ bare_verdict bare (unless_refused first (Accepted reply after))
  unless_so (Some refusal) reply after there_after is = refl
  unless_so None reply after there_after is = ap (Accepted reply) (sym is)

  -- ---- requests

  create_so : (setting : Setting) (scan_limit : ℕ) (match_all : Bool) (hash : HashKind) → judge_create setting there scan_limit match_all hash ≡ bare_verdict bare (judge_create setting world scan_limit match_all hash)
  unfolding judge_create
  create_so setting scan_limit match_all hash =
      let fresh : Profile = record { scan_limit = scan_limit; match_all = match_all; hash = hash; nodes = [] } in
      ap (λ count. unless_refused (refusal_of ((not (is_scan_limit scan_limit), BadOption) ∷ (nat_le setting.limits.profiles count, LimitReached reached.Profiles) ∷ []))
      (Accepted (replies.Made (count + 1)) (world_with there (there.profiles ++ fresh ∷ [])))) (length_by (λ n. bare_profile (bare n)) world.profiles)
      ∙ unless_so (refusal_of (create_checks setting.limits world scan_limit)) (replies.Made (length world.profiles + 1)) (world_with world (world.profiles ++ fresh ∷ [])) (world_with there (there.profiles ++ fresh ∷ []))
      (ap (world_with there) (push_by (λ n. bare_profile (bare n)) world.profiles fresh))

  -- a node that is the same without bytes is added
  added_so : (number : ℕ) (its : Profile) (node : Node) → numbered world.profiles number ≡ Some its → ((b : Bool) → bare_node b node ≡ node)
      → bare_world bare (world_set world number (with_node its node)) ≡ world_set there number (with_node (bare_profile (bare number) its) node)
  added_so number its node is plain =
      world_set_so number its (with_node its node) is
      ∙ ap (world_set there number) (with_node_so (bare number) its node ∙ ap (with_node (bare_profile (bare number) its)) (plain (bare number (suc (length its.nodes)))))

  folder_so : (setting : Setting) (number parent : ℕ) (modified : ℤ) (name : List ℕ) → judge_folder setting there number parent modified name ≡ bare_verdict bare (judge_folder setting world number parent modified name)
  unfolding judge_folder
  folder_so setting number parent modified name = rw (profile_so number) (found_so (numbered world.profiles number) refl)
    where
      found_so : (found : Option Profile) → numbered world.profiles number ≡ found
          → in_profile (option_map (bare_profile (bare number)) found) (λ its. unless_refused (refusal_of (folder_checks setting.limits its.nodes parent modified name)) (Accepted (replies.Node (length its.nodes + 1)) (world_set there number (with_node its (Folder parent modified name)))))
          ≡ bare_verdict bare (in_profile found (λ its. unless_refused (refusal_of (folder_checks setting.limits its.nodes parent modified name)) (Accepted (replies.Node (length its.nodes + 1)) (world_set world number (with_node its (Folder parent modified name))))))
      found_so None is = refl
      found_so (Some its) is =
          let its_there = bare_profile (bare number) its in
          let after = world_set there number (with_node its_there (Folder parent modified name)) in
          let checks = folder_checks setting.limits its.nodes parent modified name in
          ap (λ (cs : List Check). unless_refused (refusal_of cs) (Accepted (replies.Node (length its_there.nodes + 1)) after)) (folder_checks_so (bare number) its setting.limits parent modified name)
          ∙ ap (λ n. unless_refused (refusal_of checks) (Accepted (replies.Node (n + 1)) after)) (length_by (λ at. bare_node (bare number at)) its.nodes)
          ∙ unless_so (refusal_of checks) (replies.Node (length its.nodes + 1)) (world_set world number (with_node its (Folder parent modified name))) after
          (added_so number its (Folder parent modified name) is (λ b. refl))

  file_so : (setting : Setting) (version number parent : ℕ) (modified : ℤ) (size piece_size : ℕ) (name : List ℕ)
      → judge_file setting there version number parent modified size piece_size name ≡ bare_verdict bare (judge_file setting world version number parent modified size piece_size name)
  unfolding judge_file
  file_so setting version number parent modified size piece_size name = rw (profile_so number) (found_so (numbered world.profiles number) refl)
    where
      found_so : (found : Option Profile) → numbered world.profiles number ≡ found
          → in_profile (option_map (bare_profile (bare number)) found) (λ its. unless_refused (refusal_of (file_checks setting.limits there version its.nodes parent modified size piece_size name)) (Accepted (replies.Node (length its.nodes + 1)) (world_set there number (with_node its (File parent modified name (record { size = size; piece_size = piece_size; pieces = []; finished = false }))))))
          ≡ bare_verdict bare (in_profile found (λ its. unless_refused (refusal_of (file_checks setting.limits world version its.nodes parent modified size piece_size name)) (Accepted (replies.Node (length its.nodes + 1)) (world_set world number (with_node its (File parent modified name (record { size = size; piece_size = piece_size; pieces = []; finished = false })))))))
      found_so None is = refl
      found_so (Some its) is =
          let node = File parent modified name (record { size = size; piece_size = piece_size; pieces = []; finished = false }) in
          let its_there = bare_profile (bare number) its in
          let after = world_set there number (with_node its_there node) in
          let checks = file_checks setting.limits world version its.nodes parent modified size piece_size name in
          ap (λ (cs : List Check). unless_refused (refusal_of cs) (Accepted (replies.Node (length its_there.nodes + 1)) after)) (file_checks_so (bare number) its setting.limits bare world version parent modified size piece_size name)
          ∙ ap (λ n. unless_refused (refusal_of checks) (Accepted (replies.Node (n + 1)) after)) (length_by (λ at. bare_node (bare number at)) its.nodes)
          ∙ unless_so (refusal_of checks) (replies.Node (length its.nodes + 1)) (world_set world number (with_node its node)) after
          (added_so number its node is (λ b. new_file_so b parent modified name size piece_size))

  -- ---- requests for a file that is not bare

  map_not_bare : (found : Option Node) → option_map (bare_node false) found ≡ found
  map_not_bare None = refl
  map_not_bare (Some node) = ap Some (not_bare node)

  plain_node : (number id : ℕ) (nodes : List Node) → bare number id ≡ false → node_at (bare_nodes (bare number) nodes) id ≡ node_at nodes id
  plain_node number id nodes plain = node_so (bare number) nodes id ∙ (ap (λ b. option_map (bare_node b) (node_at nodes id)) plain ∙ map_not_bare (node_at nodes id))

  turned_so : (number id : ℕ) (its : Profile) (was node : Node) → bare number id ≡ false → numbered world.profiles number ≡ Some its → numbered its.nodes id ≡ Some was
      → bare_world bare (world_set world number (node_set its id node)) ≡ world_set there number (node_set (bare_profile (bare number) its) id node)
  turned_so number id its was node plain is here =
      world_set_so number its (node_set its id node) is
      ∙ ap (world_set there number) (node_set_so (bare number) its id was node here ∙ ap (node_set (bare_profile (bare number) its) id) (ap (λ b. bare_node b node) plain ∙ not_bare node))

  module _ (number id : ℕ) (plain : bare number id ≡ false) (checks : Profile → Content → List Check) (reply_there : Profile → List ℕ → Content → Reply) (turned : Content → Content)
      (same_checks : (its : Profile) (content : Content) → checks (bare_profile (bare number) its) content ≡ checks its content)
      (same_reply : (its : Profile) (name : List ℕ) (content : Content) → reply_there (bare_profile (bare number) its) name content ≡ reply_there its name content) where
    abbrev judged : Profile → World → Verdict
    judged its of = in_file (node_at its.nodes id) (λ parent modified name content. unless_refused (refusal_of (checks its content)) (Accepted (reply_there its name content) (world_set of number (node_set its id (File parent modified name (turned content))))))

    at_file_so : (its : Profile) → numbered world.profiles number ≡ Some its → (found : Option Node) → node_at its.nodes id ≡ found
        → in_file found (λ parent modified name content. unless_refused (refusal_of (checks (bare_profile (bare number) its) content)) (Accepted (reply_there (bare_profile (bare number) its) name content) (world_set there number (node_set (bare_profile (bare number) its) id (File parent modified name (turned content))))))
        ≡ bare_verdict bare (in_file found (λ parent modified name content. unless_refused (refusal_of (checks its content)) (Accepted (reply_there its name content) (world_set world number (node_set its id (File parent modified name (turned content)))))))
    at_file_so its is None here = refl
    at_file_so its is (Some (Folder parent modified name)) here = refl
    at_file_so its is (Some (File parent modified name content)) here =
        rw (same_checks its content, same_reply its name content)
        (unless_so (refusal_of (checks its content)) (reply_there its name content) (world_set world number (node_set its id (File parent modified name (turned content)))) _
        (turned_so number id its (File parent modified name content) (File parent modified name (turned content)) plain is (file_here its.nodes id parent modified name content here)))
    at_file_so its is (Some Abandoned) here = refl

    turned_file_so : in_profile (numbered there.profiles number) (λ its. judged its there) ≡ bare_verdict bare (in_profile (numbered world.profiles number) (λ its. judged its world))
    turned_file_so = rw (profile_so number) (found_so (numbered world.profiles number) refl)
      where
        found_so : (found : Option Profile) → numbered world.profiles number ≡ found → in_profile (option_map (bare_profile (bare number)) found) (λ its. judged its there) ≡ bare_verdict bare (in_profile found (λ its. judged its world))
        found_so None is = refl
        found_so (Some its) is = rw (plain_node number id its.nodes plain) (at_file_so its is (node_at its.nodes id) refl)

  piece_so : (number id index : ℕ) (bytes : List ℕ) → bare number id ≡ false → judge_piece there number id index bytes ≡ bare_verdict bare (judge_piece world number id index bytes)
  unfolding judge_piece
  piece_so number id index bytes plain =
      turned_file_so number id plain (λ its content. piece_checks content index bytes) (λ its name content. replies.Taken (length content.pieces + 1)) (λ content. with_piece content index bytes) (λ its content. refl) (λ its name content. refl)

  finish_so : (setting : Setting) (version number id : ℕ) → bare number id ≡ false → judge_finish setting there version number id ≡ bare_verdict bare (judge_finish setting world version number id)
  unfolding judge_finish
  finish_so setting version number id plain =
      turned_file_so number id plain (λ its content. finish_checks version its.hash content) (λ its name content. finished_reply (finding_of setting its name content)) as_finished (λ its content. refl) (λ its name content. refl)

  abandon_so : (number id : ℕ) → judge_abandon there number id ≡ bare_verdict bare (judge_abandon world number id)
  unfolding judge_abandon
  abandon_so number id = rw (profile_so number) (found_so (numbered world.profiles number) refl)
    where
      at_file : (its : Profile) → numbered world.profiles number ≡ Some its → (found : Option Node) → node_at its.nodes id ≡ found
          → in_file (option_map (bare_node (bare number id)) found) (λ parent modified name content. unless_refused (refusal_of (abandon_checks content)) (Accepted replies.Abandoned (world_set there number (node_set (bare_profile (bare number) its) id Abandoned))))
          ≡ bare_verdict bare (in_file found (λ parent modified name content. unless_refused (refusal_of (abandon_checks content)) (Accepted replies.Abandoned (world_set world number (node_set its id Abandoned)))))
      at_file its is None here = refl
      at_file its is (Some (Folder parent modified name)) here = refl
      at_file its is (Some (File parent modified name content)) here =
          rw (same_finished (bare number id) content)
          (unless_so (refusal_of (abandon_checks content)) replies.Abandoned (world_set world number (node_set its id Abandoned)) _
          (world_set_so number its (node_set its id Abandoned) is ∙ ap (world_set there number) (node_set_so (bare number) its id (File parent modified name content) Abandoned (file_here its.nodes id parent modified name content here))))
      at_file its is (Some Abandoned) here = refl

      found_so : (found : Option Profile) → numbered world.profiles number ≡ found
          → in_profile (option_map (bare_profile (bare number)) found) (λ its. in_file (node_at its.nodes id) (λ parent modified name content. unless_refused (refusal_of (abandon_checks content)) (Accepted replies.Abandoned (world_set there number (node_set its id Abandoned)))))
          ≡ bare_verdict bare (in_profile found (λ its. in_file (node_at its.nodes id) (λ parent modified name content. unless_refused (refusal_of (abandon_checks content)) (Accepted replies.Abandoned (world_set world number (node_set its id Abandoned))))))
      found_so None is = refl
      found_so (Some its) is = rw (node_so (bare number) its.nodes id) (at_file its is (node_at its.nodes id) refl)

pub command_so : (setting : Setting) (bare : Bare) (world : World) (version : ℕ) (request : Request) → is_command request ≡ true → needs_bytes bare request ≡ false
    → judge setting (bare_world bare world) version request ≡ bare_verdict bare (judge setting world version request)
command_so setting bare world version (CreateProfile scan_limit match_all hash) command plain =
    is_create setting (bare_world bare world) version scan_limit match_all hash ∙ (create_so bare world setting scan_limit match_all hash ∙ ap (bare_verdict bare) (sym (is_create setting world version scan_limit match_all hash)))
command_so setting bare world version (AddFolder number parent modified name) command plain =
    is_folder setting (bare_world bare world) version number parent modified name ∙ (folder_so bare world setting number parent modified name ∙ ap (bare_verdict bare) (sym (is_folder setting world version number parent modified name)))
command_so setting bare world version (AddFile number parent modified size piece_size name) command plain =
    is_add_file setting (bare_world bare world) version number parent modified size piece_size name
    ∙ (file_so bare world setting version number parent modified size piece_size name ∙ ap (bare_verdict bare) (sym (is_add_file setting world version number parent modified size piece_size name)))
command_so setting bare world version (Piece number id index bytes) command plain =
    is_piece setting (bare_world bare world) version number id index bytes ∙ (piece_so bare world number id index bytes plain ∙ ap (bare_verdict bare) (sym (is_piece setting world version number id index bytes)))
command_so setting bare world version (Finish number id) command plain =
    is_finish setting (bare_world bare world) version number id ∙ (finish_so bare world setting version number id plain ∙ ap (bare_verdict bare) (sym (is_finish setting world version number id)))
command_so setting bare world version (Abandon number id) command plain =
    is_abandon setting (bare_world bare world) version number id ∙ (abandon_so bare world number id ∙ ap (bare_verdict bare) (sym (is_abandon setting world version number id)))
command_so setting bare world version (Status number id) command plain = absurd cc
command_so setting bare world version (Export number from max filter) command plain = absurd cc
