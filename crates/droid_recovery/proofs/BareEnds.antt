-- The pieces and the end of a bare file, and worlds in which each bare file has ended.
use Rattle.std.proofs.Common.{◌≡◌, ℕ, ◌+◌, ℤ, List, [], length, Bool, true, false, cond, Option, Some, None, option_map, refl, sym, ap, ◌∙◌}
use Rattle.droid_frame.specs.declared.refusal.Refusal.{Refusal}
use Rattle.droid_frame.specs.declared.reply.Reply.{Reply}
use Rattle.droid_frame.specs.declared.reply.Reply.TheVariants as replies
use Rattle.droid_frame.specs.declared.request.Request.TheVariants.{Piece, Finish}
use Rattle.droid_core_spec.specs.Files.{with_piece, as_finished, finding_of, finished_reply}
use Rattle.droid_core_spec.specs.Judging.{Check, Verdict, Accepted, unless_refused, refusal_of, in_profile, in_file, world_set, node_set, piece_checks, finish_checks, judge, judge_piece, judge_finish}
use Rattle.droid_core_spec.specs.Setting.{Setting}
use Rattle.droid_core_spec.specs.World.{Content, Node, Folder, File, Abandoned, Profile, World, numbered, node_at, world_with}
use Rattle.droid_core_spec.proofs.ByKind.{is_piece, is_finish}
use Rattle.droid_recovery.specs.BareFiles.{FinishesBare}
use Rattle.droid_recovery.specs.BareWorlds.{Bare, HaveEnded, bare_content, bare_node, bare_nodes, bare_profile, bare_world}
use Rattle.droid_recovery.proofs.BareNodes.{node_so}
use Rattle.droid_recovery.proofs.BareVerdicts.{file_here, node_set_so, profile_so, world_set_so}
use Rattle.droid_recovery.proofs.ByPlace.{same_by, set_own}

-- what was accepted for a file
record FoundFile (world : World) (number id : ℕ) (checks : Profile → Content → List Check) (replied : Profile → List ℕ → Content → Reply) (turned : Content → Content) (reply : Reply) (after : World) : Type 0 where
  its : Profile
  parent : ℕ
  modified : ℤ
  name : List ℕ
  content : Content
  there : numbered world.profiles number ≡ Some its
  at : node_at its.nodes id ≡ Some (File parent modified name content)
  none : refusal_of (checks its content) ≡ None
  reply_is : replied its name content ≡ reply
  after_is : world_set world number (node_set its id (File parent modified name (turned content))) ≡ after

module _ (world : World) (number id : ℕ) (checks : Profile → Content → List Check) (replied : Profile → List ℕ → Content → Reply) (turned : Content → Content) (reply : Reply) (after : World) where
  abbrev there_judged : Profile → ℕ → ℤ → List ℕ → Content → Verdict
  there_judged its parent modified name content = unless_refused (refusal_of (checks its content)) (Accepted (replied its name content) (world_set world number (node_set its id (File parent modified name (turned content)))))

  by_checks : (its : Profile) (parent : ℕ) (modified : ℤ) (name : List ℕ) (content : Content) → numbered world.profiles number ≡ Some its → node_at its.nodes id ≡ Some (File parent modified name content)
      → (first : Option Refusal) → refusal_of (checks its content) ≡ first → unless_refused first (Accepted (replied its name content) (world_set world number (node_set its id (File parent modified name (turned content))))) ≡ Accepted reply after
      → FoundFile world number id checks replied turned reply after
  by_checks its parent modified name content there at (Some refusal) first is = absurd cc
  by_checks its parent modified name content there at None first is = record {
    its = its;
    parent = parent;
    modified = modified;
    name = name;
    content = content;
    there = there;
    at = at;
    none = first;
    reply_is = cc;
    after_is = cc;
  }

  by_node : (its : Profile) → numbered world.profiles number ≡ Some its → (found : Option Node) → node_at its.nodes id ≡ found → in_file found (there_judged its) ≡ Accepted reply after → FoundFile world number id checks replied turned reply after
  by_node its there None at is = absurd cc
  by_node its there (Some (Folder parent modified name)) at is = absurd cc
  by_node its there (Some (File parent modified name content)) at is = by_checks its parent modified name content there at (refusal_of (checks its content)) refl is
  by_node its there (Some Abandoned) at is = absurd cc

  by_profile : (found : Option Profile) → numbered world.profiles number ≡ found → in_profile found (λ its. in_file (node_at its.nodes id) (there_judged its)) ≡ Accepted reply after → FoundFile world number id checks replied turned reply after
  by_profile None there is = absurd cc
  by_profile (Some its) there is = by_node its there (node_at its.nodes id) refl is

first_holds_not : (b : Bool) (refusal : Refusal) (more : Option Refusal) → cond b (Some refusal) more ≡ None → b ≡ false
first_holds_not true refusal more is = absurd cc
first_holds_not false refusal more is = refl

bare_unfinished : (content : Content) → content.finished ≡ false → bare_content true content ≡ record content { pieces = [] }
bare_unfinished content isnt = rw isnt refl

bare_finished : (content : Content) → content.finished ≡ true → bare_content true content ≡ content
bare_finished content is = rw is refl

module _ (bare : Bare) (world : World) (number id : ℕ) (is_bare : bare number id ≡ true) (its : Profile) (parent : ℕ) (modified : ℤ) (name : List ℕ) (content : Content)
    (there : numbered world.profiles number ≡ Some its) (at : node_at its.nodes id ≡ Some (File parent modified name content)) (unfinished : content.finished ≡ false) where
  abbrev without : Node
  without = File parent modified name (record content { pieces = [] })

  profile_there : numbered (bare_world bare world).profiles number ≡ Some (bare_profile (bare number) its)
  profile_there = profile_so bare world number ∙ ap (option_map (bare_profile (bare number))) there

  without_is : (more : Content) → more.finished ≡ false → bare_node (bare number id) (File parent modified name more) ≡ File parent modified name (record more { pieces = [] })
  without_is more isnt = ap (λ b. bare_node b (File parent modified name more)) is_bare ∙ ap (File parent modified name) (bare_unfinished more isnt)

  file_there : node_at (bare_nodes (bare number) its.nodes) id ≡ Some without
  file_there = node_so (bare number) its.nodes id ∙ (ap (option_map (bare_node (bare number id))) at ∙ ap Some (without_is content unfinished))

  turned_there : (node : Node) → bare_world bare (world_set world number (node_set its id node)) ≡ world_set (bare_world bare world) number (node_set (bare_profile (bare number) its) id (bare_node (bare number id) node))
  turned_there node =
      world_set_so bare world number its (node_set its id node) there
      ∙ ap (world_set (bare_world bare world) number) (node_set_so (bare number) its id (File parent modified name content) node (file_here its.nodes id parent modified name content at))

  -- the file in its own place
  own_place : world_set (bare_world bare world) number (node_set (bare_profile (bare number) its) id without) ≡ world_with (bare_world bare world) (bare_world bare world).profiles
  own_place =
      ap (λ nodes. world_set (bare_world bare world) number (record its { nodes = nodes })) (set_own (bare_nodes (bare number) its.nodes) id without (file_here (bare_nodes (bare number) its.nodes) id parent modified name (record content { pieces = [] }) file_there))
      ∙ ap (world_with (bare_world bare world)) (set_own (bare_world bare world).profiles number (bare_profile (bare number) its) profile_there)

abbrev piece_found : World → ℕ → ℕ → ℕ → List ℕ → Reply → World → Type 0
piece_found world number id index bytes reply after =
    FoundFile world number id (λ its content. piece_checks content index bytes) (λ its name content. replies.Taken (length content.pieces + 1)) (λ content. with_piece content index bytes) reply after

abbrev finish_found : Setting → World → ℕ → ℕ → ℕ → Reply → World → Type 0
finish_found setting world version number id reply after =
    FoundFile world number id (λ its content. finish_checks version its.hash content) (λ its name content. finished_reply (finding_of setting its name content)) as_finished reply after

find_piece : (world after : World) (number id index : ℕ) (bytes : List ℕ) (reply : Reply) → judge_piece world number id index bytes ≡ Accepted reply after → piece_found world number id index bytes reply after
unfolding judge_piece
find_piece world after number id index bytes reply is =
    by_profile world number id (λ its content. piece_checks content index bytes) (λ its name content. replies.Taken (length content.pieces + 1)) (λ content. with_piece content index bytes) reply after (numbered world.profiles number) refl is

find_finish : (setting : Setting) (world after : World) (version number id : ℕ) (reply : Reply) → judge_finish setting world version number id ≡ Accepted reply after → finish_found setting world version number id reply after
unfolding judge_finish
find_finish setting world after version number id reply is =
    by_profile world number id (λ its content. finish_checks version its.hash content) (λ its name content. finished_reply (finding_of setting its name content)) as_finished reply after (numbered world.profiles number) refl is

pub piece_only_counted : (setting : Setting) (bare : Bare) (world after : World) (version number id index : ℕ) (bytes : List ℕ) (reply : Reply) → bare number id ≡ true
    → judge setting world version (Piece number id index bytes) ≡ Accepted reply after → bare_world bare after ≡ world_with (bare_world bare world) (bare_world bare world).profiles
piece_only_counted setting bare world after version number id index bytes reply is_bare accepted = left (find_piece world after number id index bytes reply (sym (is_piece setting world version number id index bytes) ∙ accepted))
  where
    left : piece_found world number id index bytes reply after → bare_world bare after ≡ world_with (bare_world bare world) (bare_world bare world).profiles
    left it =
        let unfinished = first_holds_not it.content.finished _ _ it.none in
        ap (bare_world bare) (sym it.after_is)
        ∙ turned_there bare world number id is_bare it.its it.parent it.modified it.name it.content it.there it.at unfinished (File it.parent it.modified it.name (with_piece it.content index bytes))
        ∙ ap (λ node. world_set (bare_world bare world) number (node_set (bare_profile (bare number) it.its) id node)) (without_is bare world number id is_bare it.its it.parent it.modified it.name it.content it.there it.at unfinished (with_piece it.content index bytes) unfinished)
        ∙ own_place bare world number id is_bare it.its it.parent it.modified it.name it.content it.there it.at unfinished

pub finishes_bare : (setting : Setting) (bare : Bare) (world after : World) (version number id : ℕ) (reply : Reply) → bare number id ≡ true
    → judge setting world version (Finish number id) ≡ Accepted reply after → FinishesBare setting bare world number id reply after
finishes_bare setting bare world after version number id reply is_bare accepted = left (find_finish setting world after version number id reply (sym (is_finish setting world version number id) ∙ accepted))
  where
    left : finish_found setting world version number id reply after → FinishesBare setting bare world number id reply after
    left it =
        let unfinished = first_holds_not it.content.finished _ _ it.none in
        let whole = File it.parent it.modified it.name (as_finished it.content) in
        record {
          its = bare_profile (bare number) it.its;
          parent = it.parent;
          modified = it.modified;
          name = it.name;
          content = it.content;
          there = profile_there bare world number id is_bare it.its it.parent it.modified it.name it.content it.there it.at unfinished;
          at = file_there bare world number id is_bare it.its it.parent it.modified it.name it.content it.there it.at unfinished;
          unfinished = unfinished;
          replied = sym it.reply_is;
          left =
              ap (bare_world bare) (sym it.after_is)
              ∙ turned_there bare world number id is_bare it.its it.parent it.modified it.name it.content it.there it.at unfinished whole
              ∙ ap (λ node. world_set (bare_world bare world) number (node_set (bare_profile (bare number) it.its) id node)) (ap (λ b. bare_node b whole) is_bare);
        }

-- ---- worlds in which each bare file has ended

node_ended : (bare : Bool) (node : Node) → ((parent : ℕ) (modified : ℤ) (name : List ℕ) (content : Content) → node ≡ File parent modified name content → bare ≡ true → content.finished ≡ true) → bare_node bare node ≡ node
node_ended bare (Folder parent modified name) ended = refl
node_ended true (File parent modified name content) ended = ap (File parent modified name) (bare_finished content (ended parent modified name content refl refl))
node_ended false (File parent modified name content) ended = refl
node_ended bare Abandoned ended = refl

pub ended_same : (bare : Bare) (world : World) → HaveEnded bare world → bare_world bare world ≡ world
ended_same bare world ended =
    ap (λ profiles. record world { profiles = profiles }) (same_by (λ number. bare_profile (bare number)) world.profiles (λ number its there.
    ap (λ nodes. record its { nodes = nodes }) (same_by (λ id. bare_node (bare number id)) its.nodes (λ id node here.
    node_ended (bare number id) node (λ parent modified name content is is_bare. ended number id parent modified name content its there (here ∙ ap Some is) is_bare)))))
