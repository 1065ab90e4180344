-- What a request for a new file comes to.
use Rattle.std.proofs.Common.{◌≡◌, ℕ, ℤ, ◌+◌, List, [], ◌∷◌, ◌++◌, ◌||◌, length, Option, Some, None, not, Err, refl, ap, subst, ◌∙◌}
use Rattle.std.specs.Prelude.{nat_le, MatchBool, ⊤}
use Rattle.droid_assembly.specs.State.{State}
use Rattle.droid_frame.specs.declared.refusal.Limit.TheVariants as reached
use Rattle.droid_frame.specs.declared.refusal.Refusal.{Refusal}
use Rattle.droid_frame.specs.declared.refusal.Refusal.TheVariants.{NoSuchProfile, BadOption, TooLarge, LimitReached}
use Rattle.droid_frame.specs.declared.reply.Reply.TheVariants as replies
use Rattle.droid_core_spec.specs.Conditions.{is_moment, is_piece_size, is_too_large}
use Rattle.droid_core_spec.specs.Files.{unfinished_in}
use Rattle.droid_core_spec.specs.Judging.{refusal_of, file_checks, judge_file, Verdict, Accepted, Refuses, world_set, with_node as with_node_in}
use Rattle.droid_core_spec.specs.Setting.{Setting}
use Rattle.droid_core_spec.specs.MemoryFaults.{is_out_of_memory_of}
use Rattle.droid_core_spec.specs.World.{Node, File, Profile, World, numbered, path}
use Rattle.droid_store.specs.Changes.{with_reply, with_node, new_file}
use Rattle.droid_store.specs.Rows.{Rows}
use Rattle.droid_core.proofs.Added.{file_added}
use Rattle.droid_core.proofs.Soundness.{sound_added, file_of_checks}
use Rattle.droid_core.specs.declared.holdings.Holdings.{Holdings}
use Rattle.droid_core.specs.declared.stamps.Stamp.{Stamp}
use Rattle.droid_core.specs.Changes.{stamped, Comes}
use Rattle.droid_core.specs.LookUps.{FindsProfile}
use Rattle.droid_core.specs.Rows.{AreShort}
use Rattle.droid_core.specs.Places.{FindsPlace}
use Rattle.droid_core.specs.NewAssemblies.{IsNew}
use Rattle.droid_core.specs.HoldingsStanding.{IsIn}
use Rattle.droid_core.proofs.AddedNodes.{new_content, assemblies_with_file}
use Rattle.droid_core.proofs.Staying.{if_refused, still_of}

module _ (setting : Setting) (world : World) (version number parent : ℕ) (modified : ℤ) (size piece_size : ℕ) (name : List ℕ) where
  abbrev verdict : Verdict
  verdict = judge_file setting world version number parent modified size piece_size name

  nowhere : (refusal : Refusal) → (refusal ≡ NoSuchProfile) × (numbered world.profiles number ≡ None) → verdict ≡ Refuses refusal
  unfolding judge_file
  nowhere refusal none = rw (none.1, none.0) refl

  -- there is no such profile
  pub file_nowhere : (refusal : Refusal) → FindsProfile world number (Err refusal) → MatchBool (is_out_of_memory_of refusal) ⊤ (verdict ≡ Refuses refusal)
  file_nowhere refusal finds = if_refused (is_out_of_memory_of refusal) (nowhere refusal) finds

  module _ (profile : Profile) (found : numbered world.profiles number ≡ Some profile) where
    abbrev first_refusal : Option Refusal
    first_refusal = refusal_of (file_checks setting.limits world version profile.nodes parent modified size piece_size name)

    pub file_refused : (refusal : Refusal) → first_refusal ≡ Some refusal → verdict ≡ Refuses refusal
    unfolding judge_file
    file_refused refusal is = rw (found, is) refl

    -- its place is refused
    pub file_misplaced : (refusal : Refusal) → FindsPlace profile parent name (Err refusal) → MatchBool (is_out_of_memory_of refusal) ⊤ (verdict ≡ Refuses refusal)
    file_misplaced refusal finds =
        if_refused (is_out_of_memory_of refusal)
        (λ first. file_refused refusal (first (
        (not (is_moment modified) || not (is_piece_size version piece_size), BadOption)
        ∷ (is_too_large size piece_size, TooLarge)
        ∷ (nat_le setting.limits.nodes (length profile.nodes), LimitReached reached.Nodes)
        ∷ (nat_le setting.limits.unfinished (unfinished_in world), LimitReached reached.Unfinished)
        ∷ []))) finds

    abbrev node : Node
    node = File parent modified name (new_content size piece_size)

    file_accepted : first_refusal ≡ None → verdict ≡ Accepted (replies.Node (length profile.nodes + 1)) (world_set world number (with_node_in profile node))
    unfolding judge_file
    file_accepted is = rw (found, is) refl

    pub comes_file : (old new : Holdings) (stamp : Stamp) (id : ℕ) (way : List ℕ) (assembly : State) → IsIn setting world old → first_refusal ≡ None
        → id ≡ length profile.nodes + 1 → way ≡ path profile.nodes parent ++ 47 ∷ name → AreShort name way → IsNew assembly size piece_size profile.scan_limit profile.hash
        → new.limits ≡ old.limits → new.registry ≡ old.registry
        → new.store ≡ with_reply (stamped stamp (replies.Node id)) (with_node (new_file number id parent modified size piece_size name way) old.store)
        → new.files.files ≡ old.files.files ++ record { profile = number; file = id; assembly = assembly } ∷ [] → new.files.limit ≡ old.files.limit
        → Comes setting world old new stamp verdict (replies.Node id)
    comes_file old new stamp id way assembly is allowed id_is way_is short new_assembly limits registry store files room =
        let made = store ∙ rw (id_is, way_is) refl in
        let added = files ∙ rw id_is refl in
        rw (file_accepted allowed) (
          ap (λ n. replies.Node n) id_is,
          record {
            world_is = record {
              is_setting = still_of setting old new limits registry is.is_setting;
              rows = rw made (file_added setting world old.store (stamped stamp (replies.Node (length profile.nodes + 1))) number profile is.rows found parent modified size piece_size name (subst (AreShort name) way_is short));
              sound = sound_added world number profile node is.sound found (file_of_checks setting.limits world version profile.nodes parent modified size piece_size name (new_content size piece_size) refl refl allowed);
              files = assemblies_with_file world number profile parent modified size piece_size name old.files new.files assembly found is.files added new_assembly;
              room = room ∙ is.room;
            };
            replies = ap (λ (rows : Rows). rows.replies) made;
          },
        )
