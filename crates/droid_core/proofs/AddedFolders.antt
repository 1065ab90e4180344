-- What a request for a new folder comes to.
use Rattle.std.proofs.Common.{◌≡◌, ℕ, ℤ, ◌+◌, List, [], ◌∷◌, ◌++◌, length, Some, None, not, Err, refl, ap, subst, ◌∙◌}
use Rattle.std.specs.Prelude.{nat_le, MatchBool, ⊤}
use Rattle.droid_frame.specs.declared.refusal.Limit.TheVariants as reached
use Rattle.droid_frame.specs.declared.refusal.Refusal.{Refusal}
use Rattle.droid_frame.specs.declared.refusal.Refusal.TheVariants.{NoSuchProfile, BadOption, LimitReached}
use Rattle.droid_frame.specs.declared.reply.Reply.TheVariants as replies
use Rattle.droid_core_spec.specs.Conditions.{is_moment}
use Rattle.droid_core_spec.specs.Judging.{refusal_of, folder_checks, judge_folder, Verdict, Accepted, Refuses, world_set, with_node as with_node_in}
use Rattle.droid_core_spec.specs.Setting.{Setting}
use Rattle.droid_core_spec.specs.MemoryFaults.{is_out_of_memory_of}
use Rattle.droid_core_spec.specs.World.{Folder, Profile, World, numbered, path}
use Rattle.droid_store.specs.Changes.{with_reply, with_node, new_folder}
use Rattle.droid_store.specs.Rows.{Rows}
use Rattle.droid_core.proofs.Added.{folder_added}
use Rattle.droid_core.proofs.Soundness.{sound_added, folder_of_checks}
use Rattle.droid_core.specs.declared.holdings.Holdings.{Holdings}
use Rattle.droid_core.specs.declared.stamps.Stamp.{Stamp}
use Rattle.droid_core.specs.Changes.{stamped, Comes}
use Rattle.droid_core.specs.LookUps.{FindsProfile}
use Rattle.droid_core.specs.Rows.{AreShort}
use Rattle.droid_core.specs.Places.{FindsPlace}
use Rattle.droid_core.specs.HoldingsStanding.{IsIn}
use Rattle.droid_core.proofs.AddedNodes.{assemblies_with_folder}
use Rattle.droid_core.proofs.Staying.{if_refused, still_of}

module _ (setting : Setting) (world : World) (number parent : ℕ) (modified : ℤ) (name : List ℕ) where
  abbrev verdict : Verdict
  verdict = judge_folder setting world number parent modified name

  nowhere : (refusal : Refusal) → (refusal ≡ NoSuchProfile) × (numbered world.profiles number ≡ None) → verdict ≡ Refuses refusal
  unfolding judge_folder
  nowhere refusal none = rw (none.1, none.0) refl

  -- there is no such profile
  pub folder_nowhere : (refusal : Refusal) → FindsProfile world number (Err refusal) → MatchBool (is_out_of_memory_of refusal) ⊤ (verdict ≡ Refuses refusal)
  folder_nowhere refusal finds = if_refused (is_out_of_memory_of refusal) (nowhere refusal) finds

  module _ (profile : Profile) (found : numbered world.profiles number ≡ Some profile) where
    pub folder_refused : (refusal : Refusal) → refusal_of (folder_checks setting.limits profile.nodes parent modified name) ≡ Some refusal → verdict ≡ Refuses refusal
    unfolding judge_folder
    folder_refused refusal is = rw (found, is) refl

    -- its place is refused
    pub folder_misplaced : (refusal : Refusal) → FindsPlace profile parent name (Err refusal) → MatchBool (is_out_of_memory_of refusal) ⊤ (verdict ≡ Refuses refusal)
    folder_misplaced refusal finds =
        if_refused (is_out_of_memory_of refusal)
        (λ first. folder_refused refusal (first ((not (is_moment modified), BadOption) ∷ (nat_le setting.limits.nodes (length profile.nodes), LimitReached reached.Nodes) ∷ []))) finds

    folder_accepted : refusal_of (folder_checks setting.limits profile.nodes parent modified name) ≡ None
        → verdict ≡ Accepted (replies.Node (length profile.nodes + 1)) (world_set world number (with_node_in profile (Folder parent modified name)))
    unfolding judge_folder
    folder_accepted is = rw (found, is) refl

    pub comes_folder : (old new : Holdings) (stamp : Stamp) (id : ℕ) (way : List ℕ) → IsIn setting world old → refusal_of (folder_checks setting.limits profile.nodes parent modified name) ≡ None
        → id ≡ length profile.nodes + 1 → way ≡ path profile.nodes parent ++ 47 ∷ name → AreShort name way → new.limits ≡ old.limits → new.registry ≡ old.registry → new.files ≡ old.files
        → new.store ≡ with_reply (stamped stamp (replies.Node id)) (with_node (new_folder number id parent modified name way) old.store)
        → Comes setting world old new stamp verdict (replies.Node id)
    comes_folder old new stamp id way is allowed id_is way_is short limits registry files store =
        let node = Folder parent modified name in
        let made = store ∙ rw (id_is, way_is) refl in
        rw (folder_accepted allowed) (
          ap (λ n. replies.Node n) id_is,
          record {
            world_is = record {
              is_setting = still_of setting old new limits registry is.is_setting;
              rows = rw made (folder_added setting world old.store (stamped stamp (replies.Node (length profile.nodes + 1))) number profile is.rows found parent modified name (subst (AreShort name) way_is short));
              sound = sound_added world number profile node is.sound found (folder_of_checks setting.limits profile.nodes parent modified name allowed);
              files = rw files (assemblies_with_folder world number profile parent modified name old.files found is.files);
              room = rw files is.room;
            };
            replies = ap (λ (rows : Rows). rows.replies) made;
          },
        )
