-- What comes of abandoning a file that was found.
use Rattle.std.proofs.Common.{◌≡◌, ℕ, List, [], ◌∷◌, refl, ap, ◌∙◌, subst, sym}
use Rattle.std.specs.Prelude.{ℤ}
use Rattle.droid_frame.specs.declared.refusal.Refusal.TheVariants.{AlreadyFinished}
use Rattle.droid_frame.specs.declared.reply.Reply.TheVariants as replies
use Rattle.droid_core_spec.specs.Histories.{verdict_reply}
use Rattle.droid_core_spec.specs.Judging.{Verdict, Accepted, unless_refused, refusal_of, abandon_checks, judge_abandon, world_set, node_set}
use Rattle.droid_core_spec.specs.Setting.{Setting}
use Rattle.droid_core_spec.specs.World.{Content, Abandoned, Profile, World}
use Rattle.droid_core.specs.Rows.{KeepsWorld}
use Rattle.droid_core.proofs.Abandoned.{file_abandoned}
use Rattle.droid_core.proofs.Soundness.{sound_abandoned}
use Rattle.droid_store.specs.Changes.{with_reply, without_node}
use Rattle.droid_store.specs.Rows.{Rows}
use Rattle.droid_core.specs.Files.{OpenFiles}
use Rattle.droid_core.specs.Changes.{Leaves, stamped}
use Rattle.droid_core.specs.declared.holdings.Holdings.{Holdings}
use Rattle.droid_core.specs.declared.file_rows.UnfinishedRow.{UnfinishedRow}
use Rattle.droid_core.specs.declared.stamps.Stamp.{Stamp}
use Rattle.droid_core.specs.FileLookUps.{HasFile, HasUnfinished, for_file}
use Rattle.droid_core.specs.HoldingsStanding.{IsIn}
use Rattle.droid_core.proofs.Assembled.{IsWithout, assemblies_abandoned}
use Rattle.droid_core.proofs.FileVerdicts.{judged_there}

-- what comes of abandoning this file
abbrev pub abandon_there : World → ℕ → ℕ → Profile → ℕ → ℤ → List ℕ → Content → Verdict
abandon_there world number id profile parent modified name content =
    unless_refused (refusal_of (abandon_checks content)) (Accepted replies.Abandoned (world_set world number (node_set profile id Abandoned)))

pub abandon_for_file : (world : World) (number id : ℕ) → judge_abandon world number id ≡ for_file world number id (abandon_there world number id)
unfolding judge_abandon
abandon_for_file world number id = refl

module _ (setting : Setting) (world : World) (number id : ℕ) (old : Holdings) (found : UnfinishedRow) (is : HasUnfinished world old.files number id found) where
  abbrev has : HasFile world number id found.row
  has = is.file

  abbrev after : World
  after = world_set world number (node_set has.profile id Abandoned)

  accepted : judge_abandon world number id ≡ Accepted replies.Abandoned after
  accepted =
      abandon_for_file world number id
      ∙ judged_there world number id found.row has (abandon_there world number id)
      ∙ ap (λ finished. unless_refused (refusal_of ((finished, AlreadyFinished) ∷ [])) (Accepted replies.Abandoned after)) is.unfinished

  pub abandoned : (stamp : Stamp) (store : Rows) (files : OpenFiles) → IsIn setting world old → store ≡ with_reply (stamped stamp replies.Abandoned) (without_node number id old.store) → IsWithout found.place old.files files
      → (replies.Abandoned ≡ verdict_reply (judge_abandon world number id)) × Leaves setting world old (record old { store = store; files = files }) stamp (judge_abandon world number id)
  abandoned stamp store files is_in stored removed =
      let kept = file_abandoned setting world old.store (stamped stamp replies.Abandoned) number has.profile id has.parent has.modified has.name has.content is_in.sound is_in.rows has.there has.at is.unfinished in
      rw accepted (
        refl,
        record {
          world_is = record {
            is_setting = record { limits = is_in.is_setting.limits; allowed = is_in.is_setting.allowed; registry = is_in.is_setting.registry };
            rows = subst (KeepsWorld setting after) (sym stored) kept;
            sound = sound_abandoned world number has.profile id has.parent has.modified has.name has.content is_in.sound has.there has.at;
            files = assemblies_abandoned world number has.profile id has.parent has.modified has.name has.content old.files files found.place is_in.files has.there has.at is.unfinished is.place removed;
            room = removed.limit ∙ is_in.room;
          };
          replies = ap (λ (rows : Rows). rows.replies) stored;
        },
      )
