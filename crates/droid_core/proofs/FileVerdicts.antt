-- What comes of requests for a file, by what its look-up found.
use Rattle.std.proofs.Common.{◌≡◌, inl, inr, ℕ, List, slice_get, Bool, true, false, not, refl, sym, ap, ◌∙◌}
use Rattle.std.proofs.lemmas.Bool.{cases_Bool}
use Rattle.std.specs.Prelude.{ℤ, Err}
use Rattle.droid_frame.specs.declared.refusal.Refusal.{Refusal}
use Rattle.droid_frame.specs.declared.refusal.Refusal.TheVariants.{AlreadyFinished}
use Rattle.droid_frame.specs.declared.reply.Reply.TheVariants.{Refused}
use Rattle.droid_core_spec.specs.Judging.{Verdict}
use Rattle.droid_core_spec.specs.Setting.{Setting}
use Rattle.droid_core_spec.specs.MemoryFaults.{is_out_of_memory_of}
use Rattle.droid_core_spec.specs.World.{Content, Profile, World}
use Rattle.droid_store.specs.declared.rows.NodeState.{NodeState}
use Rattle.droid_store.specs.declared.rows.NodeState.TheVariants.{Folder, Unfinished, Finished}
use Rattle.droid_store.specs.Rows.{Rows, is_unfinished}
use Rattle.droid_core.specs.Changes.{Stays, Comes}
use Rattle.droid_core.specs.declared.holdings.Holdings.{Holdings}
use Rattle.droid_core.specs.declared.file_rows.FileRow.{FileRow}
use Rattle.droid_core.specs.declared.stamps.Stamp.{Stamp}
use Rattle.droid_core.specs.Files.{OpenFiles, open_at}
use Rattle.droid_core.specs.Assemblies.{HasAssemblies, IsOpenFor}
use Rattle.droid_core.specs.HoldingsStanding.{IsIn}
use Rattle.droid_core.specs.FileLookUps.{HasFile, FindsFile, HasUnfinished, FindsUnfinished, RefusesFinished, for_file, state_of}
use Rattle.droid_core.proofs.Staying.{if_refused, comes_refused, read_only}
use Rattle.droid_core.proofs.Assembled.{assembly_of}

-- ---- where it was not found

-- what its look-up refuses is refused
pub comes_nowhere : (setting : Setting) (world : World) (old new : Holdings) (stamp : Stamp) (number id : ℕ) (judge_there : Profile → ℕ → ℤ → List ℕ → Content → Verdict) (verdict : Verdict) (refusal : Refusal)
    → verdict ≡ for_file world number id judge_there → FindsFile world number id (Err refusal) → Stays setting world old new → Comes setting world old new stamp verdict (Refused refusal)
comes_nowhere setting world old new stamp number id judge_there verdict refusal judged found stays =
    comes_refused setting world old new stamp verdict refusal (if_refused (is_out_of_memory_of refusal) (λ refuses. judged ∙ refuses judge_there) found) stays

-- what the look-up of an unfinished file refuses is refused
pub comes_unfound : (setting : Setting) (world : World) (old : Holdings) (store : Rows) (stamp : Stamp) (number id : ℕ) (judge_there : Profile → ℕ → ℤ → List ℕ → Content → Verdict) (verdict : Verdict) (refusal : Refusal)
    → verdict ≡ for_file world number id judge_there → RefusesFinished judge_there → FindsUnfinished world old.files number id (Err refusal) → store ≡ old.store → IsIn setting world old
    → Comes setting world old (record old { store = store }) stamp verdict (Refused refusal)
comes_unfound setting world old store stamp number id judge_there verdict refusal judged finished found same is_in =
    comes_refused setting world old (record old { store = store }) stamp verdict refusal (if_refused (is_out_of_memory_of refusal) (λ refuses. judged ∙ refuses judge_there finished) found) (read_only setting world old store same is_in)

pub nowhere_unfinished : (world : World) (files : OpenFiles) (number id : ℕ) (refusal : Refusal) → FindsFile world number id (Err refusal) → FindsUnfinished world files number id (Err refusal)
nowhere_unfinished world files number id refusal found = if_refused (is_out_of_memory_of refusal) (λ refuses judge_there finished. refuses judge_there) found

-- ---- where the file was found

module _ (world : World) (number id : ℕ) (row : FileRow) (has : HasFile world number id row) where
  pub judged_there : (judge_there : Profile → ℕ → ℤ → List ℕ → Content → Verdict) → for_file world number id judge_there ≡ judge_there has.profile has.parent has.modified has.name has.content
  judged_there judge_there = rw (has.there, has.at) refl

  shown : (content : Content) → is_unfinished (state_of content) ≡ not content.finished
  shown content = elim (cases_Bool content.finished) [
    | inl is ↦ rw is refl
    | inr isnt ↦ rw isnt refl
  ]

  -- its row says whether it is finished
  pub finished_by_row : is_unfinished row.node.state ≡ not has.content.finished
  finished_by_row = ap is_unfinished has.state_is ∙ shown has.content

  pub unfinished_there : is_unfinished row.node.state ≡ true → has.content.finished ≡ false
  unfinished_there is = not_true has.content.finished (sym finished_by_row ∙ is)
    where
      not_true : (b : Bool) → not b ≡ true → b ≡ false
      not_true true it = absurd cc
      not_true false it = refl

  pub finished_there : is_unfinished row.node.state ≡ false → has.content.finished ≡ true
  finished_there isnt = not_false has.content.finished (sym finished_by_row ∙ isnt)
    where
      not_false : (b : Bool) → not b ≡ false → b ≡ true
      not_false true it = refl
      not_false false it = absurd cc

  module _ (files : OpenFiles) where
    pub already_finished : is_unfinished row.node.state ≡ false → FindsUnfinished world files number id (Err AlreadyFinished)
    already_finished isnt = λ judge_there refuses. judged_there judge_there ∙ refuses has.profile has.parent has.modified has.name has.content (finished_there isnt)

    module _ (assembled : HasAssemblies world files) (is : is_unfinished row.node.state ≡ true) where
      -- an unfinished file has its assembly
      pub its_assembly : IsOpenFor has.profile has.content (open_at number id files.files)
      its_assembly = assembly_of world files assembled number has.profile id has.parent has.modified has.name has.content has.there has.at (unfinished_there is)

      pub found_unfinished : (place : ℕ) → slice_get files.files place ≡ open_at number id files.files → HasUnfinished world files number id (record { row = row; place = place })
      found_unfinished place at_place = record { file = has; unfinished = unfinished_there is; its = its_assembly; place = at_place }

-- the state of an unfinished file
pub is_state_unfinished : (state : NodeState) → is_unfinished state ≡ true → state ≡ Unfinished
is_state_unfinished Folder is = absurd cc
is_state_unfinished Unfinished is = refl
is_state_unfinished Finished is = absurd cc
