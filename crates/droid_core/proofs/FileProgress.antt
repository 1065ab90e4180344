-- What comes of asking how far a file is, where it was found.
use Rattle.std.proofs.Common.{◌≡◌, ℕ, List, Bool, true, false, Some, refl, sym, ap, ◌∙◌}
use Rattle.std.specs.Prelude.{ℤ, MatchBool, IfOk, IsOk, OnErr, Result, Ok, Err}
use Rattle.droid_assembly.specs.Pieces.{piece_count}
use Rattle.droid_frame.specs.declared.refusal.Refusal.{Refusal}
use Rattle.droid_frame.specs.declared.reply.Reply.{Reply}
use Rattle.droid_frame.specs.declared.reply.Reply.TheVariants.{Progress}
use Rattle.droid_core_spec.specs.Files.{progress_of}
use Rattle.droid_core_spec.specs.Histories.{verdict_reply}
use Rattle.droid_core_spec.specs.Judging.{Verdict, Answered, judge_status}
use Rattle.droid_core_spec.specs.Setting.{Setting}
use Rattle.droid_core_spec.specs.MemoryFaults.{is_out_of_memory}
use Rattle.droid_core_spec.specs.World.{Content, File, Profile, World, numbered, node_at}
use Rattle.droid_store.specs.Rows.{is_unfinished}
use Rattle.droid_core.specs.Files.{OpenFiles}
use Rattle.droid_core.specs.Assemblies.{HasAssemblies}
use Rattle.droid_core.specs.Changes.{Stays, Leaves, Comes, answered}
use Rattle.droid_core.specs.declared.holdings.Holdings.{Holdings}
use Rattle.droid_core.specs.declared.file_rows.FileRow.{FileRow}
use Rattle.droid_core.specs.declared.stamps.Stamp.{Stamp}
use Rattle.droid_core.specs.FileLookUps.{HasFile, for_file}
use Rattle.droid_core.proofs.FileVerdicts.{judged_there, unfinished_there, finished_there}

-- a call that reports nothing only where something is so that isn't
pub reported_at_all : {P : Type 0} (reported : Result Reply Refusal) → OnErr reported P → (P → ⊥) → IsOk reported
reported_at_all (Ok reply) none isnt = refl
reported_at_all (Err refusal) none isnt = absurd (isnt none)

-- what comes of asking for this file
abbrev pub status_there : Profile → ℕ → ℤ → List ℕ → Content → Verdict
status_there profile parent modified name content = Answered (progress_of content)

pub status_for_file : (world : World) (number id : ℕ) → judge_status world number id ≡ for_file world number id status_there
unfolding judge_status
status_for_file world number id = refl

module _ (setting : Setting) (world : World) (old new : Holdings) (stamp : Stamp) (verdict : Verdict) (stays : Stays setting world old new) where
  one_of : (out_of_memory : Bool) (P Q : Type 0) → P → Q → MatchBool out_of_memory P Q
  one_of true P Q p q = p
  one_of false P Q p q = q

  -- the verdict's answer, where there is one
  comes_reported : (reported : Result Reply Refusal) → IfOk reported (λ reply. verdict ≡ Answered reply) → IsOk reported → Comes setting world old new stamp verdict (answered reported)
  comes_reported (Ok reply) is reported = one_of (is_out_of_memory reply) _ _ stays (rw is (refl, stays))
  comes_reported (Err refusal) is reported = absurd cc

module _ (setting : Setting) (world : World) (number id : ℕ) (row : FileRow) (has : HasFile world number id row) where
  reported_there : judge_status world number id ≡ Answered (progress_of has.content)
  reported_there = status_for_file world number id ∙ judged_there world number id row has status_there

  abbrev ReportsProgress : OpenFiles → Reply → Type 0
  ReportsProgress files reply = (world : World) (profile : Profile) (parent : ℕ) (modified : ℤ) (name : List ℕ) (content : Content) → HasAssemblies world files
      → numbered world.profiles number ≡ Some profile → node_at profile.nodes id ≡ Some (File parent modified name content) → content.finished ≡ false
      → reply ≡ progress_of content

  of_progress : (files : OpenFiles) → HasAssemblies world files → is_unfinished row.node.state ≡ true → (reported : Result Reply Refusal) → IfOk reported (ReportsProgress files)
      → IfOk reported (λ reply. judge_status world number id ≡ Answered reply)
  of_progress files assembled is (Ok reply) reports =
      reported_there ∙ ap Answered (sym (reports world has.profile has.parent has.modified has.name has.content assembled has.there has.at (unfinished_there world number id row has is)))
  of_progress files assembled is (Err refusal) reports = tt

  -- of an unfinished file its assembly says
  pub unfinished_reported : (old new : Holdings) (stamp : Stamp) → Stays setting world old new → HasAssemblies world old.files → is_unfinished row.node.state ≡ true
      → (reported : Result Reply Refusal) → IfOk reported (ReportsProgress old.files) → IsOk reported
      → Comes setting world old new stamp (judge_status world number id) (answered reported)
  unfinished_reported old new stamp stays assembled is reported reports reports_it = comes_reported setting world old new stamp _ stays reported (of_progress old.files assembled is reported reports) reports_it

  finished_progress : (content : Content) → content.finished ≡ true → progress_of content ≡ Progress (piece_count content.size content.piece_size) (piece_count content.size content.piece_size)
  finished_progress content finished = rw finished refl

  -- of a finished file its row does
  pub finished_reported : (old new : Holdings) (stamp : Stamp) (count : ℕ) → Stays setting world old new → is_unfinished row.node.state ≡ false → count ≡ piece_count row.node.item.size row.node.piece_size
      → (Progress count count ≡ verdict_reply (judge_status world number id)) × Leaves setting world old new stamp (judge_status world number id)
  finished_reported old new stamp count stays isnt counted =
      let finished = finished_progress has.content (finished_there world number id row has isnt) in
      let counts : count ≡ piece_count has.content.size has.content.piece_size = rw (counted, has.size_is, has.piece_size_is) refl in
      rw reported_there (ap (λ n. Progress n n) counts ∙ sym finished, stays)
