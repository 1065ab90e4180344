use Rattle.std.proofs.Common.{◌≡◌, inl, List, ℕ, None, refl, subst, arith}
use Rattle.std.proofs.lemmas.Result.{IfOk-from_err}
use Rattle.droid_profile.specs.Kids.{entry_refusal}
use Rattle.droid_profile.specs.declared.fault.ProfileFault.TheVariants.{Memory}
use Rattle.droid_profile.specs.StepsTaken.{IsSkipped}
use Rattle.droid_profile.proofs.ScanSteps.{is_folder, not_taken, takes_file, takes_folder, takes_no_text, takes_skipped}
use Rattle.droid_profile.proofs.StepsMade.{few_row, file_few, file_less, folder_few, folder_less}
use Rattle.droid_profile.proofs.walk.entries.take_entry.Goals as goal

-- ---- something that is skipped

pub returns-in_default-clause-taken : goal.returns-in_default-clause-taken
returns-in_default-clause-taken g c = λ before next.
    takes_no_text g.T.Tree.observes c.args.entry before _ c.args.rows.now.items c.args.scan.now next c.args.files.now.items c.args.tree.now c.in_default.ensures refl c.push_left_below.new.rows.items c.in_ok-push_left_below.ensures

pub returns-in-Some-skip_reason-clause-taken : goal.returns-in-Some-skip_reason-clause-taken
returns-in-Some-skip_reason-clause-taken g c = λ before next.
    takes_skipped g.T.Tree.observes c.args.entry before _ c.args.rows.now.items c.args.scan.now next c.in-Some-skip_reason.why c.args.files.now.items c.args.tree.now c.in-Some.ensures.1
    (subst (λ (path : List ℕ). IsSkipped path c.args.entry c.in-Some-skip_reason.why) c.as_str.ensures.value c.in-Some-skip_reason.ensures) refl c.push_left_below-in-Some-skip_reason.new.rows.items c.in_ok-push_left_below-in-Some-skip_reason.ensures

-- ---- a file or a folder

pub returns-in_ok-take_file-in-File-clause-taken :
    goal.returns-in_ok-take_file-in-File-clause-taken
returns-in_ok-take_file-in-File-clause-taken g c = λ before next.
    takes_file g.T.Tree.observes c.args.entry before c.take_file.new.scan c.args.rows.now.items c.args.scan.now next c.in-Some.ensures.1
    (subst (λ (path : List ℕ). entry_refusal path c.args.entry ≡ None) c.as_str.ensures.value c.in-None.ensures.1)
    c.take_file.new.rows.items c.args.files.now.items c.take_file.new.files.items c.args.tree.now c.in-File.is c.in_ok-take_file-in-File.ensures.taken

pub returns-in_ok-take_folder-in_default-kind : goal.returns-in_ok-take_folder-in_default-kind
returns-in_ok-take_folder-in_default-kind g c = record {
  taken = λ before next.
      takes_folder g.T.Tree.observes c.args.entry before c.take_folder.new.scan c.args.rows.now.items c.args.scan.now next c.in-Some.ensures.1
      (subst (λ (path : List ℕ). entry_refusal path c.args.entry ≡ None) c.as_str.ensures.value c.in-None.ensures.1)
      c.take_folder.new.rows.items c.args.files.now.items c.args.tree.now c.take_folder.new.tree (is_folder c.args.entry c.in-None.ensures.0 c.in_default-kind.not-File) c.in_ok-take_folder-in_default-kind.ensures.taken;
  less = folder_less g.T.Tree.observes c.args.entry c.args.scan.now c.take_folder.new.scan c.args.rows.now.items c.take_folder.new.rows.items c.args.tree.now c.take_folder.new.tree c.in_ok-take_folder-in_default-kind.ensures.taken;
  few = folder_few g.T.Tree.observes c.args.entry c.args.scan.now c.take_folder.new.scan c.args.rows.now.items c.take_folder.new.rows.items c.args.tree.now c.take_folder.new.tree c.in_ok-take_folder-in_default-kind.ensures.taken;
  ended = tt;
}

pub returns-in_ok-take_file-in-File-clause-less : goal.returns-in_ok-take_file-in-File-clause-less
returns-in_ok-take_file-in-File-clause-less g c = file_less c.args.entry c.args.scan.now c.take_file.new.scan c.args.rows.now.items c.take_file.new.rows.items c.in_ok-take_file-in-File.ensures.taken

pub returns-in_ok-take_file-in-File-clause-few : goal.returns-in_ok-take_file-in-File-clause-few
returns-in_ok-take_file-in-File-clause-few g c = file_few c.args.entry c.args.scan.now c.take_file.new.scan c.args.rows.now.items c.take_file.new.rows.items c.in_ok-take_file-in-File.ensures.taken

pub returns-in_default-clause-few : goal.returns-in_default-clause-few
returns-in_default-clause-few g c = few_row c.args.scan.now c.args.scan.now c.args.rows.now.items c.push_left_below.new.rows.items _ c.in_ok-push_left_below.ensures (omega arith)

pub returns-in-Some-skip_reason-clause-few : goal.returns-in-Some-skip_reason-clause-few
returns-in-Some-skip_reason-clause-few g c = few_row c.args.scan.now c.args.scan.now c.args.rows.now.items c.push_left_below-in-Some-skip_reason.new.rows.items _ c.in_ok-push_left_below-in-Some-skip_reason.ensures (omega arith)

-- ---- early ends

pub returns-in_err-push_left_below-clause-ended : goal.returns-in_err-push_left_below-clause-ended
returns-in_err-push_left_below-clause-ended g c =
    not_taken g.T.Tree.observes c.args.entry c.args.scan.now c.args.rows.now.items c.args.files.now.items c.args.tree.now c.args.tree.now c.from_residual.result Memory c.from_residual.ensures.1 (inl refl) (inl refl)

pub returns-in_err-push_left_below-in-Some-skip_reason-clause-ended :
    goal.returns-in_err-push_left_below-in-Some-skip_reason-clause-ended
returns-in_err-push_left_below-in-Some-skip_reason-clause-ended g c =
    not_taken g.T.Tree.observes c.args.entry c.args.scan.now c.args.rows.now.items c.args.files.now.items c.args.tree.now c.args.tree.now
    c.from_residual-in_err-push_left_below-in-Some-skip_reason.result Memory c.from_residual-in_err-push_left_below-in-Some-skip_reason.ensures.1 (inl refl) (inl refl)

pub returns-in_err-path-clause-ended : goal.returns-in_err-path-clause-ended
returns-in_err-path-clause-ended g c =
    not_taken g.T.Tree.observes c.args.entry c.args.scan.now c.args.rows.now.items c.args.files.now.items c.args.tree.now c.args.tree.now c.from_residual-in_err-path.result Memory c.from_residual-in_err-path.ensures.1 (inl refl) (inl refl)

pub returns-in_err-name-clause-ended : goal.returns-in_err-name-clause-ended
returns-in_err-name-clause-ended g c =
    not_taken g.T.Tree.observes c.args.entry c.args.scan.now c.args.rows.now.items c.args.files.now.items c.args.tree.now c.args.tree.now c.from_residual-in_err-name.result Memory c.from_residual-in_err-name.ensures.1 (inl refl) (inl refl)

pub returns-in_err-take_file-in-File-clause-ended :
    goal.returns-in_err-take_file-in-File-clause-ended
returns-in_err-take_file-in-File-clause-ended g c =
    not_taken g.T.Tree.observes c.args.entry c.args.scan.now c.args.rows.now.items c.args.files.now.items c.args.tree.now c.args.tree.now
    c.from_residual-in_err-take_file-in-File.result _ c.from_residual-in_err-take_file-in-File.ensures.1 c.in_err-take_file-in-File.ensures.ended (inl refl)

pub returns-in_err-take_folder-in_default-kind : goal.returns-in_err-take_folder-in_default-kind
returns-in_err-take_folder-in_default-kind g c = record {
  taken = IfOk-from_err c.from_residual-in_err-take_folder-in_default-kind.result _ c.from_residual-in_err-take_folder-in_default-kind.ensures.0;
  less = IfOk-from_err c.from_residual-in_err-take_folder-in_default-kind.result _ c.from_residual-in_err-take_folder-in_default-kind.ensures.0;
  few = IfOk-from_err c.from_residual-in_err-take_folder-in_default-kind.result _ c.from_residual-in_err-take_folder-in_default-kind.ensures.0;
  ended = not_taken g.T.Tree.observes c.args.entry c.args.scan.now c.args.rows.now.items c.args.files.now.items c.args.tree.now c.take_folder.new.tree
      c.from_residual-in_err-take_folder-in_default-kind.result _ c.from_residual-in_err-take_folder-in_default-kind.ensures.1 c.in_err-take_folder-in_default-kind.ensures.ended c.in_err-take_folder-in_default-kind.ensures.stands;
}
