use Rattle.std.proofs.Common.{refl, ◌∙◌, rules}
use Rattle.std.proofs.lemmas.Result.{err_from_is_err_and}
use Rattle.droid_core.proofs.FileAbandoned.{abandon_there, abandon_for_file, abandoned}
use Rattle.droid_core.proofs.FileVerdicts.{comes_unfound}
use Rattle.droid_core.proofs.commands.abandonment.abandon.Goals as goal

pub returns-in_err-found : goal.returns-in_err-found
returns-in_err-found c = record {
  answers = record {
    comes = λ setting world is_in.
        let fault = err_from_is_err_and c.from_residual.result c.from_residual.ensures.1 in
        rw (fault.1, fault.2) (comes_unfound setting world c.args.holdings.now c.unfinished_file.new.store c.args.stamp c.args.profile c.args.file (abandon_there world c.args.profile c.args.file) _ _
        (abandon_for_file world c.args.profile c.args.file) (λ its parent modified name content finished. rw finished refl) (c.in_err-found.ensures.found setting world is_in.rows is_in.files) c.unfinished_file.ensures.same is_in);
    spelled = search rules;
    limits = refl;
    registry = refl;
  };
}

pub returns : goal.returns
returns c = record {
  answers = record {
    comes = λ setting world is_in.
        let stored = c.in_ok-commit_abandon.ensures.ok ∙ (rw (c.in_ok-entry.ensures.row, c.unfinished_file.ensures.same) refl) in
        abandoned setting world c.args.profile c.args.file c.args.holdings.now c.in_ok-found.found (c.in_ok-found.ensures.found setting world is_in.rows is_in.files) c.args.stamp c.commit_abandon.new.self c.remove.new.self is_in stored
        (record { gone = c.remove.ensures.gone; others = c.remove.ensures.others; count = c.remove.ensures.count; limit = c.remove.ensures.limit });
    spelled = search rules;
    limits = refl;
    registry = refl;
  };
}
