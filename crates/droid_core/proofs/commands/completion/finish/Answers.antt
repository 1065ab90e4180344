use Rattle.std.proofs.Common.{Some, refl, sym, ap, ◌∙◌, rules}
use Rattle.std.proofs.lemmas.Result.{err_from_is_err_and}
use Rattle.droid_core_spec.specs.Conditions.{is_carried}
use Rattle.droid_core_spec.specs.Judging.{judge_finish}
use Rattle.droid_core.proofs.FileFinished.{finish_there, finish_for_file, only_looked, refused_unreported, kind_is, comes_unfinished, finished}
use Rattle.droid_core.proofs.Hashes.{spelled_hash}
use Rattle.droid_core.proofs.FileVerdicts.{comes_unfound}
use Rattle.droid_core.proofs.PieceTaken.{comes_out_of_memory}
use Rattle.droid_core.proofs.Staying.{read_only}
use Rattle.droid_core.proofs.commands.completion.finish.Goals as goal

pub returns-in_err-found : goal.returns-in_err-found
returns-in_err-found c = record {
  answers = record {
    comes = λ setting world is_in.
        let fault = err_from_is_err_and c.from_residual.result c.from_residual.ensures.1 in
        rw (fault.1, fault.2) (comes_unfound setting world c.args.holdings.now c.unfinished_file.new.store c.args.stamp c.args.profile c.args.file (finish_there setting world c.args.stamp.version c.args.profile c.args.file) _ _
        (finish_for_file setting world c.args.stamp.version c.args.profile c.args.file) (λ its parent modified name content finished. rw finished refl) (c.in_err-found.ensures.found setting world is_in.rows is_in.files) c.unfinished_file.ensures.same is_in);
    spelled = search rules;
    limits = refl;
    registry = refl;
  };
}

pub returns-then-not-is_carried : goal.returns-then-not-is_carried
returns-then-not-is_carried c = record {
  answers = record {
    comes = λ setting world is_in.
        let is = c.in_ok-found.ensures.found setting world is_in.rows is_in.files in
        let refused = refused_unreported setting world c.args.stamp.version c.args.profile c.args.file c.args.holdings.now c.in_ok-found.found is (sym c.if-not-is_carried.ensures) in
        rw refused (refl, read_only setting world c.args.holdings.now c.unfinished_file.new.store c.unfinished_file.ensures.same is_in);
    spelled = search rules;
    limits = refl;
    registry = refl;
  };
}

pub returns-in_err-finding : goal.returns-in_err-finding
returns-in_err-finding c = record {
  answers = record {
    comes = λ setting world is_in.
        let fault = err_from_is_err_and c.from_residual-in_err-finding.result c.from_residual-in_err-finding.ensures.1 in
        let is = c.in_ok-found.ensures.found setting world is_in.rows is_in.files in
        rw (fault.1, fault.2)
        (comes_unfinished setting world c.args.stamp.version c.args.profile c.args.file c.args.holdings.now c.in_ok-found.found is c.args.stamp _ _ (sym c.if-not-is_carried.ensures) c.in_err-finding.ensures.refused
        (only_looked setting world c.args.holdings.now c.in_ok-found.found.place c.unfinished_file.new.store c.identify_file.new.files c.unfinished_file.ensures.same c.identify_file.ensures.others c.identify_file.ensures.unchanged is_in));
    spelled = search rules;
    limits = refl;
    registry = refl;
  };
}

pub returns-in_err-is_of_kind : goal.returns-in_err-is_of_kind
returns-in_err-is_of_kind c = record {
  answers = record {
    comes = λ setting world is_in.
        let is = c.in_ok-found.ensures.found setting world is_in.rows is_in.files in
        let kind = kind_is setting world c.args.stamp.version c.args.profile c.args.file c.args.holdings.now c.in_ok-found.found is c.in_ok-finding.finding c.in_ok-finding.ensures.finding in
        absurd (let reported = c.in_err-is_of_kind.ensures.its kind in cc);
    spelled = search rules;
    limits = refl;
    registry = refl;
  };
}

pub keep_finding-requires : goal.keep_finding-requires
keep_finding-requires c = record {
  new = rw c.unfinished_file.ensures.same c.requires.new;
  small = c.requires.small;
  version = c.requires.version;
  file = rw c.unfinished_file.ensures.same c.in_ok-found.ensures.open;
  kind = rw c.unfinished_file.ensures.same (c.in_ok-found.ensures.hash ∙ ap Some (sym c.in_ok-is_of_kind.ensures.kind));
  hash = spelled_hash c.args.stamp.version _ c.in_ok-finding.ensures.well_formed.hash_value (ap (is_carried c.args.stamp.version) c.in_ok-is_of_kind.ensures.kind ∙ sym c.if-not-is_carried.ensures);
  well_formed = c.in_ok-finding.ensures.well_formed;
}

pub returns-in_err-reply : goal.returns-in_err-reply
returns-in_err-reply c = record {
  answers = record {
    comes = λ setting world is_in.
        let fault = err_from_is_err_and c.from_residual-in_err-reply.result c.from_residual-in_err-reply.ensures.1 in
        let memory = c.in_err-reply.ensures.memory (rw c.unfinished_file.ensures.same is_in.rows.short) in
        rw (fault.1, fault.2)
        (comes_out_of_memory setting world c.args.holdings.now _ c.args.stamp (judge_finish setting world c.args.stamp.version c.args.profile c.args.file) _ memory
        (only_looked setting world c.args.holdings.now c.in_ok-found.found.place c.keep_finding.new.store c.identify_file.new.files (c.in_err-reply.ensures.not_kept ∙ c.unfinished_file.ensures.same) c.identify_file.ensures.others c.identify_file.ensures.unchanged is_in));
    spelled = search rules;
    limits = refl;
    registry = refl;
  };
}

pub returns : goal.returns
returns c = record {
  answers = record {
    comes = λ setting world is_in.
        let is = c.in_ok-found.ensures.found setting world is_in.rows is_in.files in
        finished setting world c.args.stamp.version c.args.profile c.args.file c.args.holdings.now c.in_ok-found.found is c.in_ok-finding.finding c.in_ok-finding.ensures.finding
        c.args.stamp c.in_ok-reply.reply c.keep_finding.new.store c.identify_file.new.files c.remove.new.self is_in (sym c.if-not-is_carried.ensures) c.in_ok-finding.ensures.allowed
        (rw c.unfinished_file.ensures.same at c.in_ok-reply.ensures.kept) c.identify_file.ensures.others c.identify_file.ensures.unchanged
        (record { gone = c.remove.ensures.gone; others = c.remove.ensures.others; count = c.remove.ensures.count; limit = c.remove.ensures.limit });
    spelled = search rules;
    limits = refl;
    registry = refl;
  };
}
