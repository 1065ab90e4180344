use Rattle.std.proofs.Common.{sym, refl, rules}
use Rattle.std.proofs.lemmas.Result.{err_from_is_err_and}
use Rattle.droid_core.proofs.FileProgress.{status_there, status_for_file, reported_at_all, unfinished_reported, finished_reported}
use Rattle.droid_core.proofs.FileVerdicts.{comes_nowhere}
use Rattle.droid_core.proofs.Staying.{read_only}
use Rattle.droid_core.proofs.CannotBe.{no_assembly, no_count}
use Rattle.droid_core.proofs.queries.progress.status.Goals as goal

pub returns-in_err-row : goal.returns-in_err-row
returns-in_err-row c = record {
  answers = λ stamp. record {
    comes = λ setting world is_in.
        let fault = err_from_is_err_and c.from_residual.result c.from_residual.ensures.1 in
        rw (fault.1, fault.2) (comes_nowhere setting world c.args.holdings.now _ stamp c.args.profile c.args.file status_there _ _
        (status_for_file world c.args.profile c.args.file) (c.in_err-row.ensures.found setting world is_in.rows) (read_only setting world c.args.holdings.now c.file_of.new.store c.file_of.ensures.same is_in));
    spelled = search rules;
    limits = refl;
    registry = refl;
  };
}

pub returns-then-is_unfinished : goal.returns-then-is_unfinished
returns-then-is_unfinished c = record {
  answers = λ stamp. record {
    comes = λ setting world is_in.
        let has = c.in_ok-row.ensures.found setting world is_in.rows in
        unfinished_reported setting world c.args.profile c.args.file c.in_ok-row.row has c.args.holdings.now _ stamp (read_only setting world c.args.holdings.now c.file_of.new.store c.file_of.ensures.same is_in)
        is_in.files (sym c.if-is_unfinished.ensures) c.progress_of.result c.progress_of.ensures.progress
        (reported_at_all c.progress_of.result c.progress_of.ensures.none (no_assembly world c.args.profile c.args.file c.in_ok-row.row has c.args.holdings.now.files is_in.files (sym c.if-is_unfinished.ensures)));
    spelled = c.progress_of.ensures.spelled stamp.version;
    limits = refl;
    registry = refl;
  };
}

pub returns : goal.returns
returns c = record {
  answers = λ stamp. record {
    comes = λ setting world is_in.
        let has = c.in_ok-row.ensures.found setting world is_in.rows in
        finished_reported setting world c.args.profile c.args.file c.in_ok-row.row has c.args.holdings.now _ stamp c.in_ok-pieces.pieces (read_only setting world c.args.holdings.now c.file_of.new.store c.file_of.ensures.same is_in)
        (sym c.if-is_unfinished.ensures) c.in_ok-pieces.ensures.count;
    spelled = search rules;
    limits = refl;
    registry = refl;
  };
}

pub returns-in_err-pieces : goal.returns-in_err-pieces
returns-in_err-pieces c = record {
  answers = λ stamp. record {
    comes = λ setting world is_in.
        let has = c.in_ok-row.ensures.found setting world is_in.rows in
        absurd (no_count world c.args.profile c.args.file c.in_ok-row.row has is_in.sound (λ some few. absurd (let reported = c.in_err-pieces.ensures.fits some few in cc)));
    spelled = search rules;
    limits = refl;
    registry = refl;
  };
}
