use Rattle.std.proofs.Common.{ap}
use Rattle.std.proofs.lemmas.Result.{err_from_is_err_and}
use Rattle.droid_core.proofs.Hashes.{of_spelled}
use Rattle.droid_core.proofs.PuidTexts.{are_words, are_texts}
use Rattle.droid_core.proofs.ShortRows.{finished_fits}
use Rattle.droid_store.specs.Faults.{reported_as}
use Rattle.droid_core.proofs.commands.completion.keep_finding.Goals as goal

pub commit_finish-requires-clause-puids : goal.commit_finish-requires-clause-puids
commit_finish-requires-clause-puids c = are_words c.args.finding.found.puids c.requires.well_formed.puids

pub returns-in_err-commit_finish-clause-memory : goal.returns-in_err-commit_finish-clause-memory
returns-in_err-commit_finish-clause-memory c = λ short.
    let found = c.args.finding.found in
    let fits = finished_fits c.args.store.now c.args.profile c.args.file found.method found.mismatch c.args.finding.sealed.hash found.puids short (of_spelled c.args.stamp.version _ c.requires.hash) c.requires.well_formed.few (are_texts found.puids c.requires.well_formed.puids) in
    let fault = err_from_is_err_and c.from_residual-in_err-commit_finish.result c.from_residual-in_err-commit_finish.ensures.1 in
    rw (fault.1, fault.2) (ap reported_as (c.in_err-commit_finish.ensures.memory c.in_ok-entry.ensures.fits fits))
