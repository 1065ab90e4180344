use Rattle.std.proofs.Common.{ap, ◌∙◌}
use Rattle.droid_recovery.specs.Faults.{of_store}
use Rattle.droid_core.proofs.Hashes.{of_spelled}
use Rattle.droid_core.proofs.ShortRows.{finished_fits}
use Rattle.droid_recovery.proofs.finishes.keep_reply.Goals as goal

pub returns-in-Err-clause-memory : goal.returns-in-Err-clause-memory
returns-in-Err-clause-memory c = λ finding same_reply may.
    let spelled = rw c.in-Finished.is at c.requires.spelled in
    c.from.ensures
    ∙ ap of_store (c.in-Err.ensures.memory c.requires.fits
    (finished_fits c.see_file.new.store c.args.profile c.args.file finding.method finding.mismatch _ _ (rw c.see_file.ensures.same may.short) (of_spelled c.args.entry.now.version _ spelled.0) spelled.1 spelled.2))
