use Rattle.droid_recovery.proofs.BareEnds.{finishes_bare}
use Rattle.droid_recovery.proofs.bare_laws.a_bare_file_is_finished_by_its_finding.Goals as goal

pub returns : goal.returns
returns c setting bare world after version profile file reply is_bare accepted = finishes_bare setting bare world after version profile file reply is_bare accepted
