use Rattle.droid_recovery.proofs.EndedFiles.{ended_in, have_ended}
use Rattle.droid_recovery.proofs.bare_laws.an_ended_file_stays_so.Goals as goal

pub returns-clause-ended : goal.returns-clause-ended
returns-clause-ended c setting before later entry profile file legal ends = ended_in setting before later entry profile file legal ends

pub returns-clause-all : goal.returns-clause-all
returns-clause-all c bare world each = have_ended bare world each
