use Rattle.std.proofs.Common.{refl}
use Rattle.droid_recovery.proofs.BareEnds.{ended_same}
use Rattle.droid_recovery.proofs.bare_laws.ended_files_need_no_bytes.Goals as goal

pub returns-clause-ended : goal.returns-clause-ended
returns-clause-ended c bare world ended = ended_same bare world ended

pub returns-clause-empty : goal.returns-clause-empty
returns-clause-empty c bare = refl
