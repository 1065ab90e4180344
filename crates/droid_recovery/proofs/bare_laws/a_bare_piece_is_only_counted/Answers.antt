use Rattle.droid_recovery.proofs.BareEnds.{piece_only_counted}
use Rattle.droid_recovery.proofs.bare_laws.a_bare_piece_is_only_counted.Goals as goal

pub returns : goal.returns
returns c setting bare world after version profile file index bytes reply is_bare accepted = piece_only_counted setting bare world after version profile file index bytes reply is_bare accepted
