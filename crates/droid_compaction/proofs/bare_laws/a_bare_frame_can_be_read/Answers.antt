use Rattle.droid_compaction.proofs.Readable.{finish_is_readable, piece_is_readable}
use Rattle.droid_compaction.proofs.bare_laws.a_bare_frame_can_be_read.Goals as goal

pub returns-clause-piece : goal.returns-clause-piece
returns-clause-piece c = piece_is_readable

pub returns-clause-finish : goal.returns-clause-finish
returns-clause-finish c = finish_is_readable
