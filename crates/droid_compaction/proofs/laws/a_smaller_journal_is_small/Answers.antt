use Rattle.droid_compaction.proofs.Sizes.{finish_size, other_size, piece_size, record_size, total_size, unfinished_size}
use Rattle.droid_compaction.proofs.laws.a_smaller_journal_is_small.Goals as goal

pub returns-clause-record : goal.returns-clause-record
returns-clause-record c = record_size

pub returns-clause-total : goal.returns-clause-total
returns-clause-total c = total_size

pub returns-clause-piece : goal.returns-clause-piece
returns-clause-piece c = piece_size

pub returns-clause-finish : goal.returns-clause-finish
returns-clause-finish c = finish_size

pub returns-clause-unfinished : goal.returns-clause-unfinished
returns-clause-unfinished c = unfinished_size

pub returns-clause-other : goal.returns-clause-other
returns-clause-other c = other_size
