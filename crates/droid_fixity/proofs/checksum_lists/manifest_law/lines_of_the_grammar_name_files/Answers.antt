use Rattle.droid_fixity.proofs.GrammarHolds.{read_named}
use Rattle.droid_fixity.proofs.GrammarRead.{named_read}
use Rattle.droid_fixity.proofs.checksum_lists.manifest_law.lines_of_the_grammar_name_files.Goals as goal

pub returns : goal.returns
returns c = λ form line hash path. (read_named form line hash path, named_read form line hash path)
