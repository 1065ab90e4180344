use Rattle.droid_fixity.proofs.ReadBack.{read_back}
use Rattle.droid_fixity.proofs.checksum_lists.manifest_law.lines_are_read_back.Goals as goal

pub returns : goal.returns
returns c = read_back
