use Rattle.droid_fixity.proofs.OneKind.{one_kind}
use Rattle.droid_fixity.proofs.checksum_lists.manifest_law.lists_have_one_kind.Goals as goal

pub returns : goal.returns
returns c = one_kind
