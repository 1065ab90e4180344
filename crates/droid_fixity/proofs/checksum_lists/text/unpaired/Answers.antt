use Rattle.std.proofs.Common.{false}
use Rattle.droid_fixity.specs.Texts.{unpaired_from}
use Rattle.droid_fixity.proofs.Unpairing.{byte_kept}
use Rattle.droid_fixity.proofs.checksum_lists.text.unpaired.Goals as goal

pub loop-byte-preserved : goal.loop-byte-preserved
loop-byte-preserved c =
    byte_kept c.args.text.now c.loop-byte.copy.items c.add_unless.new.copy.items c.loop-byte.byte-index c.loop-byte.after c.is_second-second.result c.may_be_first-after.result
    (unpaired_from false c.args.text.now) c.loop-byte-test.true c.is_second-second.ensures c.may_be_first-after.ensures c.loop-byte.invariant c.in_ok-add_unless.ensures
