use Rattle.std.proofs.Common.{arith}
use Rattle.droid_xml.proofs.LineFeeds.{feeds_end}
use Rattle.droid_xml.proofs.line_ends.rewritten.Goals as goal

pub returns : goal.returns
returns c = feeds_end c.args.text.now c.loop-byte.bytes.items c.loop-byte.is_behind c.loop-byte.byte-index (omega arith) c.loop-byte.invariant
