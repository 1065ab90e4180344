use Rattle.std.proofs.Common.{◌≡◌, ◌++◌, drop, false}
use Rattle.droid_xml.specs.LineEnds.{line_feeds}
use Rattle.droid_xml.proofs.line_ends.rewritten.Given as goal

-- the bytes so far, and what comes of the rest
abbrev pub invariant-loop-byte : goal.invariant-loop-byte
invariant-loop-byte l = l.bytes.items ++ line_feeds l.is_behind (drop l.byte-index l.text) ≡ line_feeds false l.text
