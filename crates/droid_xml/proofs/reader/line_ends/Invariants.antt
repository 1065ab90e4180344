use Rattle.std.proofs.Common.{◌≡◌, take}
use Rattle.std.specs.Prelude.{count_by}
use Rattle.droid_xml.specs.Bytes.{is_byte}
use Rattle.droid_xml.proofs.reader.line_ends.Given as goal

abbrev pub invariant-loop-byte : goal.invariant-loop-byte
invariant-loop-byte l = l.count ≡ count_by (is_byte 10) (take l.byte-index l.text)
