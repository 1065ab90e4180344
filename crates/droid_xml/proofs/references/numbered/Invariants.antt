use Rattle.std.proofs.Common.{◌≡◌, ◌≤◌, drop}
use Rattle.droid_xml.specs.Bytes.{◌>>=◌}
use Rattle.droid_xml.specs.References.{more_digits, char_of}
use Rattle.droid_xml.proofs.references.numbered.Given as goal

-- the digits so far are kept as a number, or at the upper limit
abbrev pub invariant-loop-byte : goal.invariant-loop-byte
invariant-loop-byte l = record {
  low : 2 ≤ l.base;
  high : l.base ≤ 16;
  small : l.value ≤ 0x11_0000;
  same : (more_digits l.base l.value (drop l.byte-index l.digits) >>= char_of) ≡ (more_digits l.base 0 l.digits >>= char_of);
}
