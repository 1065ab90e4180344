use Rattle.std.proofs.Common.{◌≡◌, ◌+◌, drop}
use Rattle.std.specs.List.{position_or_len}
use Rattle.droid_xml.specs.Bytes.{is_byte}
use Rattle.droid_xml.proofs.bytes.len_before.Given as goal

-- the bytes so far are none of them such
abbrev pub invariant-loop-place : goal.invariant-loop-place
invariant-loop-place l = l.place + position_or_len (is_byte l.byte) (drop l.place l.text) ≡ position_or_len (is_byte l.byte) l.text
