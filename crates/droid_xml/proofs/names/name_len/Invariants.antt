use Rattle.std.proofs.Common.{◌≡◌, ◌+◌, drop}
use Rattle.std.specs.List.{prefix_len}
use Rattle.droid_xml.specs.Names.{is_name_byte}
use Rattle.droid_xml.proofs.names.name_len.Given as goal

-- the bytes so far are those of a name
abbrev pub invariant-loop-place : goal.invariant-loop-place
invariant-loop-place l = l.place + prefix_len is_name_byte (drop l.place l.text) ≡ prefix_len is_name_byte l.text
