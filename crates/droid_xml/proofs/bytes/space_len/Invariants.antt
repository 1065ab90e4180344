use Rattle.std.proofs.Common.{◌≡◌, ◌+◌, drop}
use Rattle.std.specs.List.{prefix_len}
use Rattle.droid_xml.specs.Bytes.{is_space}
use Rattle.droid_xml.proofs.bytes.space_len.Given as goal

-- the bytes so far are white space
abbrev pub invariant-loop-place : goal.invariant-loop-place
invariant-loop-place l = l.place + prefix_len is_space (drop l.place l.text) ≡ prefix_len is_space l.text
