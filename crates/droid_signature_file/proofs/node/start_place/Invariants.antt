use Rattle.std.proofs.Common.{◌≡◌, ◌+◌, drop, map}
use Rattle.std.specs.List.{position_or_len}
use Rattle.droid_xml.specs.Views.{part}
use Rattle.droid_signature_file.specs.Elements.{is_start}
use Rattle.droid_signature_file.proofs.node.start_place.Given as goal

-- none of the pieces so far begins an element
abbrev pub invariant-loop-place : goal.invariant-loop-place
invariant-loop-place l = l.place + position_or_len is_start (map part (drop l.place l.pieces)) ≡ position_or_len is_start (map part l.pieces)
