use Rattle.std.proofs.Common.{◌≡◌, ◌+◌, drop}
use Rattle.std.specs.List.{position_or_len}
use Rattle.droid_xml.specs.Pieces.{ends_text}
use Rattle.droid_xml.proofs.pieces.text_len.Given as goal

-- none of the bytes so far ends the text
abbrev pub invariant-loop-place : goal.invariant-loop-place
invariant-loop-place l = l.place + position_or_len ends_text (drop l.place l.text) ≡ position_or_len ends_text l.text
