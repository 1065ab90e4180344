use Rattle.std.proofs.Common.{◌≡◌, ◌+◌, drop}
use Rattle.std.specs.List.{position_or_len}
use Rattle.droid_signature_file.specs.Unknown.{is_name}
use Rattle.droid_signature_file.proofs.tally.place_of.Given as goal

-- none of the names so far is the one
abbrev pub invariant-loop-place : goal.invariant-loop-place
invariant-loop-place l = l.place + position_or_len (is_name l.part l.name) (drop l.place l.names) ≡ position_or_len (is_name l.part l.name) l.names
