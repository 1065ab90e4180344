use Rattle.std.proofs.Common.{◌≡◌, [], map, take}
use Rattle.std.specs.List.{fold}
use Rattle.droid_xml.specs.Views.{part}
use Rattle.droid_signature_file.specs.Unknown.{counted}
use Rattle.droid_signature_file.proofs.tally.unknown_names.Given as goal

-- the pieces so far are counted
abbrev pub invariant-loop-piece : goal.invariant-loop-piece
invariant-loop-piece l = l.counting ≡ fold counted (record { stack = []; found = record { names = []; unlisted = 0 } }) (map part (take l.piece-index l.pieces))
