use Rattle.std.proofs.Common.{◌≤◌, map}
use Rattle.droid_xml.specs.Views.{part, place}
use Rattle.droid_signature_file.proofs.KeptPieces.{HasKept}
use Rattle.droid_signature_file.proofs.pieces.pieces_of.Given as goal

-- the pieces so far are those kept of what stands before the place that the reader has come to
abbrev pub invariant-loop : goal.invariant-loop
invariant-loop l = HasKept l.text (map part l.pieces.items) l.depth (place l.reader) × (l.depth ≤ l.counter)
