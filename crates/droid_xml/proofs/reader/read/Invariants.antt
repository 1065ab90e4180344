use Rattle.std.proofs.Common.{map}
use Rattle.droid_xml.proofs.Reading.{HasRead}
use Rattle.droid_xml.specs.Views.{part, place}
use Rattle.droid_xml.proofs.reader.read.Given as goal

-- the pieces so far stand between the beginning and the place that the reader has come to
abbrev pub invariant-loop : goal.invariant-loop
invariant-loop l = HasRead l.text (map part l.pieces.items) (place l.reader)
