use Rattle.std.proofs.Common.{◌≡◌, ◌≤◌, ◌++◌, drop, length, map, string_bytes}
use Rattle.std.specs.Prelude.{◌-◌}
use Rattle.droid_xml.specs.Views.{part}
use Rattle.droid_signature_file.specs.Elements.{words_from}
use Rattle.droid_signature_file.proofs.node.words_of.Given as goal

-- the text so far, and that in the rest
abbrev pub invariant-parts : goal.invariant-parts
invariant-parts l = (string_bytes l.words ++ words_from 0 (map part (drop l.at l.pieces)) ≡ words_from 0 (map part l.pieces)) × (l.at ≤ length l.pieces)

abbrev pub decreases-parts : goal.decreases-parts
decreases-parts l = length l.pieces - l.at
