use Rattle.std.proofs.Common.{◌≡◌, ◌≤◌, ◌+◌, drop, map}
use Rattle.droid_xml.specs.Views.{part}
use Rattle.droid_signature_file.specs.Elements.{inner_len}
use Rattle.droid_signature_file.proofs.node.inner_len.Given as goal

-- `depth` elements are open, and the rest has the rest of the length
abbrev pub invariant-loop-place : goal.invariant-loop-place
invariant-loop-place l = (l.place + inner_len l.depth (map part (drop l.place l.pieces)) ≡ inner_len 0 (map part l.pieces)) × (l.depth ≤ l.place)
