-- Whether the rest is numbered decides.
use Rattle.std.proofs.Common.{◌≡◌, ◌+◌, drop}
use Rattle.droid_signature_pattern.specs.Positions.{are_numbered}
use Rattle.droid_signature_pattern.proofs.positions.are_numbered.Given as goal

abbrev pub invariant-loop-place : goal.invariant-loop-place
invariant-loop-place l = are_numbered (l.place + 1) (drop l.place l.parts) ≡ are_numbered 1 l.parts
