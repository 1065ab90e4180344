-- The first formats.
use Rattle.std.proofs.Common.{take}
use Rattle.droid_signature.specs.Formats.{placed}
use Rattle.droid_signature.specs.Keepings.{Keeps}
use Rattle.droid_signature.proofs.formats.keep_formats.Given as goal

abbrev pub invariant-loop-place : goal.invariant-loop-place
invariant-loop-place l = Keeps (placed (take l.place l.formats)) l.keeping
