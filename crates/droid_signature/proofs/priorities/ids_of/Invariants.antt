-- The IDs of the first formats.
use Rattle.std.proofs.Common.{take}
use Rattle.droid_signature.specs.Holdings.{AreOf}
use Rattle.droid_signature.specs.Priorities as spec
use Rattle.droid_signature.specs.Views.{all_of}
use Rattle.droid_signature.proofs.priorities.ids_of.Given as goal

abbrev pub invariant-loop-place : goal.invariant-loop-place
invariant-loop-place l = AreOf l.ids (spec.ids_of (take l.place (all_of l.kept)))
