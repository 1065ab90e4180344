-- The ways of the first.
use Rattle.std.proofs.Common.{◌≡◌, take}
use Rattle.std.specs.Prelude.{min}
use Rattle.droid_signature_pattern.specs.Choices.{ways}
use Rattle.droid_signature.proofs.combination.ways.Given as goal

abbrev pub invariant-loop-choices : goal.invariant-loop-choices
invariant-loop-choices l = l.count ≡ min (ways (take l.choices-index l.all)) 18446744073709551615
