-- What the rest has up to a stop completes what the text has.
use Rattle.std.proofs.Common.{length, map}
use Rattle.droid_signature_pattern.specs.TermValues.{atom_of}
use Rattle.droid_signature_pattern.proofs.TermFronts.{ItemsLeft}
use Rattle.droid_signature_pattern.proofs.parser.items_of.Given as goal

abbrev pub invariant-loop-alloc : goal.invariant-loop-alloc
invariant-loop-alloc l = ItemsLeft l.text (map atom_of l.items.items) l.rest

abbrev pub decreases-loop-alloc : goal.decreases-loop-alloc
decreases-loop-alloc l = length l.rest
