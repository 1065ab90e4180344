use Rattle.droid_tree.specs.Listings.{Splits}
use Rattle.droid_tree.proofs.order.split.Given as goal

abbrev pub invariant-loop-entry : goal.invariant-loop-entry
invariant-loop-entry l = Splits l.yielded l.listing.entries.items l.listing.repeated.items
