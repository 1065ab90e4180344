-- What is left has the hash that all have.
use Rattle.std.proofs.Common.{◌≡◌, drop}
use Rattle.droid_lists.specs.Listings.{hash_in}
use Rattle.droid_lists.proofs.list_content.hash_in.Given as goal

abbrev pub invariant-loop-item : goal.invariant-loop-item
invariant-loop-item l = hash_in (drop l.item-index l.items) ≡ hash_in l.items
