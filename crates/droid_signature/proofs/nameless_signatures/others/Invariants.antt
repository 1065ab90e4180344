-- The IDs of the first signatures that are not named.
use Rattle.std.proofs.Common.{◌≡◌, ℕ, List, take}
use Rattle.droid_signature.specs.Unnamed.{AreNamed, unnamed_among}
use Rattle.droid_signature.proofs.nameless_signatures.others.Given as goal

abbrev pub invariant-loop-signature : goal.invariant-loop-signature
invariant-loop-signature l = (ids : List ℕ) → AreNamed l.named ids → l.others.items ≡ unnamed_among ids (take l.signature-index l.signatures)
