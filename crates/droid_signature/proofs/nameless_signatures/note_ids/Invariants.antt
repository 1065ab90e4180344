-- The first IDs.
use Rattle.std.proofs.Common.{ℕ, List, ◌++◌, take}
use Rattle.droid_signature.specs.Unnamed.{AreNamed}
use Rattle.droid_signature.proofs.nameless_signatures.note_ids.Given as goal

abbrev pub invariant-loop-id : goal.invariant-loop-id
invariant-loop-id l = (before : List ℕ) → AreNamed l.fn.named before → AreNamed l.named (before ++ take l.id-index l.ids)
