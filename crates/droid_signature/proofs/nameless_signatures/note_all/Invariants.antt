-- The IDs of the first formats.
use Rattle.std.proofs.Common.{[], take}
use Rattle.droid_signature.specs.Unnamed.{AreNamed, ids_named}
use Rattle.droid_signature.proofs.nameless_signatures.note_all.Given as goal

abbrev pub invariant-loop-format : goal.invariant-loop-format
invariant-loop-format l = AreNamed l.fn.named [] → AreNamed l.named (ids_named (take l.format-index l.formats))
