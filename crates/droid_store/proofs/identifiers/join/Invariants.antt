-- The words so far are joined.
use Rattle.std.proofs.Common.{◌≡◌, string_bytes, take}
use Rattle.droid_store.specs.Encoded.{joined}
use Rattle.droid_store.proofs.identifiers.join.Given as goal

abbrev pub invariant-loop-place : goal.invariant-loop-place
invariant-loop-place l = string_bytes l.text ≡ joined (take l.place l.words)
