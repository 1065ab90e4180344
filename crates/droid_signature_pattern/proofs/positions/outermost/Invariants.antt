-- The largest so far and the outermost of the rest give the outermost of all.
use Rattle.std.proofs.Common.{◌≡◌, drop}
use Rattle.std.specs.Prelude.{max}
use Rattle.droid_signature_file.specs.Meaning.{outermost}
use Rattle.droid_signature_pattern.proofs.positions.outermost.Given as goal

abbrev pub invariant-loop-fragment : goal.invariant-loop-fragment
invariant-loop-fragment l = max l.last (outermost (drop l.fragment-index l.fragments)) ≡ outermost l.fragments
