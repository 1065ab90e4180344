-- As many bytes as there were steps.
use Rattle.std.proofs.Common.{◌≡◌, ◌++◌}
use Rattle.droid_signature_file.specs.Expansions.{any_bytes}
use Rattle.droid_signature_pattern.specs.Written.{written_all}
use Rattle.droid_signature_pattern.proofs.range_texts.push_any.Given as goal

abbrev pub invariant-loop-place : goal.invariant-loop-place
invariant-loop-place l = l.text.items ≡ l.initial.text.items ++ written_all (any_bytes l.place)
