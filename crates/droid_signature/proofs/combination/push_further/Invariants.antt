-- What is written, and what is left.
use Rattle.std.proofs.Common.{◌≡◌, ◌<◌, ◌++◌, drop}
use Rattle.std.specs.List.{flat_map}
use Rattle.droid_signature.specs.Csv.{line}
use Rattle.droid_signature_pattern.specs.Choices.{ways}
use Rattle.droid_signature.specs.Combinations.{further_fields, picks}
use Rattle.droid_signature.proofs.combination.push_further.Given as goal

abbrev pub invariant-loop-choices : goal.invariant-loop-choices
invariant-loop-choices l = record {
  written : l.text.items ++ flat_map line (further_fields l.puid (picks (drop l.choices-index l.rest) l.left)) ≡ l.fn.text.items ++ flat_map line (further_fields l.puid (picks l.rest l.number));
  size : l.size ≡ ways (drop l.choices-index l.rest);
  below : l.left < l.size;
}
