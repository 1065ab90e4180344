use Rattle.std.proofs.Common.{◌≡◌}
use Rattle.std.specs.Prelude.{Some}
use Rattle.std.specs.List.{fold}
use Rattle.droid_xml.specs.Bytes.{only_if}
use Rattle.droid_xml.specs.Drafts.{partial}
use Rattle.droid_xml.specs.Values.{after_each, nothing}
use Rattle.droid_xml.proofs.values.value_of.Given as goal

-- what the characters so far leave
abbrev pub invariant-loop-c : goal.invariant-loop-c
invariant-loop-c l = fold after_each (Some nothing) l.yielded ≡ only_if l.is_right (partial l.draft)
