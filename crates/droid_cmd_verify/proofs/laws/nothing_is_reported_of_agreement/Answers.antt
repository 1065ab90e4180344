use Rattle.std.proofs.Common.{◌∙◌, [], ap, length}
use Rattle.std.proofs.lemmas.List.{nil_from_length}
use Rattle.std.proofs.lemmas.List.Sorted.{length_permutation}
use Rattle.droid_cmd_verify.specs.Findings.{findings_in}
use Rattle.droid_cmd_verify.proofs.Sameness.{none_unchecked, silent}
use Rattle.droid_cmd_verify.proofs.laws.nothing_is_reported_of_agreement.Goals as goal

pub returns : goal.returns
returns c = λ how listed found pairs findings are hashed.
    nil_from_length findings (length_permutation (findings_in how listed found [] pairs [] []) findings are.same
    ∙ ap length (silent how listed found pairs (none_unchecked how listed found pairs hashed)))
