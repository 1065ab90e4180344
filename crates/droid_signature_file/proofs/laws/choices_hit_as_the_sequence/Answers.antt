-- By the law of choices.
use Rattle.droid_signature_file.proofs.Choices.{choices_hit}
use Rattle.droid_signature_file.proofs.laws.choices_hit_as_the_sequence.Goals as goal

pub returns : goal.returns
returns c = λ sequence offsets patterns file scan_limit stand. choices_hit sequence offsets patterns file scan_limit stand
