-- Nothing stands behind the texts yet.
use Rattle.std.proofs.Common.{[], ◌∷◌, ap, ◌∙◌}
use Rattle.droid_signature_pattern.specs.Texts.{joined}
use Rattle.droid_signature_pattern.proofs.Joined.{joined_one}
use Rattle.droid_signature_pattern.proofs.growth.Growing.of.Goals as goal

pub returns : goal.returns
returns c = ap (λ l. joined c.args.texts (l ∷ [])) c.new.ensures.items ∙ joined_one c.args.texts
