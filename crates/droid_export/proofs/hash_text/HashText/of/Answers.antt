use Rattle.std.proofs.Common.{◌∙◌, refl}
use Rattle.hex.specs.Hex.{encode_with}
use Rattle.droid_export.proofs.hash_text.HashText.of.Goals as goal

pub returns-in-Nothing : goal.returns-in-Nothing
unfolding encode_with
returns-in-Nothing c = c.none.ensures ∙ (rw c.in-Nothing.is refl)
