use Rattle.std.proofs.Common.{◌∙◌, sym}
use Rattle.droid_pronom.proofs.RegistryForms.{number_parsed}
use Rattle.droid_pronom.proofs.fields.number_of.Goals as goal

pub returns-then-are_digits : goal.returns-then-are_digits
returns-then-are_digits c = c.ok.ensures.value ∙ number_parsed c.args.text.now c.parse.result c.parse.ensures.value.0 (sym c.has_bytes.ensures ∙ c.if-has_bytes.true) (sym c.are_digits.ensures ∙ c.if-are_digits.true)
