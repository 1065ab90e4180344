use Rattle.std.proofs.Common.{◌∙◌, sym}
use Rattle.droid_lists.proofs.PlainFields.{none_found}
use Rattle.droid_lists.proofs.spelling.text_field.push_inner.Goals as goal

pub returns-in-None-clause-comes : goal.returns-in-None-clause-comes
returns-in-None-clause-comes c = rw (none_found c.args.mark c.args.text.now (sym c.first_quote.ensures ∙ c.in-None.is)) tt
