use Rattle.std.proofs.lemmas.Bool.{ne_eqb}
use Rattle.droid_lists.proofs.PlainFields.{plain_found}
use Rattle.droid_lists.proofs.spelling.text_field.plain_field.Goals as goal

pub returns : goal.returns
returns c =
    plain_found c.args.mark c.args.text.now c.in_ok-field.field.now c.in_ok-field.behind.now c.in_ok-behind.behind.now c.in_ok-found.rest.now
    c.in_ok-behind.field-0-0.now c.in_ok-found.found.now c.args.end c.requires
    c.in_ok-field.ensures.cases.1 c.in_ok-field.ensures.cases.2 c.in_ok-behind.ensures.cases.0 c.in_ok-found.ensures.cases.0
    (ne_eqb c.in_ok-found.found.now 34 c.if-found-eq34.false) c.if-found-mark.false
