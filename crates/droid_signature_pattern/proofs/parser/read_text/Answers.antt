-- One more term, none, and the last one.
use Rattle.std.proofs.Common.{◌∷◌, [], map, ap, ◌∙◌}
use Rattle.std.proofs.lemmas.List.{map-append}
use Rattle.droid_pattern.proofs.TextLemmas.{is_none, is_some_list}
use Rattle.droid_signature_pattern.specs.TermValues.{term_of}
use Rattle.droid_signature_pattern.proofs.FaultLemmas.{passed_on}
use Rattle.droid_signature_pattern.proofs.TermFronts.{terms_next, terms_bad, terms_end, terms_only}
use Rattle.droid_signature_pattern.proofs.parser.read_text.Goals as goal

pub returns-in_err-term-clause-bad : goal.returns-in_err-term-clause-bad
returns-in_err-term-clause-bad c = λ was.
    terms_bad c.args.text.now (map term_of c.loop-rest.terms.items) c.loop-rest.rest.now (is_some_list c.loop-rest.rest.now c.loop-rest-test.ensures)
    (c.in_err-term.ensures.bad (passed_on c.from_residual.result _ c.from_residual.ensures.1 was)) c.loop-rest.invariant

pub loop-rest-preserved : goal.loop-rest-preserved
loop-rest-preserved c =
    let done = map term_of c.loop-rest.terms.items in
    let grown = ap (map term_of) c.in_ok-push.ensures.items ∙ map-append term_of c.loop-rest.terms.items (c.in_ok-term.term ∷ []) in
    terms_next c.args.text.now done _ c.loop-rest.rest.now c.in_ok-term.after.now (term_of c.in_ok-term.term) (is_some_list c.loop-rest.rest.now c.loop-rest-test.ensures) c.in_ok-term.ensures.front grown c.loop-rest.invariant

pub returns-clause-spelled : goal.returns-clause-spelled
returns-clause-spelled c = terms_end c.args.text.now (map term_of c.loop-rest.terms.items) c.loop-rest.rest.now (is_none c.loop-rest.rest.now c.loop-rest-test.ensures) c.loop-rest.invariant

pub returns-clause-only : goal.returns-clause-only
returns-clause-only c = terms_only c.args.text.now (map term_of c.loop-rest.terms.items) c.loop-rest.rest.now (is_none c.loop-rest.rest.now c.loop-rest-test.ensures) c.loop-rest.invariant
