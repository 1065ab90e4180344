-- One more element, none, and the last one.
use Rattle.std.proofs.Common.{◌∷◌, [], map, ap, ◌∙◌}
use Rattle.std.proofs.lemmas.List.{map-append}
use Rattle.droid_pattern.specs.Tokens.{element_of}
use Rattle.droid_pattern.proofs.FaultLemmas.{passed_on}
use Rattle.droid_pattern.proofs.TextLemmas.{is_none, is_some_list}
use Rattle.droid_pattern.proofs.FrontLemmas.{tokens_next, tokens_bad, tokens_end, tokens_only}
use Rattle.droid_pattern.proofs.parser.tokens_of.Goals as goal

pub returns-in_err-token-clause-bad : goal.returns-in_err-token-clause-bad
returns-in_err-token-clause-bad c = λ was.
    tokens_bad c.args.text.now (map element_of c.loop-rest.tokens.items) c.loop-rest.rest.now (is_some_list c.loop-rest.rest.now c.loop-rest-test.ensures)
    (c.in_err-token.ensures.bad (passed_on c.from_residual.result _ c.from_residual.ensures.1 was)) c.loop-rest.invariant

pub loop-rest-preserved : goal.loop-rest-preserved
loop-rest-preserved c =
    let done = map element_of c.loop-rest.tokens.items in
    let grown = ap (map element_of) c.in_ok-push.ensures.items ∙ map-append element_of c.loop-rest.tokens.items (c.in_ok-token.token ∷ []) in
    tokens_next c.args.text.now done _ c.loop-rest.rest.now c.in_ok-token.after.now (element_of c.in_ok-token.token) (is_some_list c.loop-rest.rest.now c.loop-rest-test.ensures) c.in_ok-token.ensures.front grown c.loop-rest.invariant

pub returns-clause-spelled : goal.returns-clause-spelled
returns-clause-spelled c = tokens_end c.args.text.now (map element_of c.loop-rest.tokens.items) c.loop-rest.rest.now (is_none c.loop-rest.rest.now c.loop-rest-test.ensures) c.loop-rest.invariant

pub returns-clause-only : goal.returns-clause-only
returns-clause-only c = tokens_only c.args.text.now (map element_of c.loop-rest.tokens.items) c.loop-rest.rest.now (is_none c.loop-rest.rest.now c.loop-rest-test.ensures) c.loop-rest.invariant
