use Rattle.std.proofs.Common.{rules, ◌≡◌, length, sym, ◌∙◌}
use Rattle.std.proofs.lemmas.Result.{IfOk-weaker}
use Rattle.droid_cmd_serve.proofs.Headers.{is_before, is_present, same_before, same_present}
use Rattle.droid_cmd_serve.proofs.header.header_in.Goals as goal

pub returns-then-before-clause-is_of : goal.returns-then-before-clause-is_of
returns-then-before-clause-is_of g c = λ s here.
    let full : length c.args.random.now ≡ 16 = search rules in
    IfOk-weaker c.header_before.result _ _ (λ header is. is_before c.args.registry.now c.args.random.now s full header.items is) (c.header_before.ensures.text s here)

pub returns-then-before-clause-same : goal.returns-then-before-clause-same
returns-then-before-clause-same g c = λ s header here is_of has.
    let full : length c.args.random.now ≡ 16 = search rules in
    let line = sym (c.in-Ok.ensures.line s here) ∙ c.if-before.true in
    IfOk-weaker c.header_before.result _ _ (λ made is. same_before c.args.registry.now c.args.random.now s full made.items header is line is_of has) (c.header_before.ensures.text s here)

pub returns-clause-is_of : goal.returns-clause-is_of
returns-clause-is_of g c = λ s here.
    let full : length c.args.random.now ≡ 16 = search rules in
    IfOk-weaker c.header_present.result _ _ (λ header is. is_present c.args.registry.now c.args.random.now s full header.items is) (c.header_present.ensures.text s here)

pub returns-clause-same : goal.returns-clause-same
returns-clause-same g c = λ s header here is_of has.
    let full : length c.args.random.now ≡ 16 = search rules in
    let line = sym (c.in-Ok.ensures.line s here) ∙ c.if-before.false in
    IfOk-weaker c.header_present.result _ _ (λ made is. same_present c.args.registry.now c.args.random.now s full made.items header is line is_of has) (c.header_present.ensures.text s here)
