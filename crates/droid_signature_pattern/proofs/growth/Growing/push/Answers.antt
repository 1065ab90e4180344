-- One text in place, or several.
use Rattle.std.proofs.Common.{◌∷◌, [], inr, inl, sym, ap, ◌∙◌}
use Rattle.droid_signature_pattern.specs.Outcomes.{HasLong}
use Rattle.droid_signature_pattern.specs.Texts.{joined}
use Rattle.droid_signature_pattern.proofs.Exits.{same_stop}
use Rattle.droid_signature_pattern.proofs.Joined.{joined_one, one_list}
use Rattle.droid_signature_pattern.proofs.growth.Growing.push.Goals as goal

pub returns-then-len-eq1-clause-ok : goal.returns-then-len-eq1-clause-ok
returns-then-len-eq1-clause-ok c =
    let one = one_list c.args.level.now c.get.result.now (sym c.len.ensures ∙ c.if-len-eq1.true) c.get.ensures in
    rw one c.push_one.ensures.ok

pub returns-then-len-eq1-clause-err : goal.returns-then-len-eq1-clause-err
returns-then-len-eq1-clause-err c =
    let one = one_list c.args.level.now c.get.result.now (sym c.len.ensures ∙ c.if-len-eq1.true) c.get.ensures in
    rw one (same_stop _ (HasLong (joined c.args.self.now (c.get.result.now ∷ []))) c.push_one.result (λ reason h. inr (inr (inl h))) c.push_one.ensures.err)

pub returns-clause-ok : goal.returns-clause-ok
returns-clause-ok c =
    let own = c.in_ok-self-inside.field-0 in
    let none = joined_one own in
    let clear = ap (λ l. joined own (l ∷ [])) c.clear.ensures.items in
    let whole = c.in_ok-self-inside.ensures.ok in
    let texts = ap (λ l. joined l c.args.level.now) c.in_ok-texts.ensures.ok in
    cc
