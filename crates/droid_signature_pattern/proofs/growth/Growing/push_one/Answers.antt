-- The text stands behind each, or it is too much.
use Rattle.std.proofs.Common.{ℕ, ◌<◌, List, [], ◌∷◌, length, refl, ap, ◌∙◌, subst}
use Rattle.std.specs.List.{Any}
use Rattle.droid_signature_pattern.specs.Texts.{joined}
use Rattle.droid_signature_pattern.proofs.Joined.{last_grows}
use Rattle.droid_signature_pattern.proofs.growth.Growing.push_one.Goals as goal

pub returns-then-is_long-clause-err : goal.returns-then-is_long-clause-err
returns-then-is_long-clause-err c =
    let P : List (List ℕ) → Type 0 = λ texts. Any (λ text. 4096 < length text) texts in
    let grown = last_grows c.self.inside.texts c.self.inside.last.items c.args.text.now in
    let whole = ap (λ l. joined c.self.inside.texts (l ∷ [])) c.in_ok-extend_from_slice.ensures.items ∙ grown ∙ ap (λ texts. joined texts (c.args.text.now ∷ [])) c.self.view_is in
    (refl, subst P whole (c.is_long.ensures c.if-is_long.true))

pub returns-clause-ok : goal.returns-clause-ok
returns-clause-ok c =
    let grown = last_grows c.self.inside.texts c.self.inside.last.items c.args.text.now in
    ap (λ l. joined c.self.inside.texts (l ∷ [])) c.in_ok-extend_from_slice.ensures.items ∙ grown ∙ ap (λ texts. joined texts (c.args.text.now ∷ [])) c.self.view_is
