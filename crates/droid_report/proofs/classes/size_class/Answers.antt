use Rattle.std.proofs.Common.{◌≡◌, ◌∙◌, ℕ, Bool, cond, length, ltb, nat_lt, Option, Some, None, unwrap_or, ap, rules, tests}
use Rattle.std.specs.List.{position_or_len}
use Rattle.std.proofs.lemmas.Iterator.{YieldsList-from_slice}
use Rattle.std.proofs.lemmas.Iterator.Search.{position_from_yields_List}
use Rattle.droid_report.specs.Classes.{powers, size_class}
use Rattle.droid_report.proofs.classes.size_class.Goals as goal

pub returns : goal.returns
unfolding size_class
returns c =
    let test : ℕ → Bool = λ power. nat_lt c.args.size power in
    let found : c.position.result ≡ cond (ltb (position_or_len test powers) (length powers)) (Some (position_or_len test powers)) None
    = position_from_yields_List test _ _ c.position.result c.position.ensures.ran (YieldsList-from_slice powers c.iter.ensures.rest) (λ x b q k. search (rules, tests)) in
    c.unwrap_or.ensures ∙ ap (λ (o : Option ℕ). unwrap_or o 32) found
