use Rattle.std.proofs.Common.{◌≡◌, ◌∙◌, ℕ, Bool, cond, length, ltb, nat_lt, Option, Some, None, unwrap_or, ap, rules, tests}
use Rattle.std.specs.List.{position_or_len}
use Rattle.std.proofs.lemmas.Iterator.{YieldsList-from_slice}
use Rattle.std.proofs.lemmas.Iterator.Search.{position_from_yields_List}
use Rattle.droid_report.specs.Lines.{line_of}
use Rattle.droid_report.specs.Lists.{rank_of}
use Rattle.droid_report.specs.declared.row.Row.{Row}
use Rattle.droid_report.proofs.Listing.{place_or_end}
use Rattle.droid_report.proofs.lists.first_above.Goals as goal

pub returns-clause-place : goal.returns-clause-place
returns-clause-place c =
    let test : Row → Bool = λ other. nat_lt c.args.key (rank_of c.args.rank (line_of other)) in
    let found : c.position.result ≡ cond (ltb (position_or_len test c.args.rows.now) (length c.args.rows.now)) (Some (position_or_len test c.args.rows.now)) None
    = position_from_yields_List test _ _ c.position.result c.position.ensures.ran (YieldsList-from_slice c.args.rows.now cc) (λ x b q k. search (rules, tests)) in
    c.unwrap_or.ensures ∙ (ap (λ (o : Option ℕ). unwrap_or o (length c.args.rows.now)) found ∙ place_or_end test c.args.rows.now)
