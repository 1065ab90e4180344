use Rattle.std.proofs.Common.{◌∙◌, List, take, sym, ap}
use Rattle.std.proofs.lemmas.List.{take-map}
use Rattle.droid_report.specs.Lines.{line_of, lines_in}
use Rattle.droid_report.specs.Lists.{place_for}
use Rattle.droid_report.specs.declared.row.Row.{Row}
use Rattle.droid_report.proofs.Listing.{ranked_in}
use Rattle.droid_report.proofs.lists.keep_ranked.Goals as goal

pub returns : goal.returns
returns c =
    let place = c.place_for-place.ensures.place ∙ ap (λ (rows : List Row). place_for c.args.rank (line_of c.args.row.now) (lines_in rows)) c.as_slice.ensures.value in
    ap lines_in c.truncate.ensures.items
    ∙ (sym (take-map line_of c.args.limit c.insert_row.new.list.items)
    ∙ (ap (take c.args.limit) c.in_ok-insert_row.ensures
    ∙ ranked_in c.args.rank c.args.limit (lines_in c.args.list.now.items) (line_of c.args.row.now) c.place_for-place.result place (sym c.is_ranked.ensures ∙ c.if-not-is_ranked.false) c.if-place-limit.false))
