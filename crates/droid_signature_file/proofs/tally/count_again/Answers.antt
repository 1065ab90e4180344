-- The name at the place has one more.
use Rattle.std.proofs.Common.{ℕ, get_or, set, sym, ap, ◌∙◌}
use Rattle.droid_signature_file.proofs.Loops.{again_set}
use Rattle.droid_signature_file.proofs.tally.count_again.Goals as goal

pub returns : goal.returns
returns c =
    let names = c.args.names.now in
    let d = c.index-names-place.result in
    ap (λ (n : ℕ). set names c.args.place (record (get_or names c.args.place d) { count = n })) c.saturating_add-known.ensures
    ∙ sym (again_set c.args.place names d c.requires)
