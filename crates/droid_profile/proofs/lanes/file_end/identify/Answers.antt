use Rattle.std.proofs.Common.{List, ℕ, IfOk, subst, ◌∙◌}
use Rattle.droid_profile.proofs.FileFound.{IsFoundByEnds, found_at_ends}
use Rattle.droid_profile.proofs.lanes.file_end.identify.Goals as goal

pub returns : goal.returns
returns c =
    found_at_ends c.args.registry.now c.args.options c.args.row.now.entry c.args.lane.now.ends c.first-first.result.now c.last-last.result.now c.requires.size c.requires.limit
    c.first-first.ensures.all c.last-last.ensures.all c.first-first.ensures.len c.identify.result
    (subst (λ (n : List ℕ). IfOk c.identify.result (IsFoundByEnds c.args.registry.now n c.args.options.match_all c.args.row.now.entry.len c.first-first.result.now c.last-last.result.now))
    (c.as_str-name.ensures.value ∙ c.requires.named) c.identify.ensures.found)
