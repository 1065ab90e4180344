use Rattle.std.proofs.Common.{◌+◌, ◌∙◌, ap, sym}
use Rattle.droid_store.specs.declared.rows.Counts.{Counts}
use Rattle.droid_store.specs.Rows.{counts_of}
use Rattle.droid_store.proofs.CountsAfter.{counts_with_profile}
use Rattle.droid_store.proofs.store.Store.commit_profile.Goals as goal

pub commit-requires-clause-counts : goal.commit-requires-clause-counts
commit-requires-clause-counts c =
    c.in_ok-counts.ensures.more ∙ ap (λ (k : Counts). record k { profiles = k.profiles + 1 }) (c.self.invariant.2 ∙ ap counts_of c.self.view_is)
    ∙ sym (counts_with_profile c.args.scan_limit c.args.match_all c.args.hash c.args.self.now)
