use Rattle.std.proofs.Common.{◌-◌, ◌∙◌, ap, sym}
use Rattle.droid_store.specs.declared.rows.Counts.{Counts}
use Rattle.droid_store.specs.Rows.{counts_of}
use Rattle.droid_store.proofs.CountsAfter.{counts_without_node, open_is_counted}
use Rattle.droid_store.proofs.store.Store.commit_abandon.Goals as goal

pub one_less_unfinished-counts-requires : goal.one_less_unfinished-counts-requires
one_less_unfinished-counts-requires c =
    let some = open_is_counted c.args.profile c.args.file c.args.self.now (rw c.self.view_is at c.self.invariant.1) c.requires.file in
    rw (c.self.invariant.2 ∙ ap counts_of c.self.view_is) some

pub commit-requires-clause-counts : goal.commit-requires-clause-counts
commit-requires-clause-counts c =
    c.one_less_unfinished-counts.ensures ∙ ap (λ (k : Counts). record k { unfinished = k.unfinished - 1 }) (c.self.invariant.2 ∙ ap counts_of c.self.view_is)
    ∙ sym (counts_without_node c.args.profile c.args.file c.args.self.now (rw c.self.view_is at c.self.invariant.1) c.requires.file)
