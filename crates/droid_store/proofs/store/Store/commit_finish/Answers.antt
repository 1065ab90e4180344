use Rattle.std.proofs.Common.{◌-◌, ◌∙◌, ap, sym, subst}
use Rattle.std.specs.List.{AllByRecursion}
use Rattle.droid_store.specs.declared.rows.Counts.{Counts}
use Rattle.droid_store.specs.Changes.{IsWord}
use Rattle.droid_store.specs.Encoded.{joined, words_of}
use Rattle.droid_store.specs.Rows.{counts_of}
use Rattle.droid_store.proofs.CountsAfter.{counts_with_finished, open_is_counted}
use Rattle.droid_store.proofs.Decoded.{words_in}
use Rattle.droid_store.proofs.ReadableAfter.{is_length}
use Rattle.droid_store.proofs.store.Store.commit_finish.Goals as goal

pub one_less_unfinished-counts-requires : goal.one_less_unfinished-counts-requires
one_less_unfinished-counts-requires c =
    let some = open_is_counted c.args.profile c.args.file c.args.self.now (rw c.self.view_is at c.self.invariant.1) c.requires.file in
    rw (c.self.invariant.2 ∙ ap counts_of c.self.view_is) some

pub commit-requires-clause-counts : goal.commit-requires-clause-counts
commit-requires-clause-counts c =
    c.one_less_unfinished-counts.ensures ∙ ap (λ (k : Counts). record k { unfinished = k.unfinished - 1 }) (c.self.invariant.2 ∙ ap counts_of c.self.view_is)
    ∙ sym (counts_with_finished c.args.profile c.args.file c.args.self.now (rw c.self.view_is at c.self.invariant.1) c.requires.file c.args.method c.args.mismatch c.args.hash (words_of c.as_str.result.now))

pub commit-requires-clause-writable : goal.commit-requires-clause-writable
commit-requires-clause-writable c =
    let text = c.as_str.ensures.value ∙ c.in_ok-formats.ensures in
    let words = words_in c.as_str.result.now c.args.puids.now text c.requires.puids in
    (subst (AllByRecursion IsWord) (sym words) c.requires.puids, text ∙ ap joined (sym words), c.as_str.utf8, is_length c.args.hash c.has_its_length.ensures)

pub returns-clause-ok : goal.returns-clause-ok
returns-clause-ok c =
    let words = words_in c.as_str.result.now c.args.puids.now (c.as_str.ensures.value ∙ c.in_ok-formats.ensures) c.requires.puids in
    rw words at c.commit.ensures.ok

pub returns-clause-memory : goal.returns-clause-memory
returns-clause-memory c small size =
    let words = words_in c.as_str.result.now c.args.puids.now (c.as_str.ensures.value ∙ c.in_ok-formats.ensures) c.requires.puids in
    c.commit.ensures.memory small (λ n there. rw words (size n there))
