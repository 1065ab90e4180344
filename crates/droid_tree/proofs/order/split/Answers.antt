use Rattle.std.proofs.Common.{◌≡◌, List, length, map-id, take, sym, subst, ◌∙◌}
use Rattle.std.proofs.lemmas.Iterator.Adapters.{YieldsList-from_vec}
use Rattle.std.proofs.lemmas.Iterator.Consumers.{YieldsList-so_far, YieldsList-turn}
use Rattle.droid_tree.specs.Listings.{IsBeforeNone}
use Rattle.droid_tree.specs.declared.folder_entry.FolderEntry.{FolderEntry}
use Rattle.droid_tree.proofs.Splitting.{before_none}
use Rattle.droid_tree.proofs.order.split.Goals as goal

pub loop-entry-preserved : goal.loop-entry-preserved
loop-entry-preserved c =
    let g = c.into_iter-entry-iterator.ensures.into_iter_gives in
    let steps = YieldsList-from_vec {s = c.into_iter-entry-iterator.result} c.args.sorted.items g.0 (g.1 ∙ c.args.sorted.ok.0) in
    let turn = YieldsList-turn steps c.loop-entry.yielded _ c.loop-entry.yielded_by c.next.result c.next.new.self c.in-Some.entry c.in-Some.is c.next.ensures.steps in
    let front : c.loop-entry.yielded ≡ take (length c.loop-entry.yielded) c.args.sorted.items = sym (map-id c.loop-entry.yielded) ∙ YieldsList-so_far steps c.loop-entry.yielded _ c.loop-entry.yielded_by in
    c.in_ok-put.ensures c.loop-entry.yielded c.loop-entry.invariant
    (subst (λ (l : List FolderEntry). IsBeforeNone l c.in-Some.entry) (sym front) (before_none c.args.sorted.items (length c.loop-entry.yielded) c.in-Some.entry c.requires turn.0 turn.1))
