use Rattle.std.proofs.Common.{List, ◌∷◌, [], ◌++◌, sym, subst}
use Rattle.droid_tree.specs.Listings.{Splits}
use Rattle.droid_tree.specs.declared.folder_entry.FolderEntry.{FolderEntry}
use Rattle.droid_tree.proofs.Splitting.{ComesNext, ComesAgain, put_next, put_repeated}
use Rattle.droid_tree.proofs.order.put.Goals as goal

pub returns-then-comes_next : goal.returns-then-comes_next
returns-then-comes_next c = λ all front none.
    let next : ComesNext c.as_slice.result.now c.args.entry = c.comes_next.ensures.next c.if-comes_next.true in
    subst (λ (l : List FolderEntry). Splits (all ++ c.args.entry ∷ []) l c.args.listing.now.repeated.items) (sym c.in_ok-push.ensures.items)
    (put_next all c.args.listing.now.entries.items c.args.listing.now.repeated.items c.args.entry front (subst (λ (l : List FolderEntry). ComesNext l c.args.entry) c.as_slice.ensures.value next))

pub returns : goal.returns
returns c = λ all front none.
    let again : ComesAgain c.as_slice.result.now c.args.entry = c.comes_next.ensures.repeated c.if-comes_next.false in
    subst (λ (l : List FolderEntry). Splits (all ++ c.args.entry ∷ []) c.args.listing.now.entries.items l) (sym c.in_ok-push-2.ensures.items)
    (put_repeated all c.args.listing.now.entries.items c.args.listing.now.repeated.items c.args.entry front none (subst (λ (l : List FolderEntry). ComesAgain l c.args.entry) c.as_slice.ensures.value again))
