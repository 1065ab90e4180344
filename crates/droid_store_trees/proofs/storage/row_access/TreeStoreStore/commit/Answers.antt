use Rattle.std.proofs.Common.{◌≡◌, ◌∙◌, sym, ap}
use Rattle.droid_store_trees.specs.declared.storage.TreeStore.{TreeStore}
use Rattle.droid_store_trees.specs.Shown.{changed_or, current, shown, view}
use Rattle.droid_store_trees.proofs.Seen.{commits, only_commits}
use Rattle.droid_store_trees.proofs.storage.row_access.TreeStoreStore.commit.Goals as goal

pub returns-in_default-clause-ok : goal.returns-in_default-clause-ok
returns-in_default-clause-ok c _ =
    let s = c.args.self.now in
    let none : current s ≡ s.base = rw (← c.in_default.ensures.value) in
    let now : changed_or c.take.new.self s.base ≡ s.base = ap (λ o. changed_or o s.base) c.take.ensures.after in
    let new : TreeStore = record { alloc = s.alloc; base = s.base; changed = c.take.new.self; cursors = s.cursors; marks = c.clear.new.self } in
    commits s new (ap shown (sym none)) (ap shown (now ∙ sym none)) c.clear.ensures.items

pub returns-in_default-clause-frame : goal.returns-in_default-clause-frame
returns-in_default-clause-frame c clean =
    let s = c.args.self.now in
    let new : TreeStore = record { alloc = s.alloc; base = s.base; changed = c.take.new.self; cursors = s.cursors; marks = c.clear.new.self } in
    only_commits (view s) (view new) (returns-in_default-clause-ok c clean)

pub returns-in-Some-clause-ok : goal.returns-in-Some-clause-ok
returns-in-Some-clause-ok c _ =
    let s = c.args.self.now in
    let some : current s ≡ c.in-Some.forest = rw (← c.in-Some.ensures.value) in
    let now : changed_or c.take.new.self c.in-Some.forest ≡ c.in-Some.forest = ap (λ o. changed_or o c.in-Some.forest) c.take.ensures.after in
    let new : TreeStore = record { alloc = s.alloc; base = c.in-Some.forest; changed = c.take.new.self; cursors = s.cursors; marks = c.clear.new.self } in
    commits s new (ap shown (sym some)) (ap shown (now ∙ sym some)) c.clear.ensures.items

pub returns-in-Some-clause-frame : goal.returns-in-Some-clause-frame
returns-in-Some-clause-frame c clean =
    let s = c.args.self.now in
    let new : TreeStore = record { alloc = s.alloc; base = c.in-Some.forest; changed = c.take.new.self; cursors = s.cursors; marks = c.clear.new.self } in
    only_commits (view s) (view new) (returns-in-Some-clause-ok c clean)
