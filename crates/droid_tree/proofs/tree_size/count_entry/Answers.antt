use Rattle.std.proofs.Common.{ℕ, List, ◌∷◌, ◌++◌, inl, inr, ap, sym, subst, ◌∙◌}
use Rattle.droid_tree.specs.Kinds.{IsNoNode}
use Rattle.droid_tree.proofs.Tallies.{counts_none, counts_file, counts_folder}
use Rattle.droid_tree.proofs.tree_size.count_entry.Goals as goal

pub returns-in_default-clause-counted : goal.returns-in_default-clause-counted
returns-in_default-clause-counted c = counts_none c.args.folder.now.path c.args.entry.now c.args.before c.in_ok-after.after c.args.pending.now.items (inl c.in_default.ensures) c.in_ok-after.ensures.counted

pub returns-in_ok-add_pending-in-Folder-clause-counted : goal.returns-in_ok-add_pending-in-Folder-clause-counted
returns-in_ok-add_pending-in-Folder-clause-counted c =
    counts_folder c.args.folder.now.path c.args.entry.now c.args.before c.in_ok-after-in-Folder.after c.args.pending.now.items c.in_ok-path-in-Folder.path c.add_pending.new.pending.items
    c.in-Some.ensures.1 c.in-Folder.is c.in_ok-after-in-Folder.ensures.counted
    (c.in_ok-path-in-Folder.ensures ∙ (ap (λ (l : List ℕ). l ++ 47 ∷ c.in-Some.name.now) c.as_str.ensures.value ∙ ap (λ (l : List ℕ). c.args.folder.now.path ++ 47 ∷ l) c.in-Some.ensures.0))
    c.in_ok-add_pending-in-Folder.ensures

pub returns-in_ok-after-in-File-clause-counted : goal.returns-in_ok-after-in-File-clause-counted
returns-in_ok-after-in-File-clause-counted c =
    counts_file c.args.folder.now.path c.args.entry.now c.args.before c.in_ok-after-in-File.after c.args.pending.now.items c.in-Some.ensures.1 c.in-File.is c.in_ok-after-in-File.ensures.counted

pub returns-in_ok-after-in-Link-clause-counted : goal.returns-in_ok-after-in-Link-clause-counted
returns-in_ok-after-in-Link-clause-counted c =
    counts_none c.args.folder.now.path c.args.entry.now c.args.before c.in_ok-after-in-Link.after c.args.pending.now.items (inr (subst IsNoNode (sym c.in-Link.is) tt)) c.in_ok-after-in-Link.ensures.counted

pub returns-in_ok-after-in-Other-clause-counted : goal.returns-in_ok-after-in-Other-clause-counted
returns-in_ok-after-in-Other-clause-counted c =
    counts_none c.args.folder.now.path c.args.entry.now c.args.before c.in_ok-after-in-Other.after c.args.pending.now.items (inr (subst IsNoNode (sym c.in-Other.is) tt)) c.in_ok-after-in-Other.ensures.counted

pub returns-in_ok-after-in-TooLong-clause-counted : goal.returns-in_ok-after-in-TooLong-clause-counted
returns-in_ok-after-in-TooLong-clause-counted c =
    counts_none c.args.folder.now.path c.args.entry.now c.args.before c.in_ok-after-in-TooLong.after c.args.pending.now.items (inr (subst IsNoNode (sym c.in-TooLong.is) tt)) c.in_ok-after-in-TooLong.ensures.counted
