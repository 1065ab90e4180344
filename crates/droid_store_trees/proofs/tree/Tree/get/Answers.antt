use Rattle.std.proofs.Common.{rules, ◌≡◌, to_z-of_z, get_or, []}
use Rattle.sqlite_trees.proofs.MemoryLemmas as lemma
use Rattle.droid_store_trees.proofs.tree.Tree.get.Goals as goal

pub place-at-requires : goal.place-at-requires
place-at-requires c = let was = rw c.requires at (lemma.shaped _ _ c.args.self.now.ordered) in lemma.cut_below_rowid _ _ was.0

pub returns-then-not-has_rowid_at : goal.returns-then-not-has_rowid_at
returns-then-not-has_rowid_at c =
    let was = rw c.requires at (lemma.shaped _ _ c.args.self.now.ordered) in
    let fits = c.ranges.id in
    lemma.missing_at c.args.id _ _ was.0 (simp to_z-of_z at c.place-at.ensures) (simp to_z-of_z at c.if-not-has_rowid_at.ensures)

pub returns-in_ok-copy_into-in-Some-get : goal.returns-in_ok-copy_into-in-Some-get
returns-in_ok-copy_into-in-Some-get c =
    let was = rw c.requires at (lemma.shaped _ _ c.args.self.now.ordered) in
    let fits = c.ranges.id in
    let test = simp to_z-of_z at c.if-not-has_rowid_at.ensures in
    let found = lemma.found_at c.args.id _ _ was.0 (simp to_z-of_z at c.place-at.ensures) test.0 test.1 in
    let row : get_or c.args.self.now.rows c.place-at.result [] ≡ c.copy_into-in-Some-get.new.row = search rules in
    rw (← row) found
