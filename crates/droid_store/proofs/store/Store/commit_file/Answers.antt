use Rattle.std.proofs.Common.{◌+◌, ◌∙◌, ap, sym, refl, []}
use Rattle.std.proofs.lemmas.Int.{to_z-of_z}
use Rattle.std.specs.Int.{w64}
use Rattle.droid_store.specs.declared.rows.Counts.{Counts}
use Rattle.droid_store.specs.Changes.{new_file}
use Rattle.droid_store.specs.Rows.{counts_of}
use Rattle.droid_store.proofs.CountsAfter.{counts_with_file}
use Rattle.droid_store.proofs.store.Store.commit_file.Goals as goal

pub commit-requires-clause-writable : goal.commit-requires-clause-writable
commit-requires-clause-writable c = (c.requires.size, record { id = c.ranges.id.fits; parent = c.ranges.parent.fits; piece_size = c.ranges.piece_size.fits; name = c.utf8.name; path = c.utf8.path; formats = ([], (refl, refl)); hash = refl })

pub commit-requires-clause-counts : goal.commit-requires-clause-counts
commit-requires-clause-counts c =
    let node = new_file c.args.profile c.args.id c.args.parent c.args.modified c.args.size c.args.piece_size c.args.name.now c.args.path.now in
    rw (to_z-of_z w64 c.args.modified c.ranges.modified)
    (c.in_ok-counts.ensures.more ∙ ap (λ (k : Counts). record k { unfinished = k.unfinished + 1 }) (c.self.invariant.2 ∙ ap counts_of c.self.view_is) ∙ sym (counts_with_file node c.args.self.now refl))
