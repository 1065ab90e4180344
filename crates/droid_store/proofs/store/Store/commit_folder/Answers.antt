use Rattle.std.proofs.Common.{◌∙◌, ap, sym, refl, [], arith}
use Rattle.std.proofs.lemmas.Int.{to_z-of_z}
use Rattle.std.specs.Int.{w64}
use Rattle.droid_store.specs.Changes.{new_folder}
use Rattle.droid_store.specs.Rows.{counts_of}
use Rattle.droid_store.proofs.CountsAfter.{counts_with_folder}
use Rattle.droid_store.proofs.store.Store.commit_folder.Goals as goal

pub commit-requires-clause-writable : goal.commit-requires-clause-writable
commit-requires-clause-writable c = (omega arith, record { id = c.ranges.id.fits; parent = c.ranges.parent.fits; piece_size = omega arith; name = c.utf8.name; path = c.utf8.path; formats = ([], (refl, refl)); hash = refl })

pub commit-requires-clause-counts : goal.commit-requires-clause-counts
commit-requires-clause-counts c =
    rw (to_z-of_z w64 c.args.modified c.ranges.modified)
    (c.self.invariant.2 ∙ ap counts_of c.self.view_is ∙ sym (counts_with_folder (new_folder c.args.profile c.args.id c.args.parent c.args.modified c.args.name.now c.args.path.now) c.args.self.now refl))
