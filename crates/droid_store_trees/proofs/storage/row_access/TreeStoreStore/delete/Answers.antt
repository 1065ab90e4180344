use Rattle.std.proofs.Common.{true, refl, arith, inl, ◌∙◌, to_z-of_z}
use Rattle.std.proofs.lemmas.Result.{on_ok_weaker}
use Rattle.sqlite_trees.proofs.Doubt.{no_doubt}
use Rattle.droid_store_trees.proofs.Seen.{failing, frame, keeps}
use Rattle.droid_store_trees.proofs.storage.row_access.TreeStoreStore.delete.Goals as goal

pub write-requires : goal.write-requires
write-requires c = c.requires (no_doubt true refl)

pub returns-clause-ok : goal.returns-clause-ok
returns-clause-ok c = let fits = c.ranges.id in on_ok_weaker c.write.result (λ h _. simp to_z-of_z at h) c.write.ensures.ok

pub returns-clause-frame : goal.returns-clause-frame
returns-clause-frame c = on_ok_weaker c.write.result (λ h _. frame c.args.self.now c.write.new.self _ _ h) c.write.ensures.ok

pub returns-clause-schema : goal.returns-clause-schema
returns-clause-schema c = (keeps c.args.self.now c.write.new.self _ _ c.write.result c.write.ensures.ok c.write.ensures.err).0

pub returns-clause-err : goal.returns-clause-err
returns-clause-err c = failing c.args.self.now c.write.new.self 0 (λ l. l) c.write.result c.write.ensures.err

pub returns-clause-quiet : goal.returns-clause-quiet
returns-clause-quiet c =
    let same = (keeps c.args.self.now c.write.new.self _ _ c.write.result c.write.ensures.ok c.write.ensures.err).1 in
    record { shield = λ h. h; clean = omega arith; counts = omega arith; closes = λ _ h. inl h; outcomes = λ db h. h ∙ same }
