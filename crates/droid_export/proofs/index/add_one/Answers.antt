use Rattle.std.proofs.Common.{string_bytes}
use Rattle.std.proofs.lemmas.Map.Text.{btree_map_updates_text}
use Rattle.droid_export.proofs.IndexContents.{one_added}
use Rattle.droid_export.proofs.index.add_one.Goals as goal

pub returns : goal.returns
returns c = λ text spot.
    let set = btree_map_updates_text (string_bytes c.args.key) c.taken-places.new.named c.insert.new.self _ c.in_ok-insert.ensures.updates in
    one_added c.args.named.now c.taken-places.new.named c.insert.new.self (string_bytes c.args.key) text c.note.new.places c.args.place spot set
    (rw c.as_str.ensures.value at c.taken-places.ensures.others) (rw (c.taken-places.ensures.value, c.as_str.ensures.value) at (c.in_ok-note.ensures spot))
