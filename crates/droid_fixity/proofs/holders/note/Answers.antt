use Rattle.std.proofs.Common.{◌≡◌, ◌∙◌, sym}
use Rattle.std.proofs.lemmas.Map.Text.{btree_map_updates_str}
use Rattle.droid_fixity.specs.Holding.{held, holder_after}
use Rattle.droid_fixity.proofs.Moves.{noted}
use Rattle.droid_fixity.proofs.holders.note.Goals as goal

pub returns-in_ok-insert : goal.returns-in_ok-insert
returns-in_ok-insert c = λ hash.
    let set = btree_map_updates_str c.as_slice-hash.result.now c.args.holders.now c.insert.new.self _ c.in_ok-insert.ensures.updates hash in
    let holder : c.holder_after-holder.result ≡ holder_after (held c.args.holders.now c.as_slice-hash.result.now) c.args.place = rw c.get.ensures.value at c.holder_after-holder.ensures in
    noted (held c.args.holders.now) (held c.insert.new.self hash) c.args.item.now c.args.place hash c.as_slice-hash.result.now
    c.as_slice-hash.ensures (sym c.is_file.ensures ∙ c.if-is_file.true) (sym c.is_empty.ensures ∙ c.if-not-is_empty.true)
    (rw holder at set)
