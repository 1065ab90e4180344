use Rattle.std.proofs.Common.{string_bytes}
use Rattle.std.proofs.lemmas.Map.Text.{btree_set_updates_text}
use Rattle.droid_lists.proofs.MapSteps.{own_added}
use Rattle.droid_lists.proofs.spelling.own_puids.OwnPuids.add.Goals as goal

pub returns : goal.returns
returns c = record {
  has = own_added c.args.self.now (record { puids = c.insert.new.self; digest = c.add.new.self }) (string_bytes c.in_ok-key.key) c.args.puid.now c.in_ok-key.ensures.ok
      (btree_set_updates_text (string_bytes c.in_ok-key.key) c.args.self.now.puids c.insert.new.self _ c.in_ok-insert.ensures.updates);
  digest = rw c.as_bytes.ensures.value at c.add.ensures;
}
