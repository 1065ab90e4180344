-- One more format.
use Rattle.std.proofs.Common.{◌≡◌, string_bytes}
use Rattle.std.specs.BTreeMap.{get_by_text}
use Rattle.std.proofs.lemmas.Map.Text.{btree_map_updates_text}
use Rattle.droid_signature.proofs.PlaceMaps.{placed_push}
use Rattle.droid_signature.proofs.places.Places.add.Goals as goal

pub returns : goal.returns
returns c = λ formats it are same fresh at.
    let key : string_bytes c.in_ok-key.key ≡ c.args.puid.now = c.in_ok-key.ensures.ok in
    record {
      each = λ q. placed_push q c.args.puid.now c.args.place formats it (get_by_text c.args.self.now.places q) (get_by_text c.insert.new.self q)
          (rw key at (btree_map_updates_text (string_bytes c.in_ok-key.key) c.args.self.now.places c.insert.new.self _ c.in_ok-insert.ensures.updates q)) (are.each q) same fresh at;
    }
