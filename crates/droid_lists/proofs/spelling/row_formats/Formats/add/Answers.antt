use Rattle.std.proofs.Common.{◌∙◌, string_bytes, sym}
use Rattle.std.proofs.lemmas.Map.Text.{btree_map_updates_text}
use Rattle.droid_lists.proofs.MapSteps.{known_added}
use Rattle.droid_lists.proofs.spelling.row_formats.Formats.add.Goals as goal

pub returns : goal.returns
returns c =
    rw c.in_ok-texts.ensures at (
    known_added c.args.self.now (record { texts = c.insert.new.self }) (string_bytes c.in_ok-key.key) c.args.puid.now c.in_ok-texts.texts c.in_ok-insert.field-0 c.in_ok-key.ensures.ok
    (sym c.contains_key.ensures ∙ c.if-contains_key.false)
    (btree_map_updates_text (string_bytes c.in_ok-key.key) c.args.self.now.texts c.insert.new.self _ c.in_ok-insert.ensures.updates) c.in_ok-insert.ensures.old c.in_ok-insert.ensures.len
    )
