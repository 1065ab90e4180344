use Rattle.std.proofs.Common.{rules, ◌≡◌, ◌∙◌, length, string_bytes, arith}
use Rattle.std.specs.BTreeMap.{get_by_text}
use Rattle.std.proofs.lemmas.Map.Text.{btree_map_updates_text}
use Rattle.csv.specs.Records.{fields_of}
use Rattle.droid_lists.specs.RowReading.{at}
use Rattle.droid_lists.proofs.FormatTaken.{same_text}
use Rattle.droid_lists.proofs.MapSteps.{set_at}
use Rattle.droid_lists.proofs.entries.Entries.add.Goals as goal

pub returns-in_ok-push-in-Some : goal.returns-in_ok-push-in-Some
returns-in_ok-push-in-Some c = λ fits text.
    let row = fields_of c.args.listed.row in
    let same = c.in_ok-key-in-Some.ensures.ok ∙ same_text (at row 3) c.in-Some.path.now (rw (c.in-Some.is, c.field.ensures) at c.text_of.ensures) in
    let set = btree_map_updates_text (string_bytes c.in_ok-key-in-Some.key) c.args.self.now.places c.insert.new.self _ c.in_ok-insert-in-Some.ensures.updates in
    let place : c.len.result ≡ length c.args.self.now.listed.items = search rules in
    record {
      rows = omega (arith, c.saturating_add-self.ensures, fits);
      last = c.id_in-self.ensures;
      pushed = c.in_ok-push-in-Some.ensures.items;
      places = rw place at (set_at (get_by_text c.args.self.now.places) (get_by_text c.insert.new.self) (string_bytes c.in_ok-key-in-Some.key) (at row 3) c.len.result same set);
    }
