-- A signature is left out, or becomes rows.
use Rattle.std.proofs.Common.{◌≡◌, ◌∙◌, ◌*◌, ◌++◌, length, inl, inr, refl, sym, ap, arith}
use Rattle.droid_signature_pattern.specs.Choices.{ways}
use Rattle.droid_signature.specs.RegistryTables.{signature_lines}
use Rattle.droid_signature.specs.Formats.{puid_in}
use Rattle.droid_signature.specs.Views.{kept_of}
use Rattle.droid_signature.specs.declared.left_out.Why.TheVariants as why
use Rattle.droid_signature.specs.Combinations.{lines_below}
use Rattle.droid_signature.specs.SignatureRows.{rows_below, ways_of}
use Rattle.droid_signature.specs.Signatures.{Named}
use Rattle.droid_signature.specs.declared.signature_table.SignatureTable.{SignatureTable}
use Rattle.droid_signature.proofs.PickRows.{lines_are, written_count, written_ways}
use Rattle.droid_signature.proofs.Signing.{signs_left, signs_taken, written}
use Rattle.droid_signature.proofs.signature_table.SignatureTable.add.Goals as goal

pub returns-then-is_full : goal.returns-then-is_full
returns-then-is_full c = λ signatures xs place at signature only taken signs.
    let it : Named = record { place = place; of = kept_of c.args.of.now; id = c.args.id } in
    let all = c.args.all.now in
    let few = taken.few in
    let count : c.ways-count.result ≡ ways all = omega arith in
    let product : c.ways-count.result * length all ≡ ways all * length all = ap (λ n. n * length all) count in
    let over = c.is_full.ensures.over c.if-is_full.true in
    signs_left signatures xs it why.Full c.args.self.now c.leave_out.new.self signs c.in_ok-leave_out.ensures
    (λ before counted more. record {
      at = at;
      signature = signature;
      only = only;
      all = all;
      becomes = taken;
      full = elim over [ inl large ↦ inl (omega arith) | inr large ↦ inr (omega arith) ];
    })

pub returns : goal.returns
returns c = λ signatures xs place at signature only taken signs.
    let it : Named = record { place = place; of = kept_of c.args.of.now; id = c.args.id } in
    let all = c.args.all.now in
    let rows = written signature.sequences all taken.each in
    let few = taken.few in
    let some = taken.some in
    let same = written_ways all rows.lists rows.are in
    let long = written_count all rows.lists rows.are in
    let whole : c.ways-count.result ≡ ways all = omega arith in
    let count : c.ways-count.result ≡ ways_of rows.lists = omega arith in
    let product : c.ways-count.result * length all ≡ ways_of rows.lists * length rows.lists = ap (λ n. n * length all) count ∙ ap (λ n. ways_of rows.lists * n) (sym long) in
    let within = c.is_full.ensures.within c.if-is_full.false in
    let puid = puid_in c.args.of.now.format.now in
    let old = c.args.self.now.text.items in
    let new : SignatureTable = record { text = c.push_combinations.new.text; taken = c.saturating_add-self.result; count = c.saturating_add-signatures.result; sequences = c.saturating_add-sequences.result; left_out = c.args.self.now.left_out } in
    signs_taken signatures xs it at signature all rows.lists c.args.self.now new signs only taken rows.are rows.stand (omega arith)
    (c.in_ok-push_combinations.ensures
    ∙ ap (λ p. old ++ lines_below p all c.ways-count.result) c.puid_of.ensures
    ∙ ap (λ n. old ++ lines_below puid all n) whole
    ∙ ap (λ t. old ++ t) (lines_are place puid all rows.lists (ways all) rows.are (omega arith))
    ∙ ap (λ n. old ++ signature_lines (rows_below place puid rows.lists n)) (sym same))
    (omega arith) (omega arith) (omega arith) refl (omega arith) (omega arith)
