-- One more attribute.
use Rattle.std.proofs.Common.{map, take, sym, ap, ◌∙◌, arith}
use Rattle.std.specs.List.{fold}
use Rattle.droid_xml.specs.declared.attributes.Attribute.{Attribute}
use Rattle.droid_signature_file.specs.Unknown.{Tally, name_of, noted_attribute}
use Rattle.droid_signature_file.proofs.Loops.{fold_more_of}
use Rattle.droid_signature_file.proofs.tally.Tally.note_attributes.Goals as goal

pub loop-attribute-preserved : goal.loop-attribute-preserved
loop-attribute-preserved c =
    c.in_ok-note_attribute.ensures
    ∙ (ap (λ (so_far : Tally). noted_attribute c.args.kind so_far (name_of c.attribute-item.result)) c.loop-attribute.invariant
    ∙ (ap (λ (a : Attribute). noted_attribute c.args.kind (fold (noted_attribute c.args.kind) c.args.self.now (map name_of (take c.loop-attribute.attribute-index c.args.attributes.now))) (name_of a)) c.attribute-item.is
    ∙ sym (fold_more_of (noted_attribute c.args.kind) name_of c.args.self.now c.args.attributes.now c.loop-attribute.attribute-index c.attribute-item.result (omega arith))))
