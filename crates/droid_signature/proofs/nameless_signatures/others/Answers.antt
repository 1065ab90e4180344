-- One more signature.
use Rattle.std.proofs.Common.{◌∙◌, ◌++◌, ◌∷◌, [], cond, ap, arith}
use Rattle.droid_signature.specs.Unnamed.{is_named}
use Rattle.droid_signature.proofs.Naming.{others_more}
use Rattle.droid_signature.proofs.nameless_signatures.others.Goals as goal

pub loop-signature-preserved : goal.loop-signature-preserved
loop-signature-preserved c = λ ids are.
    others_more ids c.args.signatures.now c.loop-signature.signature-index c.signature-item.result c.loop-signature.others.items c.add_other.new.others.items (omega arith) c.signature-item.is (c.loop-signature.invariant ids are)
    (c.in_ok-add_other.ensures ids are ∙ ap (λ n. c.loop-signature.others.items ++ cond (is_named ids n) [] (n ∷ [])) c.id.ensures)
