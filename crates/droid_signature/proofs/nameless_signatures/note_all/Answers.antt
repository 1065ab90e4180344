-- The IDs of one more format.
use Rattle.std.proofs.Common.{◌∙◌, ◌++◌, ℕ, List, take, ap, subst, arith}
use Rattle.droid_signature.specs.Unnamed.{AreNamed, ids_named}
use Rattle.droid_signature.proofs.Naming.{named_more}
use Rattle.droid_signature.proofs.nameless_signatures.note_all.Goals as goal

pub loop-format-preserved : goal.loop-format-preserved
loop-format-preserved c = λ none.
    let formats = c.args.formats.now in
    let i = c.loop-format.format-index in
    subst (λ (l : List ℕ). AreNamed c.note_ids.new.named l) (ap (λ l. ids_named (take i formats) ++ l) c.signatures.ensures ∙ named_more formats i c.format-item.result (omega arith) c.format-item.is)
    (c.in_ok-note_ids.ensures (ids_named (take i formats)) (c.loop-format.invariant none))
