-- One more ID.
use Rattle.std.proofs.Common.{◌∙◌, ◌++◌, ◌∷◌, [], ℕ, List, take, get_or, sym, ap, subst, append_assoc, arith}
use Rattle.std.proofs.lemmas.List.{append-nil, take_all, take_more}
use Rattle.droid_signature.specs.Unnamed.{AreNamed}
use Rattle.droid_signature.proofs.nameless_signatures.note_ids.Goals as goal

pub loop-id-init : goal.loop-id-init
loop-id-init c = λ before are. subst (λ (l : List ℕ). AreNamed c.args.named.now l) (sym (append-nil before)) are

pub loop-id-preserved : goal.loop-id-preserved
loop-id-preserved c = λ before are.
    let ids = c.args.ids.now in
    let i = c.loop-id.id-index in
    subst (λ (l : List ℕ). AreNamed c.note.new.self l) (append_assoc before (take i ids) (get_or ids i 0 ∷ []) ∙ ap (λ l. before ++ l) (sym (take_more ids i 0 (omega arith))))
    (c.in_ok-note.ensures (before ++ take i ids) (c.loop-id.invariant before are))

pub returns : goal.returns
returns c = λ before are. subst (λ (l : List ℕ). AreNamed c.loop-id.named (before ++ l)) (take_all c.loop-id.id-index c.args.ids.now (omega arith)) (c.loop-id.invariant before are)
