-- One more ID is listed.
use Rattle.std.proofs.Common.{◌∙◌, ◌++◌, ◌∷◌, [], map, take, get_or, sym, ap, append_assoc, arith}
use Rattle.std.proofs.lemmas.List.{map_more}
use Rattle.droid_signature.specs.AllLeftOut.{unnamed_item}
use Rattle.droid_signature.proofs.omissions.push_unnamed.Goals as goal

pub loop-id-preserved : goal.loop-id-preserved
loop-id-preserved c =
    let ids = c.args.ids.now in
    let i = c.loop-id.id-index in
    let before = c.args.all.now.items in
    c.in_ok-push.ensures.items
    ∙ ap (λ t. t ++ unnamed_item (get_or ids i 0) ∷ []) c.loop-id.invariant
    ∙ append_assoc before (map unnamed_item (take i ids)) (unnamed_item (get_or ids i 0) ∷ [])
    ∙ ap (λ t. before ++ t) (sym (map_more unnamed_item ids i 0 (omega arith)))
