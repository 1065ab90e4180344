-- One more format is seen.
use Rattle.std.proofs.Common.{◌∙◌, ◌++◌, take, sym, ap, append_assoc, arith}
use Rattle.droid_signature.proofs.Sifting.{by_place_more}
use Rattle.droid_signature.specs.AllLeftOut.{AreCountsOf, is_without, listed_if, without, without_at}
use Rattle.droid_signature.proofs.omissions.push_without.Goals as goal

pub loop-place-preserved : goal.loop-place-preserved
loop-place-preserved c = λ left are.
    let i = c.loop-place.place in
    let formats = c.args.formats.now in
    let format = c.index-formats-place.result in
    let before = c.args.all.now.items in
    c.in_ok-push_if_without.ensures
    ∙ ap (λ t. t ++ listed_if (is_without format c.at.result) i) (c.loop-place.invariant left are)
    ∙ ap (λ n. (before ++ without left (take i formats)) ++ listed_if (is_without format n) i) (c.at.ensures ∙ are.each i)
    ∙ append_assoc before (without left (take i formats)) (without_at left i format)
    ∙ ap (λ t. before ++ t) (sym (by_place_more (without_at left) formats i format (omega arith) c.index-formats-place.is))
