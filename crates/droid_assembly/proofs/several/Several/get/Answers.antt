use Rattle.std.proofs.Common.{◌<◌, ◌∙◌, None, length, sym, ap, arith}
use Rattle.std.proofs.lemmas.List.{get_or_default}
use Rattle.droid_assembly.proofs.SeveralPieces.{slice_get-within, slice_get-past, length_shown}
use Rattle.droid_assembly.proofs.several.Several.get.Goals as goal

pub returns-then-place-len : goal.returns-then-place-len
returns-then-place-len c =
    let several = c.self.inside in
    let shown = length_shown several.blobs several.count c.self.invariant.1.within in
    let below : c.args.place < several.count = omega (arith, c.if-place-len.true, c.len.ensures, ap length (sym c.self.view_is), shown) in
    rw (← c.self.view_is)
    (c.as_ref.ensures.value
    ∙ get_or_default several.blobs c.args.place c.index-self-place.result None (omega (arith, c.self.invariant.1.within, below))
    ∙ sym (slice_get-within several.blobs several.count c.args.place c.self.invariant.1.within below (c.self.invariant.1.each c.args.place below)))

pub returns-else-place-len : goal.returns-else-place-len
returns-else-place-len c = sym (slice_get-past c.args.self.now c.args.place (omega (arith, c.if-place-len.false, c.len.ensures)))
