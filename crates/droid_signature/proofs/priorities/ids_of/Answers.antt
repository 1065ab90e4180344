-- One more format.
use Rattle.std.proofs.Common.{◌<◌, length, take, sym, ap, ◌∙◌, arith}
use Rattle.droid_signature.specs.Priorities as spec
use Rattle.droid_signature.specs.Views.{all_of, kept_of}
use Rattle.droid_signature.specs.declared.formats.Kept.{Kept}
use Rattle.droid_signature.proofs.FormatIds.{ids_long, ids_more}
use Rattle.droid_signature.proofs.Sifting.{seen_at, seen_below}
use Rattle.droid_signature.proofs.priorities.ids_of.Goals as goal

pub loop-place-preserved : goal.loop-place-preserved
loop-place-preserved c =
    let kept = all_of c.args.kept.now in
    let i = c.loop-place.place in
    let below : i < length c.args.kept.now = omega arith in
    let inside = seen_below kept_of c.args.kept.now i below in
    ids_more kept i (kept_of c.index-kept-place.result) c.id.result c.note.new.self inside (seen_at kept_of c.args.kept.now i c.index-kept-place.result below c.index-kept-place.is) (c.id.ensures ∙ ap (λ (k : Kept). k.format.now.id) (sym c.index-kept-place.is))
    (c.in_ok-note.ensures (spec.ids_of (take i kept)) c.loop-place.invariant (ids_long kept i (omega arith)))
