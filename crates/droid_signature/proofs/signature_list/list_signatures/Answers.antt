-- The signatures of one more format.
use Rattle.std.proofs.Common.{◌<◌, ℕ, List, take, length, arith}
use Rattle.droid_signature.specs.Formats.{Placed}
use Rattle.droid_signature.specs.Views.{all_of, kept_of}
use Rattle.droid_signature.proofs.Sifting.{seen_at, seen_below}
use Rattle.droid_signature.specs.Signatures.{Named, all_signatures, signatures_of}
use Rattle.droid_signature.proofs.Signing.{all_signs_more, signs_new}
use Rattle.droid_signature.proofs.signature_list.list_signatures.Goals as goal

pub loop-place-init : goal.loop-place-init
loop-place-init c = λ signatures are. signs_new signatures c.new-table.result c.new-table.ensures

pub loop-place-preserved : goal.loop-place-preserved
loop-place-preserved c = λ signatures are.
    let f : ℕ → Placed → List Named = λ place it. signatures_of place it it.format.signatures in
    let kept = all_of c.args.kept.now in
    let i = c.loop-place.place in
    let below : i < length c.args.kept.now = omega arith in
    all_signs_more signatures f kept i (kept_of c.index-kept-place.result) c.add_signatures.new.table (seen_below kept_of c.args.kept.now i below) (seen_at kept_of c.args.kept.now i c.index-kept-place.result below c.index-kept-place.is)
    (c.in_ok-add_signatures.ensures signatures (all_signatures (take i kept)) i are (c.loop-place.invariant signatures are))
