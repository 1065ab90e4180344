-- The extensions of one more format.
use Rattle.std.proofs.Common.{◌<◌, ℕ, List, take, length, arith}
use Rattle.droid_signature.specs.RegistryTables.{extension_fields}
use Rattle.droid_signature.specs.Extensions.{Extension, LeavesExtension, TakesExtension, all_extensions, extensions_of}
use Rattle.droid_signature.specs.Formats.{Placed}
use Rattle.droid_signature.specs.Views.{all_of, kept_of}
use Rattle.droid_signature.proofs.Sifting.{all_more, fills_new, seen_at, seen_below}
use Rattle.droid_signature.proofs.extensions.list_extensions.Goals as goal

pub loop-place-init : goal.loop-place-init
loop-place-init c = fills_new TakesExtension LeavesExtension extension_fields c.new-table.result c.new-table.ensures

pub loop-place-preserved : goal.loop-place-preserved
loop-place-preserved c =
    let f : ℕ → Placed → List Extension = λ place it. extensions_of place it it.format.extensions in
    let kept = all_of c.args.kept.now in
    let i = c.loop-place.place in
    let below : i < length c.args.kept.now = omega arith in
    all_more f kept i (kept_of c.index-kept-place.result) c.add_extensions.new.table (seen_below kept_of c.args.kept.now i below) (seen_at kept_of c.args.kept.now i c.index-kept-place.result below c.index-kept-place.is)
    (c.in_ok-add_extensions.ensures (all_extensions (take i kept)) c.loop-place.invariant)
