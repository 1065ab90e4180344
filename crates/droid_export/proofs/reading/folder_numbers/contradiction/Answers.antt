use Rattle.std.proofs.Common.{◌∙◌, [], ◌∷◌, ◌++◌, length, drop, refl, sym, arith}
use Rattle.std.proofs.Math.ListN.{drop_of_length-le}
use Rattle.std.proofs.lemmas.Bool.{ltb-false, ltb-true}
use Rattle.droid_export.specs.FolderNumbers.{above_sayings, own_sayings}
use Rattle.droid_export.proofs.Sayings.{found_at, ids_none, no_more_tags, nothing_noted, passed_at}
use Rattle.droid_export.proofs.reading.folder_numbers.contradiction.Goals as goal

pub loop-place-init : goal.loop-place-init
loop-place-init c = (
  [],
  [],
  ids_none c.new-ids.result c.new-ids.ensures.empty,
  nothing_noted (record { numbers = c.new.result; paths = c.new-2.result }) c.new.ensures.empty c.new-2.ensures.empty,
  refl,
)

pub returns-in_default : goal.returns-in_default
returns-in_default c =
    let inv = c.loop-place.invariant in
    let past = ltb-false c.loop-place.place (length c.args.tags.now) (sym c.in_default.ensures.lookup.0) in
    sym (inv.4 ∙ no_more_tags inv.0 inv.1 (drop c.loop-place.place c.args.items.now) (drop c.loop-place.place c.args.tags.now) (drop_of_length-le c.args.tags.now past))

pub returns-in-Some-2 : goal.returns-in-Some-2
returns-in-Some-2 c =
    let inv = c.loop-place.invariant in
    let noted = rw c.in-Some-2.is at (c.in_ok-column.ensures inv.0 inv.1 inv.2 inv.3) in
    sym (inv.4 ∙ found_at inv.0 inv.1 c.args.items.now c.args.tags.now c.loop-place.place c.index-items-place.result c.in-Some.tag.now _ c.in-Some-2.column
    (omega (arith, c.loop-place-test.true)) (ltb-true c.loop-place.place (length c.args.tags.now) (sym c.in-Some.ensures.lookup.0)) c.index-items-place.is c.in-Some.ensures.lookup.1 noted)

pub loop-place-preserved : goal.loop-place-preserved
loop-place-preserved c =
    let inv = c.loop-place.invariant in
    let item = c.index-items-place.result in
    let tag = c.in-Some.tag.now in
    let noted = rw c.in-None.is at (c.in_ok-column.ensures inv.0 inv.1 inv.2 inv.3) in (
      inv.0 ++ tag.id ∷ [],
      (inv.1 ++ own_sayings item tag) ++ above_sayings item tag,
      noted.1,
      noted.2,
      inv.4 ∙ passed_at inv.0 inv.1 c.args.items.now c.args.tags.now c.loop-place.place item tag _
          (omega (arith, c.loop-place-test.true)) (ltb-true c.loop-place.place (length c.args.tags.now) (sym c.in-Some.ensures.lookup.0)) c.index-items-place.is c.in-Some.ensures.lookup.1 noted.0,
    )
