use Rattle.std.proofs.Common.{◌∙◌, sym, arith}
use Rattle.droid_export.specs.Filters.{is_among}
use Rattle.droid_export.proofs.ListPlaces.{any_found, any_next, any_end, some_is_there}
use Rattle.droid_export.proofs.filter.shares_one.Goals as goal
use Rattle.droid_export.proofs.filter.shares_one.Goals.{in-Some+else-is_among, in_default}

pub returns-then-is_among : goal.returns-then-is_among
returns-then-is_among c =
    any_found (λ puid. is_among c.args.texts.now puid) c.args.puids.now c.loop-place.place c.in-Some.puid.now (sym c.in-Some.ensures)
    (rw (← c.as_str.ensures.value) (sym c.is_among.ensures ∙ c.if-is_among.true))

pub loop-place-preserved : goal.loop-place-preserved
loop-place-preserved c = elim c.match-get.branch [
  | in-Some+else-is_among w ↦
      any_next (λ puid. is_among c.args.texts.now puid) c.args.puids.now c.loop-place.place w.in-Some.puid.now (sym w.in-Some.ensures)
      (rw (← w.as_str.ensures.value) (sym w.is_among.ensures ∙ w.if-is_among.false)) c.loop-place.invariant
  | in_default w ↦ some_is_there c.args.puids.now c.loop-place.place (sym w.in_default.ensures) (omega arith)
]

pub returns : goal.returns
returns c = any_end (λ puid. is_among c.args.texts.now puid) c.args.puids.now c.loop-place.place (omega arith) c.loop-place.invariant
