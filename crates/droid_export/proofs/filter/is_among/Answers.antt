use Rattle.std.proofs.Common.{◌∙◌, sym, arith}
use Rattle.std.specs.Str.{bytes_eq}
use Rattle.droid_export.proofs.ListPlaces.{any_found, any_next, any_end, some_is_there}
use Rattle.droid_export.proofs.filter.is_among.Goals as goal
use Rattle.droid_export.proofs.filter.is_among.Goals.{in-Some+else-eq, in_default}

pub returns-then-eq : goal.returns-then-eq
returns-then-eq c =
    any_found (λ other. bytes_eq c.args.text.now other) c.args.texts.now c.loop-place.place c.in-Some.other.now (sym c.in-Some.ensures)
    (rw (← c.as_str.ensures.value) (sym c.eq.ensures ∙ c.if-eq.true))

pub loop-place-preserved : goal.loop-place-preserved
loop-place-preserved c = elim c.match-get.branch [
  | in-Some+else-eq w ↦
      any_next (λ other. bytes_eq c.args.text.now other) c.args.texts.now c.loop-place.place w.in-Some.other.now (sym w.in-Some.ensures)
      (rw (← w.as_str.ensures.value) (sym w.eq.ensures ∙ w.if-eq.false)) c.loop-place.invariant
  | in_default w ↦ some_is_there c.args.texts.now c.loop-place.place (sym w.in_default.ensures) (omega arith)
]

pub returns : goal.returns
returns c = any_end (λ other. bytes_eq c.args.text.now other) c.args.texts.now c.loop-place.place (omega arith) c.loop-place.invariant
