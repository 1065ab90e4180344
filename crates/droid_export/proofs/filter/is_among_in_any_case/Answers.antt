use Rattle.std.proofs.Common.{sym, arith}
use Rattle.std.specs.Str.{str_eq_ignore_ascii_case}
use Rattle.std.proofs.lemmas.Bool.{false_from_ne_true}
use Rattle.std.proofs.lemmas.Slice.Eq.{bytes_eq-Decides}
use Rattle.droid_export.proofs.ListPlaces.{any_found, any_next, any_end, some_is_there}
use Rattle.droid_export.proofs.filter.is_among_in_any_case.Goals as goal
use Rattle.droid_export.proofs.filter.is_among_in_any_case.Goals.{in-Some+else-eq_ignore_ascii_case, in_default}

pub returns-then-eq_ignore_ascii_case : goal.returns-then-eq_ignore_ascii_case
returns-then-eq_ignore_ascii_case c =
    any_found (λ other. str_eq_ignore_ascii_case c.args.text.now other) c.args.texts.now c.loop-place.place c.in-Some.other.now (sym c.in-Some.ensures)
    (rw (← c.as_str.ensures.value) ((bytes_eq-Decides _ _).1 (c.eq_ignore_ascii_case.ensures.test.0 c.if-eq_ignore_ascii_case.true)))

pub loop-place-preserved : goal.loop-place-preserved
loop-place-preserved c = elim c.match-get.branch [
  | in-Some+else-eq_ignore_ascii_case w ↦
      any_next (λ other. str_eq_ignore_ascii_case c.args.text.now other) c.args.texts.now c.loop-place.place w.in-Some.other.now (sym w.in-Some.ensures)
      (rw (← w.as_str.ensures.value) (false_from_ne_true _ (λ same. let equal = w.eq_ignore_ascii_case.ensures.test.1 ((bytes_eq-Decides _ _).0 same) in cc))) c.loop-place.invariant
  | in_default w ↦ some_is_there c.args.texts.now c.loop-place.place (sym w.in_default.ensures) (omega arith)
]

pub returns : goal.returns
returns c = any_end (λ other. str_eq_ignore_ascii_case c.args.text.now other) c.args.texts.now c.loop-place.place (omega arith) c.loop-place.invariant
