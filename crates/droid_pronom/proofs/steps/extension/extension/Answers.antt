use Rattle.std.proofs.Common.{◌≡◌, ◌∙◌, ◌<◌, length, get_or, arith}
use Rattle.std.proofs.lemmas.Str.{IsCharBoundary-after_ascii}
use Rattle.droid_pronom.proofs.FoundExtension.{dot_at, extension_some, extension_first, extension_no_dot}
use Rattle.droid_pronom.proofs.steps.extension.extension.Goals as goal
use Rattle.droid_pronom.proofs.steps.extension.extension.Goals.{in_default-via-in-Some+else-dot-gt0, in_default-via-in_default}

pub range_from-requires : goal.range_from-requires
range_from-requires c = λ _.
    let dot = dot_at c.args.name.now c.in-Some.dot (rw c.as_bytes.ensures.value at c.in-Some.ensures) in
    let below : c.in-Some.dot < length c.args.name.now = dot.0 in
    let is : get_or c.args.name.now c.in-Some.dot 0 ≡ 46 = dot.1 in
    IsCharBoundary-after_ascii c.args.name.now c.in-Some.dot c.utf8.name below (omega arith)

pub returns-in-Some : goal.returns-in-Some
returns-in-Some c =
    c.range_from.ensures.value ∙ extension_some c.args.name.now c.in-Some.dot (rw c.as_bytes.ensures.value at c.in-Some.ensures) c.if-dot-gt0.true

pub returns-in_default : goal.returns-in_default
returns-in_default c =
    elim c.in_default.branch [
      | in_default-via-in-Some+else-dot-gt0 w ↦
          extension_first c.args.name.now w.in-Some.dot (rw c.as_bytes.ensures.value at w.in-Some.ensures) w.if-dot-gt0.false
      | in_default-via-in_default w ↦ extension_no_dot c.args.name.now (rw c.as_bytes.ensures.value at w.in_default.ensures)
    ]
