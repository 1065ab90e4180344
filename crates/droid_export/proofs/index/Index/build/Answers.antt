use Rattle.std.proofs.Common.{Bool, ◌||◌, ◌&&◌, ◌==◌, sym, ap, ◌∙◌, arith}
use Rattle.droid_export.specs.Index.{asks_extension, asks_identifier}
use Rattle.droid_export.proofs.IndexContents.{more_criteria}
use Rattle.droid_export.proofs.ListPlaces.{some_is_there}
use Rattle.droid_export.proofs.index.Index.build.Goals as goal
use Rattle.droid_export.proofs.index.Index.build.Goals.{in-Some+in_ok-add, in_default}

pub loop-place-preserved : goal.loop-place-preserved
loop-place-preserved c = elim c.match-get.branch [
  | in-Some+in_ok-add w ↦ rw w.index-is (record {
    identifiers = λ text spot. w.in_ok-add.ensures.identifiers text spot
        ∙ (ap (λ (so_far : Bool). (so_far || (asks_identifier text w.in-Some.criterion.now && (c.loop-place.place == spot)))) (c.loop-place.invariant.identifiers text spot)
        ∙ sym (more_criteria (asks_identifier text) c.args.criteria.now c.loop-place.place w.in-Some.criterion.now spot (sym w.in-Some.ensures)));
    extensions = λ text spot. w.in_ok-add.ensures.extensions text spot
        ∙ (ap (λ (so_far : Bool). (so_far || (asks_extension text w.in-Some.criterion.now && (c.loop-place.place == spot)))) (c.loop-place.invariant.extensions text spot)
        ∙ sym (more_criteria (asks_extension text) c.args.criteria.now c.loop-place.place w.in-Some.criterion.now spot (sym w.in-Some.ensures)));
  })
  | in_default w ↦ some_is_there c.args.criteria.now c.loop-place.place (sym w.in_default.ensures) (omega arith)
]
