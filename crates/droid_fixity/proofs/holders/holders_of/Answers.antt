use Rattle.std.proofs.Common.{◌∙◌, Some, Option, ap, sym, get_or, arith}
use Rattle.std.specs.Prelude.{if◌then◌else◌}
use Rattle.droid_fixity.specs.Holding.{holder_after}
use Rattle.droid_frame.specs.Items.{bears}
use Rattle.droid_fixity.specs.declared.holders.Holder.{Holder}
use Rattle.droid_fixity.proofs.Moves.{more_held, none_held}
use Rattle.droid_fixity.proofs.holders.holders_of.Goals as goal
use Rattle.droid_fixity.proofs.holders.holders_of.Goals.{in-Some+in_ok-note, in_default}

pub loop-place-preserved : goal.loop-place-preserved
loop-place-preserved c = elim c.match-item_at.branch [
  | in-Some+in_ok-note w ↦ λ hash. rw w.holders-is (w.in_ok-note.ensures hash
      ∙ (ap (λ (o : Option Holder). if bears hash w.in-Some.item.now then Some (holder_after o (get_or c.args.places.now c.loop-place.place-index 0)) else o) (c.loop-place.invariant hash)
      ∙ more_held c.args.items.now c.args.places.now c.loop-place.place-index hash w.in-Some.item.now (omega arith) (sym w.in-Some.ensures)))
  | in_default w ↦ λ hash. rw w.holders-is (c.loop-place.invariant hash
      ∙ none_held c.args.items.now c.args.places.now c.loop-place.place-index hash (omega arith) (sym w.in_default.ensures))
]
