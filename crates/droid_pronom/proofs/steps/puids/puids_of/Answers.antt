-- No flag is set, one more flag, and all of them.
use Rattle.std.proofs.Common.{◌<◌, ◌∷◌, [], length, append_assoc, sym, ◌∙◌, arith}
use Rattle.std.proofs.lemmas.List.{append-nil}
use Rattle.droid_pronom.specs.FoundWindows.{Stands}
use Rattle.droid_pronom.proofs.Flags.{rest_of_item, stands_at, stands_not}
use Rattle.droid_pronom.proofs.MarkSteps.{chosen_step, passed_step, chosen_end}
use Rattle.droid_pronom.proofs.SetFlags.{none_chosen}
use Rattle.droid_pronom.proofs.steps.puids.puids_of.Goals as goal
use Rattle.droid_pronom.proofs.steps.puids.puids_of.Goals.{then-flags-place+in_ok-try_clone+in_ok-push, else-flags-place}

pub returns-then-none : goal.returns-then-none
returns-then-none c = rw c.new-puids.ensures (none_chosen c.args.flags.now c.args.formats.now (sym c.is_any_set-none.ensures ∙ c.if-none.true))

pub loop-place-preserved : goal.loop-place-preserved
loop-place-preserved c = λ rest more.
    let below : c.loop-place.place < length c.args.flags.now = omega arith in
    let rest_is = rest_of_item c.args.formats.now c.loop-place.place c.index-formats-place.result c.loop-place-test.true c.index-formats-place.is in
    elim c.if-flags-place.branch [
      | then-flags-place+in_ok-try_clone+in_ok-push w ↦
          let stands = stands_at c.args.flags.now c.loop-place.place _ below w.if-flags-place.true in
          rw (w.puids-is, w.in_ok-push.ensures.ok, append_assoc, w.in_ok-try_clone.ensures) (
          c.loop-place.invariant (c.index-formats-place.result.puid ∷ rest) (chosen_step (Stands c.args.flags.now) c.loop-place.place c.index-formats-place.result _ _ rest_is stands rest more))
      | else-flags-place w ↦
          rw w.puids-is (
          c.loop-place.invariant rest (passed_step (Stands c.args.flags.now) c.loop-place.place c.index-formats-place.result _ _ rest_is (stands_not c.args.flags.now c.loop-place.place _ below w.if-flags-place.false) rest more))
    ]

pub returns : goal.returns
returns c = rw append-nil at (c.loop-place.invariant [] (chosen_end (Stands c.args.flags.now) c.loop-place.place c.args.formats.now c.loop-place-test.false))
