use Rattle.std.proofs.Common.{[]}
use Rattle.std.proofs.lemmas.List.{append-nil, drop_all}
use Rattle.droid_pronom.proofs.Flags.{rest_at}
use Rattle.droid_pronom.specs.FoundWindows.{Stands}
use Rattle.droid_identity.specs.Beaters as beating
use Rattle.droid_identity.proofs.DoubtLemmas.{beater_more, beater_passed}
use Rattle.droid_identity.proofs.rivals.beaters.Goals as goal
use Rattle.droid_identity.proofs.rivals.beaters.Goals.{then-beats+in_ok-push, else-beats}

pub loop-row-preserved : goal.loop-row-preserved
loop-row-preserved c =
    let e = rest_at c.args.priorities.now c.loop-row.row-index (record { place = 0; over = 0 }) c.loop-row-test.true in
    let below = rw e at c.loop-row.invariant.0 in
    elim c.if-beats.branch [
      | then-beats+in_ok-push w ↦
          rw (w.places-is, w.in_ok-push.ensures.items)
          (below.1, beater_more (Stands c.args.hit.now) c.args.place c.args.priorities.now _ _ _ c.loop-row.places.items e (c.beats.ensures.0 w.if-beats.true) c.loop-row.invariant.1)
      | else-beats w ↦
          rw w.places-is
          (below.1, beater_passed (Stands c.args.hit.now) c.args.place c.args.priorities.now _ _ _ c.loop-row.places.items e (λ is. let t = c.beats.ensures.1 is in let f = w.if-beats.false in cc) c.loop-row.invariant.1)
    ]

pub returns : goal.returns
returns c = rw append-nil at (c.loop-row.invariant.1 [] (rw (drop_all c.loop-row.row-index c.args.priorities.now c.loop-row-test.false) beating.end))
