use Rattle.droid_pronom.specs.Found.{Hits, IsHit}
use Rattle.droid_pronom.specs.FoundWindows.{Stands}
use Rattle.droid_pronom.proofs.Flags.{all_more}
use Rattle.droid_identity.proofs.DoubtLemmas.{beaters_same, formats_same, trials_same}
use Rattle.droid_identity.proofs.doubts.doubt_of.Goals as goal

pub beaters-requires : goal.beaters-requires
beaters-requires c =
    rw (c.priorities.ensures, c.as_slice.ensures.value, c.in_ok-hit.ensures.len, c.len-count.ensures.count) (all_more _ _ (λ row is. is.0) c.args.registry.now.priorities c.len-count.ensures.rules.priorities)

pub returns : goal.returns
returns c = λ file limit ends.
    let hit = rw c.signatures-2.ensures at c.in_ok-hit.ensures.each in
    let same = formats_same file c.args.first.now c.args.last.now limit ends c.args.registry.now in
    record {
      trials = trials_same file c.args.first.now c.args.last.now limit ends c.args.place 0 c.args.registry.now.signatures c.in_ok-trials.trials.items (rw c.signatures.ensures at c.in_ok-trials.ensures);
      beaters = beaters_same (Stands c.in_ok-hit.hit.items) (IsHit (Hits file limit) c.args.registry.now) c.args.place c.args.registry.now.priorities c.in_ok-rivals.rivals.items
          (λ k. (λ s. (same k).0 ((hit k).0 s), λ h. (hit k).1 ((same k).1 h))) (rw (c.as_slice.ensures.value, c.priorities.ensures) at c.in_ok-rivals.ensures);
    }
