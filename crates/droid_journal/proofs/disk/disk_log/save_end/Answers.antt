use Rattle.std.proofs.Common.{rules, ◌≡◌, ◌+◌, ◌∙◌, drop, refl, arith}
use Rattle.std.proofs.lemmas.List.{length-take}
use Rattle.droid_journal.proofs.Parts.{saved_all, saved_none, saved_on}
use Rattle.droid_journal.proofs.disk.disk_log.save_end.Goals as goal

pub loop-init : goal.loop-init
loop-init g c = record {
  above = omega arith;
  saved = λ s here. (here, (g.D.Drive.saved c.args.drive.now, saved_none c.args.from s (g.D.Drive.saved c.args.drive.now)));
  no_other = λ s here. here;
  kept = refl;
  found = λ is. is;
  stays = λ failed. failed;
}

pub returns-then-count-lt-SAVED-clause-saved : goal.returns-then-count-lt-SAVED-clause-saved
returns-then-count-lt-SAVED-clause-saved g c = λ s here.
    let was = c.loop.invariant.saved s here in
    let front = was.1.0 in (
      front,
      saved_all c.args.from c.loop.at s front (g.D.Drive.saved c.loop.drive) (g.D.Drive.saved c.save_some.new.drive) c.loop.invariant.above was.1.1 (c.in-Ok.ensures.saved s was.0)
          (omega (arith, c.in-Ok.ensures.size s was.0)),
    )

pub loop-preserved : goal.loop-preserved
loop-preserved g c =
    let at = c.loop.at in
    let next = c.in-Some.next in
    let is : next ≡ at + c.in-Ok.count = search rules in
    record {
      above = omega (arith, is, c.loop.invariant.above);
      saved = λ s here.
          let was = c.loop.invariant.saved s here in
          let front = was.1.0 in
          let whole : next ≡ at + 65536 = omega (arith, is, c.in-Ok.ensures.size s was.0, length-take 65536 (drop at s)) in (
            c.save_some.ensures.same s was.0,
            (front, saved_on c.args.from at next s front (g.D.Drive.saved c.loop.drive) (g.D.Drive.saved c.save_some.new.drive) c.loop.invariant.above whole was.1.1 (c.in-Ok.ensures.saved s was.0)),
          );
      no_other = λ s here. c.loop.invariant.no_other s (c.save_some.ensures.no_other s here);
      kept = c.save_some.ensures.kept ∙ c.loop.invariant.kept;
      found = λ is_found. c.save_some.ensures.found (c.loop.invariant.found is_found);
      stays = λ failed. c.save_some.ensures.stays (c.loop.invariant.stays failed);
    }
