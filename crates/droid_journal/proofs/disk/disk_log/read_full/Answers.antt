use Rattle.std.proofs.Common.{rules, ◌≡◌, ◌+◌, ◌∙◌}
use Rattle.droid_journal.proofs.Parts.{read_on, within_on}
use Rattle.droid_journal.proofs.disk.disk_log.read_full.Goals as goal

pub loop-count-preserved : goal.loop-count-preserved
loop-count-preserved g c =
    let at = c.args.at in
    let count = c.loop-count.count in
    let place = c.in-Some.place in
    let more = c.in-Ok.more in
    let is : place ≡ at + count = search rules in
    record {
      size = c.read_more.ensures.size ∙ c.loop-count.invariant.size;
      within = c.in-Ok.ensures.bound;
      read = λ s here.
          let was = c.loop-count.invariant.read s here in
          (read_on at place count more s c.loop-count.buffer c.read_more.new.buffer is was.0 (c.in-Ok.ensures.read s here), within_on at place count more s is was.1 (c.in-Ok.ensures.within s here));
    }
