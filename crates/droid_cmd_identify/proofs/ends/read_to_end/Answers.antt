use Rattle.std.proofs.Common.{◌≡◌, ◌+◌, arith}
use Rattle.droid_tree.proofs.FileReads.{stops}
use Rattle.droid_cmd_identify.specs.EndsRead.{IsNotToEnd}
use Rattle.droid_cmd_identify.proofs.EndLemmas.{came_to_end}
use Rattle.droid_cmd_identify.proofs.ends.read_to_end.Goals as goal

pub returns-in-Ok-clause-read : goal.returns-in-Ok-clause-read
returns-in-Ok-clause-read g c =
    let more : c.in-Some.wanted ≡ c.args.count + 1 = rw c.in-Some.is at c.one_more.ensures in
    came_to_end g.T.Tree.observes c.args.path.now c.args.entry.now c.args.from c.args.count c.saturating_sub.result c.args.bytes.now.items c.read.new.bytes.items _ _ c.just_came.result (rw more at c.in-Ok.ensures.came)
    (omega (arith, c.len-before.ensures, c.len.ensures, c.saturating_sub.ensures)) c.just_came.ensures

pub returns-in_ok-why-in-Err-clause-read : goal.returns-in_ok-why-in-Err-clause-read
returns-in_ok-why-in-Err-clause-read g c =
    let more : c.in-Some.wanted ≡ c.args.count + 1 = rw c.in-Some.is at c.one_more.ensures in
    stops g.T.Tree.observes c.args.path.now c.args.entry.now c.args.from (IsNotToEnd c.args.count) c.in-Some.wanted c.in-Err.fault c.in_ok-why-in-Err.why _ _ more more c.in_ok-why-in-Err.ensures.reason c.in-Err.ensures.unread c.in-Err.ensures.exchanged
