use Rattle.std.proofs.Common.{ap}
use Rattle.droid_compaction.specs.declared.ended_files.Ended.{Ended}
use Rattle.droid_compaction.proofs.Skimming.{none_left, not_both, skims_end, skims_on, some_left}
use Rattle.droid_compaction.proofs.skim.skim.Goals as goal

pub returns-in-None-clause-noted : goal.returns-in-None-clause-noted
returns-in-None-clause-noted g c = λ s key place its tail form here fit few is noted.
    let so_far = c.loop.invariant s key place its tail form here fit few is noted in
    skims_end s key tail few its c.loop.at c.loop.ended.files c.loop.ended.stamps c.skim_one.new.ended.files c.skim_one.new.ended.stamps so_far
    (λ place it rest fits there known. none_left _ c.in-Ok.next c.in-None.is (c.in-Ok.ensures.there s key place so_far.before it rest form here fits there known))
    (λ end. let same = (c.in-Ok.ensures.none s here end).1 in (ap (λ (e : Ended). e.files) same, ap (λ (e : Ended). e.stamps) same))

pub loop-preserved : goal.loop-preserved
loop-preserved g c = λ s key place its tail form here fit few is noted.
    skims_on s key tail few its c.loop.at c.loop.ended.files c.loop.ended.stamps c.in-Some.place c.skim_one.new.ended.files c.skim_one.new.ended.stamps (c.loop.invariant s key place its tail form here fit few is noted)
    (λ place before it rest fits there known. some_left _ c.in-Ok.next c.in-Some.place c.in-Some.is (c.in-Ok.ensures.there s key place before it rest form here fits there known))
    (λ end. not_both c.in-Ok.next c.in-Some.place (c.in-Ok.ensures.none s here end).0 c.in-Some.is)
