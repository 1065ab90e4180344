use Rattle.std.proofs.Common.{rules, ◌≡◌, ◌+◌, sym}
use Rattle.droid_journal.specs.Records.{made}
use Rattle.droid_compaction.proofs.Weighing.{weighed_more}
use Rattle.droid_compaction.proofs.weight.WeightTaker.take.Goals as goal

pub returns-clause-took : goal.returns-clause-took
returns-clause-took c = λ files before first weighed.
    let sum : c.in-Some.bytes ≡ c.args.self.now.bytes + c.weight_of-weight.result = search rules in
    weighed_more files c.args.self.now.files c.args.self.now.bytes c.in-Some.bytes before (made first c.args.request.now c.args.reply.now) weighed (rw (sym (c.weight_of-weight.ensures first)) sum)
