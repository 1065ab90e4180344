use Rattle.std.proofs.Common.{drop, arith}
use Rattle.droid_journal.proofs.Parts.{more_read}
use Rattle.droid_journal.proofs.disk.disk_log.read_more.Goals as goal

pub returns-clause-read : goal.returns-clause-read
returns-clause-read g c = λ s here.
    more_read c.read_some.result c.args.count _ c.args.buffer.now c.read_some.new.buffer (drop c.args.at s) (omega (arith, c.requires)) c.read_some.ensures.bound (c.read_some.ensures.read s here)
