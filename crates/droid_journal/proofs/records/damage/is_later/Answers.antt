use Rattle.droid_journal.proofs.RecordLaws.{before_later, later_before, later_mark, mark_later}
use Rattle.droid_journal.proofs.records.damage.is_later.Goals as goal

pub returns-in-Before : goal.returns-in-Before
returns-in-Before c = (
  λ is. later_before c.args.key c.args.at c.args.bytes.now c.in-Before.is (c.is_later_before.ensures.0 is),
  λ later. c.is_later_before.ensures.1 (before_later c.args.key c.args.at c.args.bytes.now c.in-Before.is later),
)

pub returns-in-Present : goal.returns-in-Present
returns-in-Present c = (
  λ is. later_mark c.args.key c.args.at c.args.bytes.now c.in-Present.is (c.is_mark.ensures.0 is),
  λ later. c.is_mark.ensures.1 (mark_later c.args.key c.args.at c.args.bytes.now c.in-Present.is later),
)
