use Rattle.std.proofs.Common.{◌≡◌, ◌∙◌, ℕ, get_or, sym, arith}
use Rattle.droid_journal.proofs.RecordLaws.{mark_byte, mark_found, mark_front, mark_short}
use Rattle.droid_journal.proofs.records.damage.is_mark.Goals as goal

pub returns-then-bytes-lt-MARK : goal.returns-then-bytes-lt-MARK
returns-then-bytes-lt-MARK c = (λ is. absurd cc, λ mark. absurd (mark_short c.args.key c.args.at c.args.bytes.now (omega arith) mark))

pub returns-then-bytes-ne1 : goal.returns-then-bytes-ne1
returns-then-bytes-ne1 c = (
  λ is. absurd cc,
  λ mark. absurd (let byte : get_or c.args.bytes.now 0 0 ≡ 1 = mark_byte c.args.key c.args.at c.args.bytes.now mark in omega arith),
)

pub returns : goal.returns
returns c = (
  λ is. mark_found c.args.key c.args.at c.args.bytes.now (sym c.split_at.ensures.front ∙ c.is_same.ensures.0 is ∙ c.turn_mark.ensures),
  λ mark. c.is_same.ensures.1 (c.split_at.ensures.front ∙ mark_front c.args.key c.args.at c.args.bytes.now mark ∙ sym c.turn_mark.ensures),
)
