use Rattle.std.proofs.Common.{◌∙◌, Bool, drop, sym, ap, arith}
use Rattle.std.specs.Prelude.{if◌then◌else◌}
use Rattle.std.proofs.lemmas.List.{drop_all}
use Rattle.droid_journal.proofs.journal.lacking.Goals as goal

pub returns-then-not-ahead : goal.returns-then-not-ahead
returns-then-not-ahead c = sym (ap (λ (b : Bool). drop (if b then 17 else 0) c.args.bytes.now) c.if-not-ahead.true)

pub returns-then-bytes-lt-MARK : goal.returns-then-bytes-lt-MARK
returns-then-bytes-lt-MARK c = sym (ap (λ (b : Bool). drop (if b then 17 else 0) c.args.bytes.now) c.if-not-ahead.false ∙ drop_all 17 c.args.bytes.now (omega arith))

pub returns : goal.returns
returns c = c.split_at.ensures.back ∙ sym (ap (λ (b : Bool). drop (if b then 17 else 0) c.args.bytes.now) c.if-not-ahead.false)
