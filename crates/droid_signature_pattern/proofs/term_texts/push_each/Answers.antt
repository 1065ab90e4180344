-- No bytes, and a part of all.
use Rattle.std.proofs.Common.{arith}
use Rattle.droid_signature_pattern.proofs.Runs.{each_cut, next_none, next_some, none_cut}
use Rattle.droid_signature_pattern.proofs.term_texts.push_each.Goals as goal

pub returns-then-count-eq0-clause-text : goal.returns-then-count-eq0-clause-text
returns-then-count-eq0-clause-text c = none_cut c.args.text.now.items c.args.mark c.args.from c.args.count c.if-count-eq0.true

pub returns-then-count-eq0-clause-mark : goal.returns-then-count-eq0-clause-mark
returns-then-count-eq0-clause-mark c = next_none c.args.mark c.args.count c.if-count-eq0.true

pub returns-clause-text : goal.returns-clause-text
returns-clause-text c =
    each_cut c.args.text.now.items c.push.new.self.items _ c.each_byte-all.result.now c.args.mark c.args.from c.args.count (omega arith) (omega arith) c.each_byte-all.ensures.text c.in_ok-push.ensures.items c.in_ok-extend_from_slice.ensures.items

pub returns-clause-mark : goal.returns-clause-mark
returns-clause-mark c = next_some c.args.mark c.args.count (omega arith)
