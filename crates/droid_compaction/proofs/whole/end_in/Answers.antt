use Rattle.std.proofs.Common.{rules, ◌≡◌, ◌∙◌, false, length, sym, ap, arith}
use Rattle.std.specs.Prelude.{IsTrue}
use Rattle.droid_journal.specs.Records.{turn_mark}
use Rattle.droid_journal.specs.declared.records.key.Form.TheVariants as forms
use Rattle.droid_journal.proofs.RecordLaws.{length-mark}
use Rattle.droid_compaction.proofs.Wholes.{all_seen, none_seen, seen_mark, seen_none}
use Rattle.droid_compaction.proofs.whole.end_in.Goals as goal

pub returns-then-seen-lt1-clause-there : goal.returns-then-seen-lt1-clause-there
returns-then-seen-lt1-clause-there c = λ rest is. none_seen c.args.seen.now rest is (omega (arith, c.if-seen-lt1.true))

pub returns-in-Before-clause-other : goal.returns-in-Before-clause-other
returns-in-Before-clause-other c = λ rest is. (
  seen_none c.args.seen.now rest is (omega (arith, c.if-seen-lt1.false)),
  λ present. let before : c.args.key.form ≡ forms.Before = c.in-Before.is in absurd cc,
)

pub returns-then-not-is_same-clause-other : goal.returns-then-not-is_same-clause-other
returns-then-not-is_same-clause-other c = λ rest is. (
  seen_none c.args.seen.now rest is (omega (arith, c.if-seen-lt1.false)),
  λ present same.
      let whole = seen_mark c.args.seen.now rest (turn_mark c.args.key c.args.at) is (omega (arith, length-mark c.args.key c.args.at)) same in
      let shown : IsTrue c.is_same.result = c.is_same.ensures.1 (whole ∙ sym c.turn_mark.ensures) in
      let isnt : c.is_same.result ≡ false = search rules in
      absurd cc,
)

pub returns-clause-there : goal.returns-clause-there
returns-clause-there c = λ rest is.
    let shown : IsTrue c.is_same.result = search rules in
    let mark : c.args.seen.now ≡ turn_mark c.args.key c.args.at = c.is_same.ensures.0 shown ∙ c.turn_mark.ensures in
    all_seen c.args.seen.now rest is (omega (arith, ap length mark, length-mark c.args.key c.args.at)) ∙ mark
