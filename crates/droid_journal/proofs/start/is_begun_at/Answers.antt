use Rattle.std.proofs.Common.{rules, ◌≡◌, drop, subst, sym, arith}
use Rattle.droid_journal.specs.Chains.{IsMark}
use Rattle.droid_journal.specs.declared.records.key.Form.TheVariants as forms
use Rattle.droid_journal.proofs.Handing.{mark_front, mark_untaken}
use Rattle.droid_journal.proofs.start.is_begun_at.Goals as goal

pub returns-in-Before-clause-none : goal.returns-in-Before-clause-none
returns-in-Before-clause-none g c = λ s here present. let before : c.args.key.form ≡ forms.Before = c.in-Before.is in absurd cc

pub returns-clause-mark : goal.returns-clause-mark
returns-clause-mark g c = λ s here shown.
    mark_untaken c.args.key c.args.at 17 (drop c.args.at s) (subst (IsMark c.args.key c.args.at) (c.in-Ok.ensures.read s here) (c.is_mark-is.ensures.0 shown))

pub returns-clause-none : goal.returns-clause-none
returns-clause-none g c = λ s here present mark.
    c.is_mark-is.ensures.1 (subst (IsMark c.args.key c.args.at) (sym (c.in-Ok.ensures.read s here)) (mark_front c.args.key c.args.at 17 (drop c.args.at s) (omega arith) mark))
