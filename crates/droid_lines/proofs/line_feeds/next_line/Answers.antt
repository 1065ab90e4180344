use Rattle.std.proofs.Common.{rules, ◌+◌, ap, ◌∙◌}
use Rattle.droid_lines.specs.Lines.{lines_of}
use Rattle.droid_lines.proofs.LineCuts.{lines_of_nothing, lines_at_feed, lines_at_end, end_of, empty_is}
use Rattle.droid_lines.proofs.line_feeds.next_line.Goals as goal

pub returns-then-is_empty-clause-line : goal.returns-then-is_empty-clause-line
returns-then-is_empty-clause-line c =
    ap lines_of (empty_is c.args.input.now (search rules)) ∙ lines_of_nothing

pub returns-in-Some-clause-line : goal.returns-in-Some-clause-line
returns-in-Some-clause-line c = lines_at_feed c.args.input.now _ c.in-Some.place (search rules) (end_of (c.in-Some.place + 1) c.args.input.now)

pub returns-in-None-clause-line : goal.returns-in-None-clause-line
returns-in-None-clause-line c = lines_at_end c.args.input.now (search rules) (search rules)
