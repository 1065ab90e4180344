use Rattle.std.proofs.Common.{◌≡◌, Some, sym, ◌∙◌}
use Rattle.droid_lines.specs.Lines.{line_value}
use Rattle.droid_script.proofs.Runs.{frame_is, line_handled}
use Rattle.droid_script.proofs.run.handle_line.Goals as goal

pub returns-clause-ok : goal.returns-clause-ok
returns-clause-ok c = λ setting history stands.
    let line = c.in-Some.line in
    let value : line_value c.args.line.now ≡ Some line = sym c.in_ok-line.ensures.value ∙ c.in-Some.is in
    rw value (line_handled setting history line c.in_ok-frame.frame c.handle.result c.handle.new.self
    (frame_is line c.in_ok-frame.frame c.in_ok-frame.ensures.bytes c.in_ok-frame.ensures.spells c.in_ok-frame.ensures.sender)
    (c.handle.ensures.handles setting history stands))
