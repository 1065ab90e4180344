use Rattle.std.proofs.Common.{take, flat_map}
use Rattle.std.specs.Fmt.{HasWritten, IsPlainFormatter}
use Rattle.droid_cmd_identify.specs.Lines.{format_line}
use Rattle.droid_cmd_identify.proofs.forms.file_lines.write_more.Given as goal

abbrev pub invariant-loop-its : goal.invariant-loop-its
invariant-loop-its g l =
    IsPlainFormatter l.initial.f → HasWritten g.W.Write.write_str_gives l.initial.f (flat_map (format_line l.path) (take l.its-index l.formats)) l.f
