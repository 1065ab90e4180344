use Rattle.std.proofs.Common.{take, flat_map}
use Rattle.std.specs.Fmt.{HasWritten, IsPlainFormatter}
use Rattle.droid_cmd_identify.specs.Lines.{more_text}
use Rattle.droid_cmd_identify.proofs.forms.match_text.write_more.Given as goal

abbrev pub invariant-loop-its : goal.invariant-loop-its
invariant-loop-its g l =
    IsPlainFormatter l.initial.f → HasWritten g.W.Write.write_str_gives l.initial.f (flat_map more_text (take l.its-index l.matches)) l.f
