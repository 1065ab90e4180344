use Rattle.std.proofs.Common.{take, flat_map}
use Rattle.std.specs.Fmt.{HasWritten, IsPlainFormatter}
use Rattle.droid_cmd_identify.specs.Siegfried.{sf_more}
use Rattle.droid_cmd_identify.proofs.forms.sf_file.write_more.Given as goal

abbrev pub invariant-loop-its : goal.invariant-loop-its
invariant-loop-its g l =
    IsPlainFormatter l.initial.f → HasWritten g.W.Write.write_str_gives l.initial.f (flat_map (sf_more l.size l.method) (take l.its-index l.formats)) l.f
