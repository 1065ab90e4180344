use Rattle.std.proofs.Common.{flat_map, take}
use Rattle.std.specs.Fmt.{HasWritten, IsPlainFormatter}
use Rattle.droid_cmd_registry.specs.Reports.{left_line}
use Rattle.droid_cmd_registry.proofs.registry_report.write_left_out.Given as goal

abbrev pub invariant-loop-it : goal.invariant-loop-it
invariant-loop-it g l =
    IsPlainFormatter l.initial.f → HasWritten g.W.Write.write_str_gives l.initial.f (flat_map (left_line l.formats) (take l.it-index l.left_out)) l.f
