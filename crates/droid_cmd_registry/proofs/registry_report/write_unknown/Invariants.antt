use Rattle.std.proofs.Common.{flat_map, take}
use Rattle.std.specs.Fmt.{HasWritten, IsPlainFormatter}
use Rattle.droid_cmd_registry.specs.Reports.{unknown_line}
use Rattle.droid_cmd_registry.proofs.registry_report.write_unknown.Given as goal

abbrev pub invariant-loop-name : goal.invariant-loop-name
invariant-loop-name g l =
    IsPlainFormatter l.initial.f → HasWritten g.W.Write.write_str_gives l.initial.f (flat_map unknown_line (take l.name-index l.names)) l.f
