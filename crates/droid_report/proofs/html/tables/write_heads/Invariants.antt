use Rattle.std.proofs.Common.{flat_map, take}
use Rattle.std.specs.Fmt.{HasWritten, IsPlainFormatter}
use Rattle.droid_report.specs.TableTrees.{head_text}
use Rattle.droid_report.proofs.html.tables.write_heads.Given as goal

abbrev pub invariant-loop-head : goal.invariant-loop-head
invariant-loop-head g l =
    IsPlainFormatter l.initial.f → HasWritten g.W.Write.write_str_gives l.initial.f (flat_map head_text (take l.head-index l.heads)) l.f
