use Rattle.std.proofs.Common.{◌≡◌, ◌++◌, map}
use Rattle.droid_terminal.specs.Frequencies.{format_of}
use Rattle.droid_terminal.proofs.format_counts.all_formats.Given as goal

abbrev pub invariant-loop-puid : goal.invariant-loop-puid
invariant-loop-puid l = l.all.items ++ map format_of l.puid-iterator ≡ map format_of l.formats.entries
