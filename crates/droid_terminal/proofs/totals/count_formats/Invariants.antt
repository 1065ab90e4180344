use Rattle.std.proofs.Common.{take}
use Rattle.droid_terminal.specs.WalkCounts.{CountsFormats, HasFew}
use Rattle.droid_terminal.proofs.totals.count_formats.Given as goal

abbrev pub invariant-loop-puid : goal.invariant-loop-puid
invariant-loop-puid l = record {
  counts : CountsFormats (take l.puid-index l.puid-items) l.initial.formats l.formats;
  few : HasFew l.initial.formats l.formats;
}
