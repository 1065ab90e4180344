use Rattle.std.proofs.Common.{◌≡◌, length, None}
use Rattle.droid_frame.specs.Seen.{IsSound}
use Rattle.droid_frame.proofs.InTurn.{OverItems}
use Rattle.droid_script.specs.Scripts.{WritesAnswer}
use Rattle.droid_script.proofs.Runs.{Progress}
use Rattle.droid_script.proofs.run.run_lines.Given as goal

-- the first lines ran, and in their replies the writer lasted
abbrev pub invariant-loop-line : goal.invariant-loop-line
invariant-loop-line g l = record {
  progress : Progress l.fn.service l.service l.input l.rest l.tally (g.W.Write.contents l.fn.writer) (g.W.Write.contents l.writer);
  lasts : IsSound (g.W.SteadyWrite.seen l.fn.writer) → g.W.SteadyWrite.room l.fn.writer ≡ None →
      OverItems g.W.SteadyWrite.seen (WritesAnswer g.W.Write.contents) l.fn.writer l.writer l.tally.lines × (g.W.SteadyWrite.room l.writer ≡ None);
}

abbrev pub decreases-loop-line : goal.decreases-loop-line
decreases-loop-line g l = length l.rest
