-- the batch fits what was read so far, and the lanes before this one were served
use Rattle.std.proofs.Common.{List}
use Rattle.droid_profile.specs.FilesRead.{Fits, ReadsOn}
use Rattle.droid_profile.specs.declared.lanes.file_row.FileRow.{FileRow}
use Rattle.droid_profile.proofs.TurnSteps.{Served}
use Rattle.droid_profile.proofs.lanes.reader.read_turn.Given as goal

abbrev pub invariant-loop-lane : goal.invariant-loop-lane
invariant-loop-lane g l = record {
  fits : Fits l.registry l.options l.batch;
  goes_on : (first : List FileRow) (start : g.row.T.Denot) (heard : g.row.W.Denot) → ReadsOn g.T.Tree.observes g.W.Watcher.hears l.registry l.options first l.fn.batch start l.fn.tree heard l.fn.watcher
      → ReadsOn g.T.Tree.observes g.W.Watcher.hears l.registry l.options first l.batch start l.tree heard l.watcher;
  served : Served l.lane l.fn.batch l.batch;
}
